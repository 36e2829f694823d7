-- Rules: what a reader believes.
pub mod Refusals
pub mod Board
pub mod Packed
-- Promises: statements alone, no proof.
pub mod Promises
-- Definitions that only private contracts use.
pub mod Inside
