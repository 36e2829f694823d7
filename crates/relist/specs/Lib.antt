-- Rules: what a reader believes.
pub mod Lines
-- Promises: statements alone, no proof.
pub mod Promises
-- Definitions that only private contracts use.
pub mod Inside
