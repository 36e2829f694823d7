-- Rules: what a reader believes. By the file of the Rust that they follow.
pub mod Inputs
pub mod Answers
pub mod Intrinsic
pub mod Vega
pub mod Black
pub mod RationalCubic
-- Promises: statements alone, no proof.
pub mod Promises
-- Definitions that only private contracts use: what functions inside the build say of each other.
pub mod Inside
