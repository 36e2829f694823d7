-- Rules: what a reader believes. By the file of the Rust that they follow, and document 01's for what the Rust gets from elsewhere.
pub mod Ops
pub mod RuleSets
pub mod Methods
pub mod Floor
pub mod Sqrt
pub mod MulAdd
pub mod Exp
pub mod Ln
pub mod Cody
pub mod NormalDistribution
-- Promises: statements alone, no proof.
pub mod Promises
-- Definitions that only private contracts use: what functions inside the crate say of each other.
pub mod Inside
