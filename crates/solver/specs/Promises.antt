-- The promises of this crate, statements alone: each name of type `Type 0` without parameters is one, and proofs/Promised has its proof.
pub mod Demand3
pub mod Answers
pub mod BidAsk
pub mod RuleSets
