-- The promises of this crate, statements alone: each name of type `Type 0` without parameters is one, and proofs/Promised has its proof.
pub mod Board
pub mod Packed
