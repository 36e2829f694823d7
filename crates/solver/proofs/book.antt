-- Laws that the proofs of the book use.
pub mod Slots
pub mod Front
pub mod Zeros
