-- Laws that the proofs of mul_add use.
pub mod Sums
pub mod Exactly
