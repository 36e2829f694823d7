-- Laws that the proofs of small_t use.
pub mod FusedStep
pub mod Ranges
pub mod Filling
