-- What the proofs of the square root use.
pub mod Alignment
pub mod Turns
pub mod Found
pub mod Rounding
