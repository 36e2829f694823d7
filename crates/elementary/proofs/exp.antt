-- Laws that the proofs of exp use.
mod Power
mod Bias
mod Range
mod Steps
