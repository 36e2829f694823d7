-- Laws that the proofs of black use.
mod Depth
