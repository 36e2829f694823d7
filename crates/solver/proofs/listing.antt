-- Laws that the proofs of listing use.
mod Digits
