-- Laws that the proofs of ln use.
mod Steps
mod Place
mod Ends
