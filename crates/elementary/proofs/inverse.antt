-- Laws that the proofs of the bisection use.
mod Laws
