-- What the proofs of floor use.
mod Laws
