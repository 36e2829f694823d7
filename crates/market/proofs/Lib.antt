pub mod Laws
-- The proofs of the promises.
pub mod Promised
-- The definitions at closed inputs.
mod Examples
