pub mod Laws
-- The definitions at closed inputs.
mod Examples
mod Table
-- The proofs of the promises.
pub mod Promised
