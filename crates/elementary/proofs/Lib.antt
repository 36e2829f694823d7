pub mod Laws
-- The promises of specs/Promises, each under its name.
pub mod Promised
-- The definitions at closed inputs.
mod Examples
pub mod RuleSets
