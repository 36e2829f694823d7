-- The promises of specs/Promises, each under its name.
pub mod Promised
