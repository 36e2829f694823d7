pub mod Laws
pub mod Promised
