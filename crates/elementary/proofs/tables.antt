-- What the tables hold.
pub mod Laws
