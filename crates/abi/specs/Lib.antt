-- What the exported functions add to the layers' definitions.
pub mod Bytes
pub mod Solutions
pub mod Board
-- Promises: statements alone, no proof.
pub mod Promises
