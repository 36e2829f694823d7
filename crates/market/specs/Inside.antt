-- Definitions that only the contracts of private functions use. No promise depends on them.
pub mod Packed
