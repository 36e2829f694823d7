-- Sums and products of floats with what rounding took off them, which are floats again (Dekker, Knuth). Nobody has to believe them: each is proved.
pub mod Digits
pub mod Pairs
pub mod TwoSum
pub mod TwoProduct
pub mod Between
pub mod Whole
pub mod Fused
