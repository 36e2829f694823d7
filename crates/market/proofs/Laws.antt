-- Lemmas by subject.
pub mod Digits
pub mod Whole
pub mod Price
pub mod Aligned
pub mod Written
pub mod Back
pub mod Border
pub mod Quotes
pub mod Changes
pub mod Moves
pub mod Calls
pub mod Boards
pub mod Highest
