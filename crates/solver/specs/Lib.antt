-- Rules: what a reader believes.
pub mod Loop
pub mod Step
pub mod Guess
pub mod Solve
pub mod Answers
pub mod LittleEndian
pub mod Trail
pub mod BidAsk
pub mod Book
pub mod Listing
-- Promises: statements alone, no proof.
pub mod Promises
pub mod Table
-- Definitions that only private contracts use.
pub mod Inside
