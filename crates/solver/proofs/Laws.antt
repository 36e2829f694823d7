-- Laws, by subject. Nobody has to believe them: each is proved.
-- Runs and steps.
pub mod Runs
pub mod Bracket
pub mod Half
pub mod Numbers
pub mod Forms
pub mod Loops
pub mod Place
pub mod LoopInvariant
pub mod BySet
pub mod Caps
pub mod SolveCases
pub mod Ranges
-- Lists and bytes.
pub mod Overwritten
pub mod Trails
pub mod Lines
pub mod Parts
pub mod Bytes
