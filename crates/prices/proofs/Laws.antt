-- Laws, by subject. Nobody has to believe them: each is proved.
pub mod Flags
pub mod Sizes
pub mod Infinities
pub mod Refusals
pub mod Regions
pub mod Exponentials
pub mod Recursion
pub mod Caps
