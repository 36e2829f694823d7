-- Laws, by subject. Nobody has to believe them: each is proved.
pub mod Blocks
pub mod Listing
pub mod Parts
