-- Definitions that only the contracts of private functions use. No promise depends on them.
pub mod Start
pub mod Branch
pub mod Place
