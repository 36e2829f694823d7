-- Definitions that only the contracts of private functions use, and of price_and_vega, which is public for the solver's sake. No promise depends on them.
pub mod Regions
pub mod Exponentials
pub mod Point
pub mod SmallT
