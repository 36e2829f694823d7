-- Definitions that only the contracts of private functions use. No promise depends on them.
pub mod Round
pub mod Bounds
pub mod Sqrt
pub mod MulAdd
pub mod Errors
pub mod Exp
pub mod Each
pub mod Bisection
pub mod Cdf
