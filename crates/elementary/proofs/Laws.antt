-- Laws, by subject. Nobody has to believe them: each is proved.
-- Whole numbers.
pub mod Powers
pub mod Ordering
-- Floats: their bits, their values, how they compare, how large results can be.
pub mod Held
pub mod Places
pub mod Nearest
pub mod Rounding
pub mod Order
pub mod Compare
pub mod Bounds
pub mod Bits
pub mod Values
pub mod Sticky
pub mod Leaf
pub mod Pattern
pub mod Sign
pub mod Decode
pub mod Fields
pub mod Adding
pub mod Errors
-- The functions.
pub mod Greatest
pub mod Close
pub mod Isqrt
pub mod SqrtDigits
pub mod SqrtNearest
pub mod FmaOne
pub mod Halving
pub mod Finite
pub mod Inverse
pub mod Caps
-- Eight numbers side by side.
pub mod Eight
