-- The definition at closed inputs, computed by antt.
use mathlib.Core.Path.{◌≡◌, refl}
use mathlib.Core.Bool.{true}
use lib.Ieee.{binary64, nan, inf, of_bits}
use Rattle.elementary.specs.Floor.{floor_of}

-- −0.0 stays −0.0
floor_of_minus_zero : floor_of binary64 (of_bits binary64 0x8000_0000_0000_0000) ≡ of_bits binary64 0x8000_0000_0000_0000
unfolding floor_of of_bits
floor_of_minus_zero = refl

-- 0.5 to +0, −0.5 to −1
floor_of_half : floor_of binary64 (of_bits binary64 0x3fe0_0000_0000_0000) ≡ of_bits binary64 0
unfolding floor_of of_bits
floor_of_half = refl

floor_of_minus_half : floor_of binary64 (of_bits binary64 0xbfe0_0000_0000_0000) ≡ of_bits binary64 0xbff0_0000_0000_0000
unfolding floor_of of_bits
floor_of_minus_half = refl

-- the subnormal numbers next to 0
floor_of_least : floor_of binary64 (of_bits binary64 1) ≡ of_bits binary64 0
unfolding floor_of of_bits
floor_of_least = refl

floor_of_minus_least : floor_of binary64 (of_bits binary64 0x8000_0000_0000_0001) ≡ of_bits binary64 0xbff0_0000_0000_0000
unfolding floor_of of_bits
floor_of_minus_least = refl

-- 2.5 to 2, −2.5 to −3, and −3 to itself
floor_of_2½ : floor_of binary64 (of_bits binary64 0x4004_0000_0000_0000) ≡ of_bits binary64 0x4000_0000_0000_0000
unfolding floor_of of_bits
floor_of_2½ = refl

floor_of_minus_2½ : floor_of binary64 (of_bits binary64 0xc004_0000_0000_0000) ≡ of_bits binary64 0xc008_0000_0000_0000
unfolding floor_of of_bits
floor_of_minus_2½ = refl

floor_of_minus_3 : floor_of binary64 (of_bits binary64 0xc008_0000_0000_0000) ≡ of_bits binary64 0xc008_0000_0000_0000
unfolding floor_of of_bits
floor_of_minus_3 = refl

-- 2^52 − 0.5, the last number with a fraction: down to 2^52 − 1, and below 0 to −2^52, where the exponent grows
floor_of_last_fraction : floor_of binary64 (of_bits binary64 0x432f_ffff_ffff_ffff) ≡ of_bits binary64 0x432f_ffff_ffff_fffe
unfolding floor_of of_bits
floor_of_last_fraction = refl

floor_of_minus_last_fraction : floor_of binary64 (of_bits binary64 0xc32f_ffff_ffff_ffff) ≡ of_bits binary64 0xc330_0000_0000_0000
unfolding floor_of of_bits
floor_of_minus_last_fraction = refl

-- f64::MAX, the infinities and NaN stay
floor_of_largest : floor_of binary64 (of_bits binary64 0x7fef_ffff_ffff_ffff) ≡ of_bits binary64 0x7fef_ffff_ffff_ffff
unfolding floor_of of_bits
floor_of_largest = refl

floor_of_minus_infinity : floor_of binary64 (inf true) ≡ inf true
unfolding floor_of
floor_of_minus_infinity = refl

floor_of_nan : floor_of binary64 nan ≡ nan
unfolding floor_of
floor_of_nan = refl
