-- The definition at closed inputs, computed by antt.
use mathlib.Core.Path.{◌≡◌, refl}
use mathlib.Core.Bool.{true, false}
use lib.IntN.{pos, negsuc}
use lib.Ieee.{binary32, binary64, nan, inf, fin, of_bits, units, size}
use Rattle.elementary.specs.Sqrt.{isqrt, root_by, in_units, sqrt_of, aligned_of, first_digits, sqrt_digits_of}

root_of_4 : sqrt_of binary64 (fin false 1 (pos 2)) ≡ fin false 1 (pos 1)
unfolding sqrt_of units size
root_of_4 = refl

root_of_2 : sqrt_of binary64 (of_bits binary64 0x4000_0000_0000_0000) ≡ of_bits binary64 0x3ff6_a09e_667f_3bcd
unfolding sqrt_of of_bits units size
root_of_2 = refl

root_of_least : sqrt_of binary64 (of_bits binary64 1) ≡ of_bits binary64 0x1e60_0000_0000_0000
unfolding sqrt_of of_bits units size
root_of_least = refl

root_of_largest : sqrt_of binary64 (of_bits binary64 0x7fef_ffff_ffff_ffff) ≡ of_bits binary64 0x5fef_ffff_ffff_ffff
unfolding sqrt_of of_bits units size
root_of_largest = refl

root_of_minus_zero : sqrt_of binary64 (fin true 0 (pos 0)) ≡ fin true 0 (pos 0)
unfolding sqrt_of
root_of_minus_zero = refl

root_of_minus_one : sqrt_of binary64 (fin true 1 (pos 0)) ≡ nan
unfolding sqrt_of
root_of_minus_one = refl

root_of_infinity : sqrt_of binary64 (inf false) ≡ inf false
unfolding sqrt_of
root_of_infinity = refl

-- at the other format: √2 as an `f32`
root_of_2_single : sqrt_of binary32 (of_bits binary32 0x4000_0000) ≡ of_bits binary32 0x3fb5_04f3
unfolding sqrt_of of_bits units size
root_of_2_single = refl

-- ---- the digits: √2 is 1.0110101.. in binary
digits_of_2 : sqrt_digits_of (of_bits binary64 0x4000_0000_0000_0000) 8 ≡ 0b1011_0101
unfolding aligned_of first_digits in_units isqrt root_by of_bits units size
digits_of_2 = refl

-- past the last turn
all_digits_of_2 : sqrt_digits_of (of_bits binary64 0x4000_0000_0000_0000) 4294967295 ≡ 0x16_a09e_667f_3bcc
unfolding aligned_of first_digits in_units isqrt root_by of_bits units size
all_digits_of_2 = refl

-- 0.5 is 2 × 2 ^ -2, and the least value above 0 is 1 × 2 ^ -1074
half_aligned : aligned_of (of_bits binary64 0x3fe0_0000_0000_0000) ≡ record { significand = 0x20_0000_0000_0000; exponent = negsuc 1 }
unfolding aligned_of in_units of_bits units size
half_aligned = refl

least_aligned : aligned_of (of_bits binary64 1) ≡ record { significand = 0x10_0000_0000_0000; exponent = negsuc 1073 }
unfolding aligned_of in_units of_bits units size
least_aligned = refl

minus_one_not_aligned : aligned_of (fin true 1 (pos 0)) ≡ record { significand = 0; exponent = pos 0 }
unfolding aligned_of
minus_one_not_aligned = refl
