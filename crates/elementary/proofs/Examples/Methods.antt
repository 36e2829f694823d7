-- The definitions at closed inputs, computed by antt.
use mathlib.Core.Path.{◌≡◌, refl}
use lib.Ieee.{nan, lt, ne, of_bits}
use Rattle.elementary.specs.Ops.{bits, +0}
use Rattle.elementary.specs.Methods.{abs_of, max_of}

-- a NaN gives way, on either side
max_nan_one : max_of nan (bits 0x3ff0_0000_0000_0000) ≡ bits 0x3ff0_0000_0000_0000
unfolding max_of of_bits ne lt
max_nan_one = refl

max_one_nan : max_of (bits 0x3ff0_0000_0000_0000) nan ≡ bits 0x3ff0_0000_0000_0000
unfolding max_of of_bits ne lt
max_one_nan = refl

max_nan_nan : max_of nan nan ≡ nan
unfolding max_of ne
max_nan_nan = refl

-- of the zeros +0 where there is one
max_zeros : max_of +0 (bits 0x8000_0000_0000_0000) ≡ +0
unfolding max_of of_bits ne lt
max_zeros = refl

max_zeros_swapped : max_of (bits 0x8000_0000_0000_0000) +0 ≡ +0
unfolding max_of of_bits ne lt
max_zeros_swapped = refl

max_minus_zeros : max_of (bits 0x8000_0000_0000_0000) (bits 0x8000_0000_0000_0000) ≡ bits 0x8000_0000_0000_0000
unfolding max_of of_bits ne lt
max_minus_zeros = refl

-- −0.0 loses its sign
abs_minus_zero : abs_of (bits 0x8000_0000_0000_0000) ≡ +0
unfolding abs_of of_bits
abs_minus_zero = refl
