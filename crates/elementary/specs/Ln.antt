-- Document 01's ln and powf(1/3), operation by operation. Definitions only.
use Rattle.std.specs.Prelude.{true, false, cond, ℕ, zero, suc, ◌+◌, ◌-◌, ◌*◌, ◌^◌, Float}
use Rattle.std.specs.Float.{nan, inf, binary64}
use Rattle.std.specs.Float.Ieee.{low, size, minus, round, of_int, lt, eq, ne}
use Rattle.elementary.specs.Ops.{◌⊕◌, ◌⊖◌, ◌⊗◌, ◌⊘◌, bits, float, +0, half, one, two, H, L}
use Rattle.elementary.specs.Sqrt.{in_units}
use Rattle.elementary.specs.Exp.{exp_of}
use Rattle.elementary.specs.Methods.{is_zero}

-- above it m is halved
abbrev pub SQRT_2 : Float
SQRT_2 = bits 0x3ff6_a09e_667f_3bcd  -- 1.4142135623730951

-- y = m × 2^e with 1 ≤ m < 2, for a y above 0. In units of the smallest value, 2^−1074, y is a whole number of e + 1075 binary digits.
unfoldable pub place_of : Float → ℕ
place_of y = size (in_units binary64 y) - 1

-- m
unfoldable pub significand_of : Float → Float
significand_of y = round binary64 false (in_units binary64 y) (2 ^ place_of y)

-- a place among the digits as the exponent e
abbrev pub exponent_at : ℕ → Float
exponent_at place = of_int binary64 (minus place (low binary64))

-- q becomes 1/(2 × i + 1) + z × q, for i from n − 1 down to 0
unfoldable pub ln_sum : ℕ → Float → Float → Float
ln_sum zero z q = q
ln_sum (suc i) z q = ln_sum i z (one ⊘ float (2 * i + 1) ⊕ z ⊗ q)

-- the result for m and e, after m is halved where it is to be
unfoldable pub ln_at : Float → Float → Float
ln_at m e =
    let f = m ⊖ one in
    let u = f ⊘ (two ⊕ f) in
    let z = u ⊗ u in
    let q = ln_sum 11 z (one ⊘ float 23) in
    e ⊗ H ⊕ (two ⊗ u ⊗ q ⊕ e ⊗ L)

-- ln of a finite y above 0. m is halved where it is above √2
unfoldable pub ln_inner : Float → Float
ln_inner y =
    let m = significand_of y in
    let place = place_of y in
    let above = lt SQRT_2 m in
    ln_at (cond above (half ⊗ m) m) (exponent_at (cond above (suc place) place))

-- ln
unfoldable pub ln_of : Float → Float
ln_of y =
    let inner = ln_inner y in
    cond (ne y y) nan
    (cond (lt y +0) nan
    (cond (eq y +0) (inf true)
    (cond (eq y (inf false)) (inf false)
    inner)))

-- powf(1/3)
unfoldable pub cube_root_of : Float → Float
cube_root_of y = let root = exp_of (ln_of y ⊗ (one ⊘ float 3)) in cond (is_zero y) +0 root
