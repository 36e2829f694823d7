-- `normalised_vega` of so_rational.rs, operation by operation. Definitions only.
use Rattle.std.specs.Prelude.{Bool, cond, ◌||◌, Float}
use Rattle.std.specs.Float.Ieee.{neg, le}
use Rattle.elementary.specs.Ops.{◌⊕◌, ◌⊗◌, ◌⊘◌, bits, +0, half, eighth}
use Rattle.elementary.specs.Methods.{abs_of, square_of}
use Rattle.elementary.specs.Exp.{exp_of}

-- 1 / √(2π), as the Rust rounds it
abbrev pub ONE_OVER_SQRT_TWO_PI : Float
ONE_OVER_SQRT_TWO_PI = bits 0x3fd9_8845_33d4_3651  -- 0.3989422804014327

-- the square root of the least positive normal number
abbrev pub SQRT_DBL_MIN : Float
SQRT_DBL_MIN = bits 0x2000_0000_0000_0000  -- 1.4916681462400413e-154

-- where x is 0
abbrev pub at_the_money : Float → Float
at_the_money s = ONE_OVER_SQRT_TWO_PI ⊗ exp_of (neg eighth ⊗ s ⊗ s)

-- s is 0 or below, or too small beside |x|: vega is 0
abbrev pub vega_vanishes : Float → Float → Bool
vega_vanishes ax s = le s +0 || le s (ax ⊗ SQRT_DBL_MIN)

-- normalised_vega
unfoldable pub vega_of : Float → Float → Float
vega_of x s =
    let ax = abs_of x in
    let vega_at_the_money = at_the_money s in
    let elsewhere = ONE_OVER_SQRT_TWO_PI ⊗ exp_of (neg half ⊗ (square_of (x ⊘ s) ⊕ square_of (half ⊗ s))) in
    cond (le ax +0) vega_at_the_money (cond (vega_vanishes ax s) +0 elsewhere)
