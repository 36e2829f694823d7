-- The small methods of f64: abs, max, is_zero, powi(2). Definitions only.
use Rattle.std.specs.Prelude.{Bool, false, cond, Float}
use Rattle.std.specs.Float.{nan, inf, fin}
use Rattle.std.specs.Float.Ieee.{lt, eq, ne}
use Rattle.elementary.specs.Ops.{◌⊗◌, +0}

-- abs clears the sign
unfoldable pub abs_of : Float → Float
abs_of nan = nan
abs_of (inf s) = inf false
abs_of (fin s m e) = fin false m e

-- whether the sign is set; a NaN has none here
unfoldable pub sign_of : Float → Bool
sign_of nan = false
sign_of (inf s) = s
sign_of (fin s m e) = s

-- The other one if one is NaN, else the greater. Of two equal ones the one without the sign: so of two zeros of unequal sign +0, and any other two are the same.
unfoldable pub max_of : Float → Float → Float
unfolding sign_of
max_of a b = cond (ne a a) b (cond (ne b b) a (cond (lt a b) b (cond (lt b a) a (cond (sign_of a) b a))))

-- equal to 0
abbrev pub is_zero : Float → Bool
is_zero x = eq x +0

-- powi(2)
abbrev pub square_of : Float → Float
square_of y = y ⊗ y
