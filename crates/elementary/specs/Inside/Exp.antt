-- What the contracts of exp's helpers say. Definitions only.
use Rattle.std.specs.Prelude.{◌≡◌, Bool, ℕ, ◌≤◌, Float}
use Rattle.std.specs.Float.Ieee.{minus, to_signed}
use Rattle.std.specs.Float.Ieee.Exact.{HasValue}
use Rattle.elementary.specs.Ops.{one}
use Rattle.elementary.specs.Exp.{exp_sum}

-- k is a whole number of at most 1078 in size
pub record Whole (k : Float) : Type 0 where
  pub sign : Bool
  pub size : ℕ
  pub value : HasValue k sign size 1
  pub small : size ≤ 1078

-- e is k + 2048
pub record BiasedExponent (k : Float) (e : ℕ) : Type 0 where
  pub exponent : to_signed 63 k ≡ minus e 2048
  pub low : 960 ≤ e
  pub high : e ≤ 3136

-- p is where the sum of r stands with n of its 13 steps left
abbrev pub StepsLeft : ℕ → Float → Float → Type 0
StepsLeft n r p = exp_sum 13 r one ≡ exp_sum n r p
