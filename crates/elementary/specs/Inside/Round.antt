-- What the contracts of the rounding leaf say of numbers, and the parts of a finite float. Assumes nothing.
use Rattle.std.specs.Prelude.{◌≡◌, Bool, ℕ, ◌*◌, ◌^◌, ◌%◌, ◌<◌, ◌≤◌, Float}
use Rattle.std.specs.Float.{binary64}
use Rattle.std.specs.Float.Ieee.{round}
use Rattle.std.specs.Float.MulAdd.{IsRoundable}
use Rattle.std.specs.Float.Ieee.Exact.{HasValue}

-- r is the float nearest to ±n / 2 ^ 2404, whatever the n that v * 2 ^ e is, or stands for with its last digit
abbrev pub Rounds : Float → Bool → ℕ → ℕ → Type 0
Rounds r s v e = (n : ℕ) → IsRoundable v (2 ^ e) n → r ≡ round binary64 s n (2 ^ 2404)

-- a significand of 53 digits, and its exponent
pub record Digits (m e : ℕ) : Type 0 where
  pub lead : 2 ^ 52 ≤ m
  pub top : m < 2 ^ 53
  pub least : 12 ≤ e
  pub room : e < 2 ^ 12

-- a finite float as a sign and m * 2 ^ e / 2 ^ 1138: a whole number of the smallest value, 2 ^ 64 / 2 ^ 1138
pub record PartsOf (x : Float) (s : Bool) (m e : ℕ) : Type 0 where
  pub value : HasValue x s (m * 2 ^ e) (2 ^ 1138)
  pub whole : m * 2 ^ e % 2 ^ 64 ≡ 0
