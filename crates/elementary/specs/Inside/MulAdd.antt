-- What the contracts inside mul_add say of numbers. Assumes nothing.
use Rattle.std.specs.Prelude.{◌≡◌, Bool, ℕ, ◌%◌, ◌^◌, ◌<◌, ◌≤◌, Float}
use Rattle.std.specs.Float.{binary64}
use Rattle.std.specs.Float.Ieee.{sum}
use Rattle.elementary.specs.Inside.Round.{Rounds}

-- digits to add: 117 or 118, the last two of them 0, at an exponent that has room below it
pub record Scaled (v e : ℕ) : Type 0 where
  pub lead : 2 ^ 116 ≤ v
  pub top : v < 2 ^ 118
  pub even : v % 4 ≡ 0
  pub least : 128 ≤ e
  pub room : e < 2 ^ 30

-- what ±v * 2 ^ e rounds to, its last digit standing for more, is the sum ±a ± b, in units of 2 ^ -2404
abbrev pub Adds : Bool → ℕ → Bool → ℕ → Bool → ℕ → ℕ → Type 0
Adds m a n b s v e = (r : Float) → Rounds r s v e → r ≡ sum binary64 m a n b (2 ^ 2404)
