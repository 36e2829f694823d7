-- How large a float is. Definitions only.
use Rattle.std.specs.Prelude.{Bool, false, ℕ, ◌*◌, ◌^◌, ◌≤◌, ℤ, Float}
use Rattle.std.specs.Float.{fin}
use Rattle.std.specs.Float.Ieee.{up, down}

-- x is finite, has the sign s, and is at most b in size
pub data Side : Float → Bool → ℕ → Type 0 where
  sized : {s : Bool} {b : ℕ} (m : ℕ) (e : ℤ) → m * up e ≤ b * down e → Side (fin s m e) s b

-- the same, whatever the sign
pub record AtMost (x : Float) (b : ℕ) : Type 0 where
  pub sign : Bool
  pub side : Side x sign b

-- x is finite, not negative, and 2 ^ -j or more
pub data Over : Float → ℕ → Type 0 where
  reaches : {j : ℕ} (m : ℕ) (e : ℤ) → down e ≤ m * up e * 2 ^ j → Over (fin false m e) j
