-- Powers of 2. Assumes nothing.
use mathlib.Core.Path.{◌≡◌, sym, ap, ◌∙◌}
use Prim.Native.Nat.{ℕ, ◌-◌, ◌*◌, ◌^◌, ◌≤◌}
use native.Mathlib.Nat.{lt_of_not-le, not-le_of_lt, sub-add_cancel}
use native.Mathlib.Decide.{dec_le}
use lib.Pow.{pow-add, pow-lt}

pub pow_le_back : (a b : ℕ) → 2 ^ a ≤ 2 ^ b → a ≤ b
pow_le_back a b h = go (dec_le a b)
  where
    go : Dec (a ≤ b) → a ≤ b
    go (yes l) = l
    go (no n) = absurd (not-le_of_lt (pow-lt (lt_of_not-le n)) h)

-- 2 ^ b as 2 ^ a and what is left
pub pow_split : (a b : ℕ) → a ≤ b → 2 ^ b ≡ 2 ^ (b - a) * 2 ^ a
pow_split a b h = ap (λ (z : ℕ). 2 ^ z) (sym (sub-add_cancel h)) ∙ pow-add 2 (b - a) a
