-- The digits of a number, one step at a time. Assumes nothing.
use mathlib.Core.Path.{◌≡◌, refl}
use mathlib.Core.List.{[], ◌∷◌, ◌++◌}
use Prim.Native.Nat.{ℕ, zero, suc, ◌+◌, ◌-◌, ◌/◌, ◌%◌, ◌≤◌, ◌<◌}
use native.Mathlib.Omega.{arith}
use borrow.Author.Tests.{lt-ltb, le-ltb}
use Rattle.solver.specs.Listing.{decimal_by, hex_digit, hex_by}

pub not_zero : (k : ℕ) → (k ≡ 0 → ⊥) → 1 ≤ k
not_zero zero e = absurd (e refl)
not_zero (suc k) e = omega arith

-- ---- decimal

pub decimal_none : (k n : ℕ) → k ≡ 0 → decimal_by k n ≡ []
unfolding decimal_by
decimal_none zero n e = refl
decimal_none (suc k) n e = absurd (omega arith)

pub decimal_one : (k n : ℕ) → (k ≡ 0 → ⊥) → n < 10 → decimal_by k n ≡ (48 + n) ∷ []
unfolding decimal_by
decimal_one zero n e h = absurd (e refl)
decimal_one (suc k) n e h = rw (lt-ltb n 10 h)

pub decimal_more : (k n : ℕ) → (k ≡ 0 → ⊥) → 10 ≤ n → decimal_by k n ≡ decimal_by (k - 1) (n / 10) ++ ((48 + n % 10) ∷ [])
unfolding decimal_by
decimal_more zero n e h = absurd (e refl)
decimal_more (suc k) n e h = let d : suc k - 1 ≡ k = omega arith in rw (le-ltb n 10 h, d)

-- ---- hexadecimal

pub hex_none : (k n : ℕ) → k ≡ 0 → hex_by k n ≡ []
unfolding hex_by
hex_none zero n e = refl
hex_none (suc k) n e = absurd (omega arith)

pub hex_more : (k n : ℕ) → (k ≡ 0 → ⊥) → hex_by k n ≡ hex_by (k - 1) (n / 16) ++ (hex_digit (n % 16) ∷ [])
unfolding hex_by
hex_more zero n e = absurd (e refl)
hex_more (suc k) n e = let d : suc k - 1 ≡ k = omega arith in rw d
