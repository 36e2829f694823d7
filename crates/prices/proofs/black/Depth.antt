-- A depth that is not 0, and the depth below it. Assumes nothing.
use mathlib.Core.Path.{◌≡◌, refl}
use Prim.Native.Nat.{ℕ, zero, suc, ◌-◌, ◌≤◌, ◌<◌}
use native.Mathlib.Omega.{arith}

pub falls_below : (n t : ℕ) → n ≡ t → (n ≡ 0 → ⊥) → n - 1 < t
falls_below zero t e f = absurd (f refl)
falls_below (suc n) t e f = omega arith

pub not_zero : (n : ℕ) → (n ≡ 0 → ⊥) → 1 ≤ n
not_zero zero f = absurd (f refl)
not_zero (suc n) f = omega arith
