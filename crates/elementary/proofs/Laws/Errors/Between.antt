-- What rounds to a float lies where that float does, and a rounded number between two that agree is theirs. Assumes nothing.
use mathlib.Core.Path.{◌≡◌, refl}
use Prim.Native.Nat.{ℕ, ◌+◌, ◌-◌, ◌≤◌, ◌<◌}
use native.Mathlib.Decide.{dec_le}
use native.Mathlib.Omega.{arith}
use lib.Dec.{T}
use lib.Pow.{pow_pos}
use lib.Ieee.{Float, binary64, fits}
use Rattle.elementary.proofs.Laws.Errors.Digits.{dist, Short, near, near_exact, near_mono, near_dist, near_part}
use Rattle.elementary.proofs.Laws.Errors.Pairs.{Is, one_value, one_float}

-- n - m is not below a float that its rounded value is above
pub from_below : (a b n m : ℕ) → Short (dist a b) → a + near (m - n) < near (n - m) + b → a + m ≤ n + b
from_below a b n m S h = elim (dec_le (a + m) (n + b)) [
  | yes l ↦ l
  | no l ↦
      let u = near_mono (n - m) (a - b) (omega arith) in
      let v = near_mono (b - a) (m - n) (omega arith) in
      absurd (omega (arith, near_part a b S))
]

none : (n m : ℕ) → near (n - m) ≡ near (m - n) → n ≡ m
none n m e = elim (dec_le 1 (dist n m)) [
  | yes h ↦ absurd (omega (arith, near_mono 1 (dist n m) h, near_exact 1 (record { unit = 0; mult = (1, refl); top = pow_pos 53 }), (near_dist n m).0))
  | no h ↦ omega arith
]

-- r is n1 - m1 rounded and n2 - m2 rounded, and f is a number between these, rounded
pub between : {r f : Float} (n m n1 m1 n2 m2 : ℕ) {i j k : ℕ} → T (fits binary64 r) → T (fits binary64 f)
    → Is r (near (n1 - m1)) (near (m1 - n1)) i → Is r (near (n2 - m2)) (near (m2 - n2)) j → Is f (near (n - m)) (near (m - n)) k
    → n1 + m ≤ n + m1 → n + m2 ≤ n2 + m → n1 + m2 < n2 + m1 → r ≡ f
between n m n1 m1 n2 m2 FR FF R R' F lo hi apart =
    let same = one_value R R' in
    let up = near_mono (n1 - m1) (n - m) (omega arith) in
    let up' = near_mono (n - m) (n2 - m2) (omega arith) in
    let down = near_mono (m - n) (m1 - n1) (omega arith) in
    let down' = near_mono (m2 - n2) (m - n) (omega arith) in
    one_float FR FF R F (omega arith) (λ e. omega (arith, none n1 m1 e, none n2 m2 (omega arith)))
