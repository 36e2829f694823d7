-- What the code's loop keeps: the promise of each turn. Assumes nothing.
use mathlib.Core.Path.{◌≡◌, ap, subst, ◌∙◌}
use mathlib.Core.Bool.{Bool, true, false, not, cond}
use Prim.Native.Nat.{ℕ, suc, ◌+◌, ◌-◌, ◌*◌, ◌^◌, ◌≤◌, ◌<◌}
use native.Mathlib.Nat.{lt_of_not-le, not-le_of_lt, mul-lt-mul_of_pos_right, pow-suc, le_refl}
use native.Mathlib.Omega.{arith}
use lib.Dec.{T, ltb, ltb→lt, nltb→le}
use lib.Pow.{pow_pos, pow_mono}
use Rattle.elementary.specs.declared.sqrt.Digits.{Digits}
use Rattle.elementary.specs.Sqrt.{first_digits, turn_of}
use Rattle.elementary.specs.Promises.{DigitsFound}
use Rattle.elementary.proofs.sqrt.Turns.{Turned, at_first, zero_digit, one_digit, small, not_above, greatest, digits_are}

-- ---- the promise, and what it says of plain numbers
pub found : (a t d s m : ℕ) → t ≤ 53 → Turned a (2 ^ (53 - t)) d s m → DigitsFound a t (first_digits t a) (record { doubled = s; left = m })
found a t d s m J h = rw (← digits_are a t d s m J h) record {
  digits = h.twice;
  not_above = not_above a (2 ^ (53 - t)) d s m h;
  greatest = greatest a (2 ^ (53 - t)) d s m h;
  left = h.whole;
}

pub turned : (a t d : ℕ) (state : Digits) → DigitsFound a t d state → Turned a (2 ^ (53 - t)) d state.doubled state.left
turned a t d state h =
    record {
      twice = h.digits;
      whole = h.left;
      next = lt_of_not-le (λ g. not-le_of_lt (mul-lt-mul_of_pos_right (le_refl (suc d)) (pow_pos (53 - t))) (h.greatest (suc d) g));
    }

module _ (a : ℕ) (A : a < 2 ^ 54) where
  pub before : DigitsFound a 0 (first_digits 0 a) (record { doubled = 0; left = a })
  before = found a 0 0 0 a (omega arith) (at_first a A)

  pub bounds : (t d : ℕ) (state : Digits) → DigitsFound a t d state → (state.doubled < 2 ^ 54) × (state.left < 2 ^ 56)
  bounds t d state h =
      let i : 53 - t ≤ 53 = omega arith in
      small a (2 ^ (53 - t)) d state.doubled state.left A (pow_pos (53 - t), pow_mono i) (turned a t d state h)

  module _ (t d : ℕ) (state : Digits) (below : t < 53) (h : DigitsFound a t d state) where
    abbrev p : ℕ
    p = 2 ^ (52 - t)

    here : Turned a (2 * p) d state.doubled state.left
    here =
        let i : 53 - t ≡ suc (52 - t) = omega arith in
        subst (λ z. Turned a z d state.doubled state.left) (ap (λ (z : ℕ). 2 ^ z) i ∙ pow-suc 2 (52 - t) ∙ omega arith) (turned a t d state h)

    there : (e s m : ℕ) → Turned a p e s m → DigitsFound a (suc t) (first_digits (suc t) a) (record { doubled = s; left = m })
    there e s m h =
        let i : 52 - t ≡ 53 - suc t = omega arith in
        found a (suc t) e s m (omega arith) (subst (λ z. Turned a (2 ^ z) e s m) i h)

    pub after : DigitsFound a (suc t) (first_digits (suc t) a) (turn_of p state)
    after = go (ltb state.left (state.doubled + p)) (ltb→lt state.left (state.doubled + p)) (nltb→le state.left (state.doubled + p))
      where
        go : (b : Bool) → (T b → state.left < state.doubled + p) → (T (not b) → state.doubled + p ≤ state.left)
            → DigitsFound a (suc t) (first_digits (suc t) a) (cond b (record { doubled = state.doubled; left = 2 * state.left }) (record { doubled = state.doubled + p + p; left = 2 * (state.left - (state.doubled + p)) }))
        go true y z = there (2 * d) _ _ (zero_digit a p d state.doubled state.left (pow_pos (52 - t)) here (y tt))
        go false y z = there (suc (2 * d)) _ _ (one_digit a p d state.doubled state.left (pow_pos (52 - t)) here (z tt))
