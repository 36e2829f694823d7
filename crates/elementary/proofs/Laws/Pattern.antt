-- The bit pattern of q * 2 ^ k of binary64's smallest values is k * 2 ^ 52 + q, and an infinity's from 2 ^ 2098 on. Assumes nothing.
use mathlib.Core.Path.{◌≡◌, refl, sym, ap, ◌∙◌, subst}
use mathlib.Core.Logic.{inl, inr}
use mathlib.Core.Bool.{false}
use Prim.Native.Nat.{ℕ, ◌+◌, ◌*◌, ◌^◌, ◌≤◌, ◌<◌}
use native.Mathlib.Nat.{le_trans, le_of_eq, lt_of_lt_of_le, not-le_of_lt, eq-or-lt_of_le, mul-le-mul}
use native.Mathlib.Omega.{arith}
use lib.Dec.{T, ltb, ltb→lt, not_T}
use lib.Pow.{pow-add, pow_mono, shl_lt}
use lib.Ieee.{inf, binary64, odd, units, of_bits, fits}
use lib.Ieee.Exact.{units_val}
use lib.Ieee.Bits.{of_bits-fits, cond_no}
use Rattle.elementary.proofs.Laws.Values.{value_of_pattern, value_unique}

inf_bits : of_bits binary64 0x7ff0_0000_0000_0000 ≡ inf false
unfolding of_bits
inf_bits = refl

units_inf : (q k : ℕ) → 2 ^ 2098 ≤ q * 2 ^ k → of_bits binary64 0x7ff0_0000_0000_0000 ≡ units binary64 false q k
unfolding units
units_inf q k h =
    inf_bits ∙ sym (cond_no (ltb (q * 2 ^ k) (2 ^ 2098)) (odd 54 false q k 1074) (inf false) (not_T (ltb (q * 2 ^ k) (2 ^ 2098)) (λ t. not-le_of_lt (ltb→lt (q * 2 ^ k) (2 ^ 2098) t) h)))

pub too_large : (q k : ℕ) → 2045 < k → 2 ^ 52 ≤ q → of_bits binary64 0x7ff0_0000_0000_0000 ≡ units binary64 false q k
too_large q k K Q = units_inf q k (le_trans (le_of_eq (pow-add 2 52 2046)) (mul-le-mul Q (pow_mono K)))

module _ (q k : ℕ) (le : q ≤ 2 ^ 53) (ge : 0 < k → 2 ^ 52 ≤ q) (K : k ≤ 2045) where
  top : k * 2 ^ 52 + q ≤ 2047 * 2 ^ 52
  top = omega arith

  at_top : k * 2 ^ 52 + q ≡ 2047 * 2 ^ 52 → 2 ^ 2098 ≤ q * 2 ^ k
  at_top e = let k_is : k ≡ 2045 = omega arith in let q_is : q ≡ 2 ^ 53 = omega arith in le_of_eq (rw (k_is, q_is))

  below_top : k * 2 ^ 52 + q < 2047 * 2 ^ 52 → q * 2 ^ k < 2 ^ 2098
  below_top l = elim (eq-or-lt_of_le K) [
    | inl e ↦ subst (λ (z : ℕ). q * 2 ^ z < 2 ^ 2098) (sym e) (shl_lt 53 2045 (omega arith))
    | inr h ↦ lt_of_lt_of_le (shl_lt 54 k (omega arith)) (pow_mono {i = 54 + k} {j = 2098} (omega arith))
  ]

  pub units_pattern : T (fits binary64 (units binary64 false q k)) → of_bits binary64 (k * 2 ^ 52 + q) ≡ units binary64 false q k
  units_pattern F = elim (eq-or-lt_of_le top) [
    | inl e ↦ ap (of_bits binary64) e ∙ units_inf q k (at_top e)
    | inr l ↦ value_unique _ _ false (q * 2 ^ k) (of_bits-fits binary64 (k * 2 ^ 52 + q)) F (value_of_pattern false k q ge le l) (units_val binary64 false q k (below_top l))
  ]
