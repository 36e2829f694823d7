-- The place of a float's first significant digit, and its significand, from the float taken apart. Assumes nothing.
use mathlib.Core.Path.{◌≡◌, refl, sym, ap, ◌∙◌}
use mathlib.Core.Bool.{Bool, true, false, cond}
use Prim.Native.Nat.{ℕ, suc, ◌+◌, ◌-◌, ◌*◌, ◌/◌, ◌^◌, ◌≤◌, ◌<◌}
use native.Mathlib.Nat.{mul_assoc, mul-le-mul_right, le_of_mul-le-mul_right, lt_of_mul-lt-mul_right, mul-div-mul_right, lt_of_lt_of_le}
use native.Mathlib.Numerals.{add-one}
use native.Mathlib.Omega.{arith}
use lib.Dec.{T}
use lib.Pow.{pow-add, pow_pos, pow_mono, shl_lt}
use lib.Ieee.{Float, binary64, round, fits, lt}
use lib.Ieee.Exact.{HasValue, round_exact}
use lib.Ieee.Fits.{round-fits}
use Rattle.elementary.specs.Sqrt.{in_units}
use Rattle.elementary.specs.Ops.{◌⊗◌, half}
use Rattle.elementary.specs.Ln.{SQRT_2, place_of, significand_of, exponent_at, ln_at, ln_inner}
use Rattle.elementary.specs.Inside.Round.{PartsOf, Digits}
use Rattle.elementary.proofs.Laws.Leaf.{size_of}
use Rattle.elementary.proofs.Laws.Decode.{same_power}
use Rattle.elementary.proofs.Laws.Places.{units_of}
use Rattle.elementary.proofs.Laws.Values.{revalue, value_unique}

module _ (y : Float) (s : Bool) (m i : ℕ) (D : PartsOf y s m i) (G : Digits m i) where
  abbrev u : ℕ
  u = in_units binary64 y

  units_are : u ≡ m * 2 ^ i / 2 ^ 64
  units_are = units_of binary64 y s (m * 2 ^ i) (2 ^ 1138) (pow_pos 1138) D.value ∙ mul-div-mul_right (m * 2 ^ i) (2 ^ 64) (pow_pos 1074)

  -- y is u of the smallest values, and its digits stand at m
  units_parts : u * 2 ^ 64 ≡ m * 2 ^ i
  units_parts = omega (arith, units_are, D.whole)

  further : (j k l : ℕ) → j + l ≡ i + k → u * 2 ^ (64 + k) ≡ m * 2 ^ j * 2 ^ l
  further j k l e = ap (λ (z : ℕ). u * z) (pow-add 2 64 k) ∙ sym (mul_assoc u (2 ^ 64) (2 ^ k)) ∙ ap (λ (z : ℕ). z * 2 ^ k) units_parts ∙ same_power m i k j l (sym e)

  low_end : 2 ^ (i - 12) ≤ u
  low_end =
      let e : 2 ^ (i - 12) * 2 ^ 64 ≡ 2 ^ 52 * 2 ^ i = sym (pow-add 2 (i - 12) 64) ∙ ap (λ (z : ℕ). 2 ^ z) (omega arith) ∙ pow-add 2 52 i in
      le_of_mul-le-mul_right {k = 2 ^ 64} (rw (e, units_parts) (mul-le-mul_right (2 ^ i) G.lead)) (pow_pos 64)

  high_end : u < 2 ^ suc (i - 12)
  high_end =
      let e : 2 ^ suc (i - 12) * 2 ^ 64 ≡ 2 ^ (53 + i) = sym (pow-add 2 (suc (i - 12)) 64) ∙ ap (λ (z : ℕ). 2 ^ z) (omega arith) in
      lt_of_mul-lt-mul_right (2 ^ 64) (rw (e, units_parts) (shl_lt 53 i G.top))

  pub place_is : i - 12 ≡ place_of y
  unfolding place_of
  place_is = omega (arith, size_of u (i - 12) low_end high_end)

  -- both are m * 2 ^ 1022 of the smallest values
  exact : HasValue (round binary64 false u (2 ^ (i - 12))) false (m * 2 ^ 1022) (2 ^ 1074)
  exact =
      let e = further 1022 1010 (i - 12) (omega arith) in
      revalue (round binary64 false u (2 ^ (i - 12))) false u (2 ^ (i - 12)) (m * 2 ^ 1022) (2 ^ 1074) (pow_pos (i - 12)) e
      (round_exact binary64 false u (2 ^ (i - 12)) m 1022 (pow_pos (i - 12)) G.top (lt_of_lt_of_le (shl_lt 53 1022 G.top) (pow_mono {i = 1075} {j = 2098} (omega arith))) e)

  pub significand_is : (r : Float) → T (fits binary64 r) → HasValue r false (m * 2 ^ 2352) (2 ^ 2404) → r ≡ significand_of y
  unfolding significand_of
  significand_is r F v =
      value_unique r (round binary64 false u (2 ^ (i - 12))) false (m * 2 ^ 1022) F (round-fits binary64 false u (2 ^ (i - 12)))
      (revalue r false (m * 2 ^ 2352) (2 ^ 2404) (m * 2 ^ 1022) (2 ^ 1074) (pow_pos 2404) (same_power m 2352 1074 1022 2404 refl) v) exact
      ∙ ap (λ (z : ℕ). round binary64 false u (2 ^ z)) place_is

-- ---- the significand is halved where it is above √2
module _ (y m₀ m : Float) (p₀ p : ℕ) (M : m₀ ≡ significand_of y) (P : p₀ ≡ place_of y) where
  by_parts : ln_at (cond (lt SQRT_2 m₀) (half ⊗ m₀) m₀) (exponent_at (cond (lt SQRT_2 m₀) (suc p₀) p₀)) ≡ ln_inner y
  unfolding ln_inner
  by_parts = rw (M, P)

  pub in_upper_part : lt SQRT_2 m₀ ≡ true → m ≡ half ⊗ m₀ → p ≡ p₀ + 1 → ln_at m (exponent_at p) ≡ ln_inner y
  in_upper_part t e f = rw (e, f, add-one) (rw t at by_parts)

  pub in_lower_part : lt SQRT_2 m₀ ≡ false → m ≡ m₀ → p ≡ p₀ → ln_at m (exponent_at p) ≡ ln_inner y
  in_lower_part t e f = rw (e, f) (rw t at by_parts)
