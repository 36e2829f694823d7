-- Half of a number from 2 ^ -1021 on is exact, and so `fma` by the factor -1/2 is a plain product and a plain sum. Assumes nothing.
use mathlib.Core.Path.{◌≡◌, refl, sym, ap, ◌∙◌}
use mathlib.Core.Bool.{Bool, true, false, not}
use Prim.Native.Nat.{ℕ, zero, suc, ◌*◌, ◌^◌, ◌≤◌, ◌<◌}
use native.Mathlib.Omega.{arith}
use native.Mathlib.Nat.{one-mul, mul-one, zero-mul, mul-pos, mul-lt-mul_of_pos_right, le_trans, lt_of_lt_of_le, lt_of_le_of_lt, lt_of_not-le, not-le_of_lt, le_of_suc-le-suc, le-mul_of_pos_right, mul-le-mul_left}
use lib.Dec.{T, lit<, lit≤}
use lib.Pow.{pow_mono, pow_pos}
use lib.IntN.{ℤ, pos, negsuc}
use lib.Ieee.{Float, nan, inf, fin, binary64, up, down, of_bits, fits, round, add, mul, neg, le}
use lib.Ieee.Fits.{down_pos}
use lib.Ieee.Exact.{HasValue}
use lib.Ieee.Scale.{finite}
use Rattle.elementary.specs.Ops.{◌⊕◌, ◌⊗◌, half, one}
use Rattle.elementary.specs.MulAdd.{fma}
use Rattle.elementary.proofs.Laws.Held.{holds}
use Rattle.elementary.proofs.Laws.Order.{valued, finite_by, le→fractions}
use Rattle.elementary.proofs.Laws.Places.{in_units_lem, exact_under}
use Rattle.elementary.proofs.Laws.Values.{revalue}
use Rattle.elementary.proofs.Laws.Adding.{add_at}

format_facts : (m : ℕ) (e : ℤ) → T (fits binary64 (fin false m e)) → (m < 2 ^ 53) × (m * up e < 2 ^ 1024 * down e)
format_facts zero e h = (lit< tt, rw zero-mul (mul-pos (pow_pos 1024) (down_pos e)))
format_facts (suc m) e h = let d = holds binary64 false m e h in (d.0, d.2)

deep : (m : ℕ) (e : ℤ) → m < 2 ^ 53 → down e ≤ m * up e * 2 ^ 1021 → down e ≤ 2 ^ 1073
deep m (pos k) s h = lit≤ tt
deep m (negsuc k) s h = pow_mono (le_of_suc-le-suc (lt_of_not-le (λ (g : 1074 ≤ suc k). not-le_of_lt (lt_of_le_of_lt h (rw mul-one (mul-lt-mul_of_pos_right s (pow_pos 1021)))) (pow_mono g))))

pub half_exact : (m : ℕ) (e : ℤ) → T (fits binary64 (fin false m e)) → down e ≤ m * up e * 2 ^ 1021
    → (t : Bool) → HasValue (round binary64 t (m * up e) (2 * down e)) t (m * up e) (2 * down e)
half_exact m e fit large t =
    let f = format_facts m e fit in
    let j = in_units_lem 1073 e (deep m e f.0 large) in
    exact_under binary64 t (m * up e) (2 * down e) m j.0 (omega (arith, down_pos e)) f.0 (lt_of_lt_of_le f.1 (mul-le-mul_left (2 ^ 1024) (omega arith)))
    (doubled m (up e) (2 ^ 1073) (2 ^ j.0) (down e) j.1)
  where
    doubled : (m u c p d : ℕ) → u * c ≡ p * d → m * u * (2 * c) ≡ m * p * (2 * d)
    doubled m u c p d h = omega (arith, ap (λ (z : ℕ). m * z) h)

pub minus_half_is : (m : ℕ) (e : ℤ) → neg half ⊗ fin false m e ≡ round binary64 true (m * up e) (2 * down e)
unfolding mul of_bits neg
minus_half_is m e = rw one-mul

-- ---- fma by -1/2
add_other : (x z : Float) (s : Bool) (a c : ℕ) → HasValue x s a c → T (not (finite z)) → x ⊕ z ≡ z
unfolding add
add_other x nan s a c h n = elim (finite_by x h) as (λ y _. y ⊕ nan ≡ nan) [ valued m e i ↦ refl ]
add_other x (inf v) s a c h n = elim (finite_by x h) as (λ y _. y ⊕ inf v ≡ inf v) [ valued m e i ↦ refl ]
add_other x (fin v k g) s a c h n = absurd n

module _ (m : ℕ) (e : ℤ) (fit : T (fits binary64 (fin false m e))) (large : down e ≤ m * up e) where
  abbrev p : Float
  p = round binary64 true (m * up e) (2 * down e)

  p_value : HasValue p true (m * up e) (2 * down e)
  p_value = half_exact m e fit (le_trans large (le-mul_of_pos_right (m * up e) (pow_pos 1021))) true

  rounded_sum : (z : Float) → fma binary64 (neg half) (fin false m e) z ≡ p ⊕ z
  unfolding fma neg of_bits
  rounded_sum nan = sym (add_other p nan true _ _ p_value tt)
  rounded_sum (inf v) = sym (add_other p (inf v) true _ _ p_value tt)
  rounded_sum (fin v q g) =
      rw (one-mul (m * up e))
      (sym (add_at p (fin v q g) true v (m * up e * down g) (q * up g * (2 * down e)) (2 * down e * down g) (mul-pos (omega (arith, down_pos e)) (down_pos g))
      (revalue p true (m * up e) (2 * down e) (m * up e * down g) (2 * down e * down g) (omega (arith, down_pos e)) (omega arith) p_value)
      (refl, omega arith)))

pub fma_minus_half : (y z : Float) → T (fits binary64 y) → T (le one y) → fma binary64 (neg half) y z ≡ neg half ⊗ y ⊕ z
unfolding fma mul neg le of_bits
fma_minus_half nan z F h = absurd h
fma_minus_half (inf s) z F h = refl
fma_minus_half (fin true m e) z F h =
    absurd (omega (arith, down_pos e, (le→fractions false true 1 (m * up e) 1 (down e) (lit< tt) (down_pos e) one (fin true m e) (refl, refl) (refl, refl) h).0))
fma_minus_half (fin false m e) z F h =
    let l = le→fractions false false 1 (m * up e) 1 (down e) (lit< tt) (down_pos e) one (fin false m e) (refl, refl) (refl, refl) h in
    rounded_sum m e F (omega arith) z ∙ ap (λ (w : Float). w ⊕ z) (sym (minus_half_is m e))
