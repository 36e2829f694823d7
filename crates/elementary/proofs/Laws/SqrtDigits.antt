-- A finite number above 0 is aligned, and after each turn the digits of its root are found. Assumes nothing.
use mathlib.Core.Path.{◌≡◌, refl, sym, ap, subst, ◌∙◌}
use mathlib.Core.Bool.{Bool, true, false, not, cond}
use Prim.Native.Nat.{ℕ, zero, suc, ◌+◌, ◌-◌, ◌*◌, ◌/◌, ◌%◌, ◌^◌, ◌≤◌, ◌<◌, min}
use native.Mathlib.Nat.{mul_assoc, mul-one, mul-div_cancel, zero-mul}
use native.Mathlib.Omega.{arith}
use lib.Dec.{T, ltb, ltb→lt, nltb→le}
use lib.IntN.{pos, negsuc, nat_abs, ◌-ℤ◌}
use lib.Pow.{pow-add, pow_pos}
use lib.Ieee.{Float, nan, inf, fin, binary64, up, down, fits}
use lib.Ieee.Exact.{HasValue}
use lib.Ieee.Positive.{positive}
use Rattle.elementary.specs.declared.sqrt.Aligned.{Aligned}
use Rattle.elementary.specs.declared.sqrt.Digits.{Digits}
use Rattle.elementary.specs.Sqrt.{isqrt, in_units, even_place, aligned_units, aligned_of, first_digits, sqrt_digits_of, after_turns}
use Rattle.elementary.specs.Promises.{Alignment, DigitsFound}
use Rattle.elementary.proofs.Laws.Isqrt.{sq_lt, isqrt_root}
use Rattle.elementary.proofs.Laws.Places.{units_value}
use Rattle.elementary.proofs.Laws.Values.{revalue}
use Rattle.elementary.proofs.sqrt.Alignment.{aligned_none, significand_lt}
use Rattle.elementary.proofs.sqrt.Found.{before, after, turned}
use Rattle.elementary.proofs.sqrt.Rounding as rounding
use Rattle.elementary.proofs.sqrt.Turns.{digits_are}

-- ---- aligned
-- x is a whole number of units
units_exact : (x : Float) → T (fits binary64 x) → T (positive x) → HasValue x false (in_units binary64 x) (2 ^ 1074)
units_exact nan f p = absurd p
units_exact (inf s) f p = absurd p
units_exact (fin true m e) f p = absurd p
units_exact (fin false zero e) f p = absurd p
units_exact (fin false (suc m) e) f p = units_value binary64 false (suc m) e f

-- 2 ^ (e - 1074), and its parity
power : (e : ℕ) → 2 ^ e * down (pos e -ℤ pos 1074) ≡ up (pos e -ℤ pos 1074) * 2 ^ 1074
power e = go (ltb e 1074) (ltb→lt e 1074) (nltb→le e 1074)
  where
    go : (b : Bool) → (T b → e < 1074) → (T (not b) → 1074 ≤ e) → 2 ^ e * down (cond b (negsuc (1074 - suc e)) (pos (e - 1074))) ≡ up (cond b (negsuc (1074 - suc e)) (pos (e - 1074))) * 2 ^ 1074
    go true y z =
        let l = y tt in
        let i : e + suc (1074 - suc e) ≡ 1074 = omega arith in
        sym (pow-add 2 e (suc (1074 - suc e))) ∙ ap (λ (z : ℕ). 2 ^ z) i ∙ omega arith
    go false y z =
        let l = z tt in
        let i : e ≡ e - 1074 + 1074 = omega arith in
        mul-one (2 ^ e) ∙ ap (λ (z : ℕ). 2 ^ z) i ∙ pow-add 2 (e - 1074) 1074

parity : (e : ℕ) → e % 2 ≡ 0 → nat_abs (pos e -ℤ pos 1074) % 2 ≡ 0
parity e h = go (ltb e 1074) (ltb→lt e 1074)
  where
    go : (b : Bool) → (T b → e < 1074) → nat_abs (cond b (negsuc (1074 - suc e)) (pos (e - 1074))) % 2 ≡ 0
    go true y = let l = y tt in omega arith
    go false y = omega arith

module _ (x : Float) (f : T (fits binary64 x)) (p : T (positive x)) where
  abbrev u : ℕ
  u = in_units binary64 x

  abbrev a : Aligned
  a = aligned_units u

  abbrev e : ℕ
  e = even_place u

  cross : a.significand * up a.exponent * 2 ^ 1074 ≡ u * (2 ^ 52 * down a.exponent)
  cross =
      mul_assoc a.significand (up a.exponent) (2 ^ 1074)
      ∙ ap (λ (z : ℕ). a.significand * z) (sym (power e))
      ∙ sym (mul_assoc a.significand (2 ^ e) (down a.exponent))
      ∙ ap (λ (z : ℕ). z * down a.exponent) (sym (rounding.a_whole x f p))
      ∙ mul_assoc u (2 ^ 52) (down a.exponent)

  pub alignment : Alignment x (aligned_of x)
  alignment =
      rw (rounding.aligned_is x f p) record {
        value = revalue x false u (2 ^ 1074) (a.significand * up a.exponent) (2 ^ 52 * down a.exponent) (pow_pos 1074) (sym cross) (units_exact x f p);
        even = parity e (omega arith);
        from_1 = (rounding.a_in x f p).0;
        below_4 = (rounding.a_in x f p).1;
      }

  significand_in : (2 ^ 52 ≤ (aligned_of x).significand) × ((aligned_of x).significand < 2 ^ 54)
  significand_in = rw (rounding.aligned_is x f p) (rounding.a_in x f p)

  pub first : sqrt_digits_of x 1 ≡ 1
  unfolding first_digits
  first =
      let n = (aligned_of x).significand * 4 / 2 ^ 54 in
      let r = isqrt_root n in
      let s = significand_in in
      omega (arith, sq_lt 1 (suc (isqrt n)) (omega arith), sq_lt (isqrt n) 2 (omega arith))

  -- ---- the digits
  pub state_found : (turns : ℕ) → turns ≤ 53 → DigitsFound (aligned_of x).significand turns (sqrt_digits_of x turns) (after_turns turns (aligned_of x).significand)
  unfolding after_turns
  state_found turns h =
      let a = (aligned_of x).significand in
      let i : turns ≡ min turns 53 = omega arith in
      subst (λ z. DigitsFound a turns (first_digits z a) (after_turns turns a)) i (go turns h)
    where
      go : (j : ℕ) → j ≤ 53 → DigitsFound (aligned_of x).significand j (first_digits j (aligned_of x).significand) (after_turns j (aligned_of x).significand)
      go zero h = before (aligned_of x).significand (significand_lt x)
      go (suc j) h = after (aligned_of x).significand (significand_lt x) j _ _ (omega arith) (go j (omega arith))

-- ---- one state
pub state_one : (a turns d e : ℕ) (s t : Digits) → turns ≤ 53 → DigitsFound a turns d s → DigitsFound a turns e t → (d ≡ e) × (s ≡ t)
state_one a turns d e s t h p q = (same, rw (same_doubled, same_left))
  where
    same : d ≡ e
    same = digits_are a turns d s.doubled s.left h (turned a turns d s p) ∙ sym (digits_are a turns e t.doubled t.left h (turned a turns e t q))

    same_doubled : s.doubled ≡ t.doubled
    same_doubled = p.digits ∙ rw same (sym q.digits)

    other : DigitsFound a turns d t
    other = rw same q

    same_left : s.left ≡ t.left
    same_left =
        let z = 2 ^ (53 - turns) in
        let e : s.left * z ≡ t.left * z = omega (arith, p.left, other.left) in
        sym (mul-div_cancel s.left (pow_pos (53 - turns))) ∙ ap (λ (n : ℕ). n / z) e ∙ mul-div_cancel t.left (pow_pos (53 - turns))

-- ---- no digits
isqrt_0 : isqrt 0 ≡ 0
isqrt_0 = let r = isqrt_root 0 in omega (arith, sq_lt (isqrt 0) 1 (omega arith))

no_first_digits : (turns : ℕ) → first_digits turns 0 ≡ 0
unfolding first_digits
no_first_digits turns = rw (zero-mul (4 ^ turns)) isqrt_0

pub no_digits : (x : Float) → T (not (positive x)) → (turns : ℕ) → sqrt_digits_of x turns ≡ 0
no_digits x h turns = go (positive x) refl h
  where
    go : (b : Bool) → positive x ≡ b → T (not b) → sqrt_digits_of x turns ≡ 0
    go false e g = rw (aligned_none x e) (no_first_digits _)
    go true e g = absurd g
