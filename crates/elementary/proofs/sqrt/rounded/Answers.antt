-- `rounded` meets its contract. Assumes nothing.
use Rattle.std.proofs.Common.{◌≡◌, ◌<◌, ◌≤◌, ◌+◌, ◌*◌, ◌/◌, ◌^◌, ℕ, zero, suc}
use mathlib.Core.Path.{refl, sym, ap, subst, ◌∙◌}
use mathlib.Core.Bool.{Bool, true, false, ◌&&◌, ◌||◌}
use native.Mathlib.Nat.{mul-pos, zero-mul, add_assoc}
use native.Mathlib.Omega.{arith}
use lib.Dec.{T, eqb, eqb→eq, lt→ltb}
use lib.IntN.{ℤ, pos, nat_abs, ◌+ℤ◌}
use lib.Signed.{non_neg}
use lib.Ieee.{Float, nan, inf, fin, binary64, up, down, fits, lt, eq, le, of_bits}
use lib.Ieee.Fits.{up_pos, and_l}
use lib.Ieee.Positive.{positive}
use mir.Syntax.{w32}
use mir.Val.{SFits, to_z, of_z}
use Rattle.std.proofs.Math.Facts.{to_z-of_z}
use Rattle.elementary.specs.declared.sqrt.Aligned.{Aligned}
use Rattle.elementary.specs.declared.sqrt.Digits.{Digits}
use Rattle.elementary.specs.Sqrt.{sqrt_of, in_units, aligned_units, aligned_of}
use Rattle.elementary.specs.Promises.{DigitsFound}
use Rattle.elementary.proofs.Laws.Bits.{no_nan_pattern, fits_by}
use Rattle.elementary.proofs.sqrt.Alignment.{aligned_none}
use Rattle.elementary.proofs.sqrt.Found.{turned}
use Rattle.elementary.proofs.sqrt.Rounding as rounding
use Rattle.elementary.proofs.sqrt.Rounding.{raised, raised_fits}
use Rattle.elementary.proofs.sqrt.Turns.{Turned}
use Rattle.elementary.proofs.sqrt.rounded.Goals as goal
use Rattle.elementary.proofs.sqrt.rounded.Goals.{then-d, else-d}

-- ---- without digits
no_digits : (x : Float) → T (fits binary64 x) → (aligned_of x).significand ≡ 0 → positive x ≡ false
no_digits x f h = go (positive x) refl
  where
    go : (b : Bool) → positive x ≡ b → positive x ≡ false
    go false e = e
    go true e =
        let p : T (positive x) = rw e tt in
        let z : rounding.a x f p ≡ 0 = sym (ap (λ (y : Aligned). y.significand) (rounding.aligned_is x f p)) ∙ h in
        absurd (omega (arith, z, (rounding.a_in x f p).0))

-- the size of a number above or below 0
some : (m : ℕ) (e : ℤ) → 0 < suc m * up e * 1
some m e = omega (arith, mul-pos {m = suc m} (omega arith) (up_pos e))

same_zero : (m : ℕ) (e : ℤ) (b : Bool) → eqb (0 * down e) (suc m * up e * 1) && b ≡ true → ⊥
same_zero m e b h = let z = eqb→eq (0 * down e) (suc m * up e * 1) (and_l (eqb (0 * down e) (suc m * up e * 1)) b (rw h tt)) in omega (arith, some m e)

itself : (x : Float) → positive x ≡ false → le (of_bits binary64 0) x ≡ true → x ≡ sqrt_of binary64 x
unfolding le lt eq of_bits sqrt_of
itself nan p h = refl
itself (inf true) p h = cc
itself (inf false) p h = refl
itself (fin s zero e) p h = refl
itself (fin true (suc m) e) p h = absurd (same_zero m e _ h)
itself (fin false (suc m) e) p h = absurd (subst T p (lt→ltb 0 (suc m) (omega arith)))

no_root : (x : Float) → le (of_bits binary64 0) x ≡ false → sqrt_of binary64 x ≡ nan
unfolding le lt eq of_bits sqrt_of
no_root nan h = refl
no_root (inf true) h = refl
no_root (inf false) h = cc
no_root (fin true zero e) h = let z = rw (zero-mul (up e), zero-mul (down e)) at h in cc
no_root (fin true (suc m) e) h = refl
no_root (fin false zero e) h = let z = rw (zero-mul (up e), zero-mul (down e)) at h in cc
no_root (fin false (suc m) e) h = absurd (subst T (or_false _ _ h) (lt→ltb (0 * down e) (suc m * up e * 1) (omega (arith, some m e))))
  where
    or_false : (a b : Bool) → a || b ≡ false → a ≡ false
    or_false false b h = refl
    or_false true b h = h

pub returns-then-x : goal.returns-then-x
returns-then-x c =
    let x = c.args.x in
    itself x (no_digits x (fits_by x c.well_formed.0.1) (ap (λ (y : Aligned). y.significand) (sym c.requires.0) ∙ c.if-a-eq0.true)) c.if-x.true

pub returns-else-x : goal.returns-else-x
unfolding of_bits
returns-else-x c = sym (no_root c.args.x c.if-x.false)

-- ---- with digits
with_digits : (x : Float) → ((aligned_of x).significand ≡ 0 → ⊥) → T (positive x)
with_digits x h = go (positive x) refl
  where
    go : (b : Bool) → positive x ≡ b → T b
    go true e = tt
    go false e = absurd (h (ap (λ (y : Aligned). y.significand) (aligned_none x e)))

module _ (x : Float) (f : T (fits binary64 x)) (a : Aligned) (is : a ≡ aligned_of x) (some : a.significand ≡ 0 → ⊥) where
  p : T (positive x)
  p = with_digits x (λ z. some (ap (λ (y : Aligned). y.significand) is ∙ z))

  a_is : a ≡ aligned_units (in_units binary64 x)
  a_is = is ∙ rounding.aligned_is x f p

  abbrev e : ℕ
  e = rounding.e x f p

  e_small : e < 2 ^ 30
  e_small = omega (arith, rounding.e_lt x f p)

  word_is : to_z w32 (of_z w32 a.exponent) +ℤ pos 2044 ≡ pos (e + 970)
  word_is = rw a_is (raised e e_small)

  word_fits : SFits w32 (to_z w32 (of_z w32 a.exponent) +ℤ pos 2044)
  word_fits = rw word_is (raised_fits e e_small)

  abbrev word : ℤ
  word = to_z w32 (of_z w32 (to_z w32 (of_z w32 a.exponent) +ℤ pos 2044))

  word_back : word ≡ pos (e + 970)
  word_back = to_z-of_z {w = w32} word_fits ∙ word_is

  word_plus : T (non_neg word)
  word_plus = rw word_back tt

  half_is : nat_abs word / 2 ≡ rounding.h x f p
  half_is = rw word_back refl

  half_lt : nat_abs word < 3068
  half_lt = rw word_back (omega (arith, rounding.e_lt x f p))

  module _ (d : ℕ) (state : Digits) (h : DigitsFound a.significand 53 d state) where
    digits_turned : Turned (rounding.a x f p) 1 d state.doubled state.left
    digits_turned = rw a_is at (turned a.significand 53 d state h)

    digits_are : state.doubled / 2 ≡ d
    digits_are = omega (arith, digits_turned.twice)

    d_lt : d < 2 ^ 53
    d_lt = rounding.d_hi (rounding.a x f p) d state.doubled state.left 0 (rounding.a_in x f p) digits_turned

    pattern_lt : (up : ℕ) → up ≤ 1 → nat_abs word / 2 * 2 ^ 52 + state.doubled / 2 + up < 2047 * 2 ^ 52
    pattern_lt up h = omega (arith, half_lt, digits_are, d_lt, h)

    answer : (up : ℕ) → (state.doubled < state.left → up ≡ 1) → (state.left ≤ state.doubled → up ≡ 0) → of_bits binary64 (nat_abs word / 2 * 2 ^ 52 + state.doubled / 2 + up) ≡ sqrt_of binary64 x
    answer up one none =
        rw (half_is, digits_are, add_assoc (rounding.h x f p * 2 ^ 52) d up)
        (rounding.pattern x f p d state.doubled state.left up digits_turned one none)

pub overflow_add-half_exponent : goal.overflow_add-half_exponent
overflow_add-half_exponent c = word_fits c.args.x (fits_by c.args.x c.well_formed.0.1) c.args.a c.requires.0 c.if-a-eq0.false

pub overflow_cast-half_exponent : goal.overflow_cast-half_exponent
overflow_cast-half_exponent c =
    let f = fits_by c.args.x c.well_formed.0.1 in
    (word_plus c.args.x f c.args.a c.requires.0 c.if-a-eq0.false, record { fits = omega (arith, half_lt c.args.x f c.args.a c.requires.0 c.if-a-eq0.false) })

pub overflow_mul-result : goal.overflow_mul-result
overflow_mul-result c = record { fits = omega (arith, half_lt c.args.x (fits_by c.args.x c.well_formed.0.1) c.args.a c.requires.0 c.if-a-eq0.false) }

pub overflow_add-result : goal.overflow_add-result
overflow_add-result c =
    record { fits = omega (arith, pattern_lt c.args.x (fits_by c.args.x c.well_formed.0.1) c.args.a c.requires.0 c.if-a-eq0.false _ c.args.d c.requires.1 0 (omega arith)) }

pub overflow_add-result-2 : goal.overflow_add-result-2
overflow_add-result-2 c =
    let up : c.if-d.up ≤ 1 = elim c.if-d.branch [ then-d w ↦ omega (arith, w.up-is) | else-d w ↦ omega (arith, w.up-is) ] in
    record { fits = omega (arith, pattern_lt c.args.x (fits_by c.args.x c.well_formed.0.1) c.args.a c.requires.0 c.if-a-eq0.false _ c.args.d c.requires.1 c.if-d.up up) }

pub float_from_bits-result : goal.float_from_bits-result
float_from_bits-result c =
    let up : c.if-d.up ≤ 1 = elim c.if-d.branch [ then-d w ↦ omega (arith, w.up-is) | else-d w ↦ omega (arith, w.up-is) ] in
    no_nan_pattern _ (omega (arith, pattern_lt c.args.x (fits_by c.args.x c.well_formed.0.1) c.args.a c.requires.0 c.if-a-eq0.false _ c.args.d c.requires.1 c.if-d.up up))

pub returns : goal.returns
returns c =
    answer c.args.x (fits_by c.args.x c.well_formed.0.1) c.args.a c.requires.0 c.if-a-eq0.false _ c.args.d c.requires.1 c.if-d.up
    (λ h. elim c.if-d.branch [ then-d w ↦ w.up-is | else-d w ↦ absurd (omega (arith, h, w.if-d.false)) ])
    (λ h. elim c.if-d.branch [ then-d w ↦ absurd (omega (arith, h, w.if-d.true)) | else-d w ↦ w.up-is ])
