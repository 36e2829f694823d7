-- The order of finite floats is the order of the signed fractions that they equal. Assumes nothing.
use mathlib.Core.Path.{◌≡◌, sym, ap, subst}
use mathlib.Core.Bool.{Bool, true, false, ◌||◌}
use mathlib.Core.Logic.{◌↔◌, inl, inr}
use Prim.Native.Nat.{ℕ, ◌+◌, ◌*◌, ◌≤◌, ◌<◌}
use native.Mathlib.Nat.{eq-or-lt_of_le, eq-zero-or-pos, mul-pos, mul-le-mul_right, le_of_mul-le-mul_right, le-mul_of_pos_right}
use native.Mathlib.Omega.{arith}
use native.Mathlib.Decide.{dec_le}
use borrow.Author.Tests.{ltb-true, ltb-false, lt-ltb, le-ltb, eq-eqb, ne_eqb}
use lib.IntN.{ℤ}
use lib.Dec.{T, eqb, eqb→eq}
use lib.Ieee.{Float, nan, inf, fin, up, down, below, level, le}
use lib.Ieee.Fits.{down_pos, and_l, and_r}
use lib.Ieee.Exact.{HasValue}

-- what has the value ±a / c is finite
pub data Valued (s : Bool) (a c : ℕ) : Float → Type 0 where
  valued : (m : ℕ) (e : ℤ) → m * up e * c ≡ a * down e → Valued s a c (fin s m e)

pub finite_by : {s : Bool} {a c : ℕ} (x : Float) → HasValue x s a c → Valued s a c x
finite_by nan h = absurd h
finite_by (inf t) h = absurd h
finite_by (fin t m e) h = rw h.0 (valued m e h.1)

-- ±a is at most ±b; the two zeros are equal
abbrev pub Le : Bool → ℕ → Bool → ℕ → Type 0
Le false a false b = a ≤ b
Le false a true b = (a ≡ 0) × (b ≡ 0)
Le true a false b = T true
Le true a true b = b ≤ a

-- ---- `below`, turned round, is its opposite
pub below_no : (s : Bool) (a : ℕ) (t : Bool) (b : ℕ) → below s a t b ≡ true → Le t b s a → ⊥
below_no false a false b h l = omega (arith, ltb-true a b h)
below_no false a true b h l = subst T (sym h) tt
below_no true a false b h l = omega (arith, ltb-true 0 (a + b) h)
below_no true a true b h l = omega (arith, ltb-true b a h)

pub not_below : (s : Bool) (a : ℕ) (t : Bool) (b : ℕ) → below s a t b ≡ false → Le t b s a
not_below false a false b h = ltb-false a b h
not_below false a true b h = tt
not_below true a false b h = omega (arith, ltb-false 0 (a + b) h)
not_below true a true b h = ltb-false b a h

-- ---- the test says it
pub test→le : (s : Bool) (a : ℕ) (t : Bool) (b : ℕ) → T (below s a t b || level s a t b) → Le s a t b
test→le false a false b h = elim (dec_le a b) [ yes l ↦ l | no n ↦ absurd (rw (le-ltb a b (omega arith), ne_eqb a b (λ e. omega arith)) at h) ]
test→le false a true b h = omega (arith, eqb→eq a b (and_l (eqb a b) (eqb a 0) h), eqb→eq a 0 (and_r (eqb a b) (eqb a 0) h))
test→le true a false b h = tt
test→le true a true b h = elim (dec_le b a) [ yes l ↦ l | no n ↦ absurd (rw (le-ltb b a (omega arith), ne_eqb a b (λ e. omega arith)) at h) ]

pub le→test : (s : Bool) (a : ℕ) (t : Bool) (b : ℕ) → Le s a t b → T (below s a t b || level s a t b)
le→test false a false b h = elim (eq-or-lt_of_le h) [ inl e ↦ rw (le-ltb a b (omega arith), eq-eqb a b e) tt | inr l ↦ rw (lt-ltb a b l) tt ]
le→test false a true b h = rw (h.0, h.1) tt
le→test true a false b h =
    elim (eq-zero-or-pos (a + b)) [
      | inl z ↦ rw (le-ltb 0 (a + b) (omega arith), eq-eqb a b (omega arith), eq-eqb a 0 (omega arith)) tt
      | inr p ↦ rw (lt-ltb 0 (a + b) p) tt
    ]
le→test true a true b h = elim (eq-or-lt_of_le h) [ inl e ↦ rw (le-ltb b a (omega arith), eq-eqb a b (sym e)) tt | inr l ↦ rw (lt-ltb b a l) tt ]

-- ---- fractions of the same sizes
carry : (s : Bool) (a : ℕ) (t : Bool) (b a' b' p q : ℕ) → 0 < q → a * p ≡ a' * q → b * p ≡ b' * q → Le s a t b → Le s a' t b'
carry false a false b a' b' p q Q i j h = le_of_mul-le-mul_right {k = q} (omega (arith, mul-le-mul_right p h)) Q
carry false a true b a' b' p q Q i j h = omega (arith, ap (λ (z : ℕ). z * p) h.0, ap (λ (z : ℕ). z * p) h.1, le-mul_of_pos_right a' Q, le-mul_of_pos_right b' Q)
carry true a false b a' b' p q Q i j h = tt
carry true a true b a' b' p q Q i j h = le_of_mul-le-mul_right {k = q} (omega (arith, mul-le-mul_right p h)) Q

-- ---- the theorem, either way: x is ±a / c and y is ±b / d
module _ (s t : Bool) (a b c d : ℕ) (c_pos : 0 < c) (d_pos : 0 < d) where
  crossed : (m n : ℕ) (e g : ℤ) → m * up e * c ≡ a * down e → n * up g * d ≡ b * down g → Le s (m * up e * down g) t (n * up g * down e) ↔ Le s (a * d) t (b * c)
  crossed m n e g i j =
      let l : m * up e * down g * (c * d) ≡ a * d * (down e * down g) = omega (arith, ap (λ (z : ℕ). z * (down g * d)) i) in
      let r : n * up g * down e * (c * d) ≡ b * c * (down e * down g) = omega (arith, ap (λ (z : ℕ). z * (down e * c)) j) in
      (carry s _ t _ (a * d) (b * c) (c * d) _ (mul-pos (down_pos e) (down_pos g)) l r, carry s _ t _ _ _ _ (c * d) (mul-pos c_pos d_pos) (sym l) (sym r))

  pub le→fractions : (x y : Float) → HasValue x s a c → HasValue y t b d → T (le x y) → Le s (a * d) t (b * c)
  unfolding le
  le→fractions x y p q = elim (finite_by x p) as (λ z _. T (le z y) → Le s (a * d) t (b * c)) [ valued m e i ↦ elim (finite_by y q) as (λ z _. T (le (fin s m e) z) → Le s (a * d) t (b * c)) [ valued n g j ↦ λ h. (crossed m n e g i j).0 (test→le s _ t _ h) ] ]

  pub fractions→le : (x y : Float) → HasValue x s a c → HasValue y t b d → Le s (a * d) t (b * c) → T (le x y)
  unfolding le
  fractions→le x y p q h = elim (finite_by x p) as (λ z _. T (le z y)) [ valued m e i ↦ elim (finite_by y q) as (λ z _. T (le (fin s m e) z)) [ valued n g j ↦ le→test s _ t _ ((crossed m n e g i j).1 h) ] ]
