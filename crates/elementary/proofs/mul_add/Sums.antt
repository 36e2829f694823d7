-- Signed sums of two fractions: `sum` by its cases, and the leading digits of the sum and the difference where the smaller number is cut. Assumes nothing.
use mathlib.Core.Path.{◌≡◌, sym, ap, ◌∙◌, subst}
use mathlib.Core.Logic.{◌⊎◌, inl, inr}
use mathlib.Core.Bool.{Bool, true, false, ◌&&◌, beq, cond, and-true, and-false}
use Prim.Native.Nat.{ℕ, ◌+◌, ◌-◌, ◌*◌, ◌/◌, ◌^◌, ◌≤◌, ◌<◌, compare, Ordering}
use native.Mathlib.Nat.{le_of_lt, eq-or-lt_of_le, mul_assoc, mul-pos, mul-le-mul_left, mul-le-mul_right, mul-lt-mul_of_pos_right, add-mul, add_comm, lt_of_mul-lt-mul_right}
use native.Mathlib.Decide.{dec_le}
use native.Mathlib.Omega.{arith}
use borrow.Author.Tests.{lt-ltb, le-ltb}
use lib.Dec.{ltb}
use lib.Ieee.Positive.{first_pos}
use lib.Pow.{pow-add, pow_pos, pow_mono}
use lib.Ieee.{Format, binary64, round, sum}
use Rattle.std.specs.Float.MulAdd.{IsStickyApprox, IsExactOrSticky, IsRoundable}
use Rattle.elementary.specs.Inside.MulAdd.{Scaled, Adds}
use Rattle.elementary.proofs.Laws.Powers.{pow_split}
use Rattle.elementary.proofs.Laws.Ordering.{Cmp, cmp}
use Rattle.elementary.proofs.Laws.Adding.{sub_mul}
use Rattle.std.proofs.lemmas.Bool.{ltb-true, ltb_from_iff}
use Rattle.elementary.proofs.Laws.Sticky.{times, exact}

-- ---- `sum` by its cases
pub sum_same : (f : Format) (s t : Bool) (a b c : ℕ) → beq s t ≡ true → sum f s a t b c ≡ round f s (a + b) c
unfolding sum
sum_same f s t a b c e = rw e

pub sum_more : (f : Format) (s t : Bool) (a b c : ℕ) → beq s t ≡ false → b < a → sum f s a t b c ≡ round f s (a - b) c
unfolding sum
sum_more f s t a b c e h = rw (e, le-ltb a b (le_of_lt h), lt-ltb b a h, and-true s)

pub sum_less : (f : Format) (s t : Bool) (a b c : ℕ) → beq s t ≡ false → a ≤ b → sum f s a t b c ≡ round f (t && ltb 0 (b - a)) (b - a) c
unfolding sum
sum_less f s t a b c e h = elim (eq-or-lt_of_le h) [
  | inl p ↦ let z : a - b ≡ b - a = omega arith in rw (e, le-ltb a b (omega arith), le-ltb b a (omega arith), le-ltb 0 (b - a) (omega arith), and-false s, and-false t, z)
  | inr l ↦ rw (e, lt-ltb a b l, lt-ltb 0 (b - a) (omega arith), and-true t)
]

-- ---- in either order
unlike_comm : (f : Format) (a b c : ℕ) → sum f true a false b c ≡ sum f false b true a c
unfolding sum
unlike_comm f a b c = go (compare a b) (cmp a b)
  where
    go : (o : Ordering) → Cmp o a b → cond (ltb a b) (round f false (b - a) c) (round f (ltb b a) (a - b) c) ≡ cond (ltb b a) (round f true (a - b) c) (round f false (b - a) c)
    go Ordering.lt h = rw (lt-ltb a b h, le-ltb b a (le_of_lt h))
    go Ordering.eq h = let z : a - b ≡ b - a = omega arith in rw (le-ltb a b (omega arith), le-ltb b a (omega arith), z)
    go Ordering.gt h = rw (le-ltb a b (le_of_lt h), lt-ltb b a h)

pub sum_comm : (f : Format) (s t : Bool) (a b c : ℕ) → sum f s a t b c ≡ sum f t b s a c
unfolding sum
sum_comm f true true a b c = rw (add_comm a b)
sum_comm f true false a b c = unlike_comm f a b c
sum_comm f false true a b c = sym (unlike_comm f b a c)
sum_comm f false false a b c = rw (add_comm a b)

-- ---- l at the exponent le, and s at se, where y stands for s at le
pub record Aligned (l le s se y : ℕ) : Type 0 where
  pub large : Scaled l le
  pub small : Scaled s se
  pub order : se ≤ le
  pub near : IsExactOrSticky y (2 ^ (le - se)) s

module _ {l le s se y : ℕ} (A : Aligned l le s se y) where
  abbrev u : ℕ
  u = 2 ^ le

  abbrev a : ℕ
  a = l * 2 ^ le

  abbrev b : ℕ
  b = s * 2 ^ se

  -- y by itself
  stands : IsExactOrSticky y u b
  stands = subst (λ (z : ℕ). IsExactOrSticky y z b) (sym (pow_split se le A.order)) (times y (2 ^ (le - se)) s (2 ^ se) (pow_pos se) A.near)

  whole : y * 2 ^ (le - se) ≡ s → y * u ≡ b
  whole e = ap (λ (z : ℕ). y * z) (pow_split se le A.order) ∙ sym (mul_assoc y (2 ^ (le - se)) (2 ^ se)) ∙ ap (λ (z : ℕ). z * 2 ^ se) e

  -- digits are lost only of an s far below l
  abbrev ExactOrFar : Type 0
  ExactOrFar = (y * u ≡ b) ⊎ (IsStickyApprox y u b × (y ≤ 2 ^ 115))

  exact_or_far : ExactOrFar
  exact_or_far = go A.near stands (dec_le (le - se) 2)
    where
      go : IsExactOrSticky y (2 ^ (le - se)) s → IsExactOrSticky y u b → Dec (le - se ≤ 2) → ExactOrFar
      go (inl e) t d = inl (whole e)
      go near (inl e) d = inl e
      go near (inr t) (yes h) =
          let e : 2 - (le - se) + (le - se) ≡ 2 = omega arith in
          let q = s / 4 * 2 ^ (2 - (le - se)) in
          let z : s ≡ q * 2 ^ (le - se) = omega (arith, A.small.even) ∙ ap (λ (k : ℕ). s / 4 * k) (ap (λ (k : ℕ). 2 ^ k) (sym e) ∙ pow-add 2 (2 - (le - se)) (le - se)) ∙ sym (mul_assoc (s / 4) (2 ^ (2 - (le - se))) (2 ^ (le - se))) in
          let i = exact y (2 ^ (le - se)) q (subst (IsExactOrSticky y (2 ^ (le - se))) z near) (pow_pos (le - se)) in
          inl (whole (ap (λ (k : ℕ). k * 2 ^ (le - se)) i ∙ sym z))
      go (inr r) (inr t) (no h) =
          let m : 2 ^ 115 * 2 ^ 3 ≤ 2 ^ 115 * 2 ^ (le - se) = mul-le-mul_left (2 ^ 115) (pow_mono {i = 3} {j = le - se} (omega arith)) in
          let k : y < 2 ^ 115 + 1 = lt_of_mul-lt-mul_right (2 ^ (le - se)) (omega (arith, r.1, A.small.top)) in
          inr (t, omega arith)

  module _ (m n : Bool) where
    pub plus : beq m n ≡ true → Adds m a n b m (l + y) le
    plus h r R = R (a + b) (go exact_or_far) ∙ sym (sum_same binary64 m n a b (2 ^ 2404) h)
      where
        go : ExactOrFar → IsRoundable (l + y) u (a + b)
        go (inl e) = inl (omega arith)
        go (inr t) = inr ((omega (arith, t.0.0, A.large.even), omega (arith, t.0.1), omega (arith, t.0.2)), omega (arith, A.large.lead))

    pub minus : beq m n ≡ false → y < l → Adds m a n b m (l - y) le
    minus h k r R =
        let z = go exact_or_far in
        R (a - b) z.1 ∙ sym (sum_more binary64 m n a b (2 ^ 2404) h z.0)
      where
        d : l ≡ l - y + y
        d = omega arith

        split : a ≡ (l - y) * u + y * u
        split = ap (λ (z : ℕ). z * u) d ∙ add-mul (l - y) y u

        go : ExactOrFar → (b < a) × IsRoundable (l - y) u (a - b)
        go (inl e) = (omega (arith, mul-lt-mul_of_pos_right k (pow_pos le)), inl (omega (arith, split)))
        go (inr t) =
            let p : b < a = omega (arith, t.0.2, mul-le-mul_right u k) in
            (p, inr ((omega (arith, t.0.0, A.large.even), omega (arith, split, t.0.2), omega (arith, split, t.0.1)), omega (arith, t.1, A.large.lead)))

    -- the second number is not the smaller one
    pub other : beq m n ≡ false → l ≤ y → Adds m a n b (n && ltb l y) (y - l) le
    other h k r R =
        let e : y * u ≡ b = elim exact_or_far [ inl e ↦ e | inr t ↦ absurd (omega (arith, t.1, A.large.lead)) ] in
        let f : (y - l) * u ≡ b - a = sub_mul y l u ∙ ap (λ (z : ℕ). z - a) e in
        let g : a ≤ b = omega (arith, mul-le-mul_right u k) in
        R (b - a) (inl f)
        ∙ ap (λ (t : Bool). round binary64 (n && t) (b - a) (2 ^ 2404)) (ltb_from_iff (λ t. rw (← f) (mul-pos (positive (ltb-true l y t)) (pow_pos le)), λ p. lt-ltb l y (from p f)))
        ∙ sym (sum_less binary64 m n a b (2 ^ 2404) h g)
      where
        positive : l < y → 0 < y - l
        positive t = omega arith

        from : 0 < b - a → (y - l) * u ≡ b - a → l < y
        from p f = omega (arith, first_pos (y - l) u (omega arith))
