-- The half step: s + max(ds, −0.5 × s) is at least s / 2, for every ds and every finite s from 2^−1021 on. There s / 2 is exact, so that |−0.5 × s| is s / 2, and a
-- sum of s and anything from −s / 2 on is s / 2 or more before it is rounded, and so after it. Assumes nothing.
use mathlib.Core.Path.{◌≡◌, refl, sym, ◌∙◌, subst}
use mathlib.Core.Bool.{Bool, true, false, cond, true≢false}
use mathlib.Core.Logic.{◌⊎◌, inl, inr, ⊎_elim}
use Prim.Native.Nat.{ℕ, ◌+◌, ◌-◌, ◌*◌, ◌^◌, ◌≤◌}
use native.Mathlib.Omega.{arith}
use native.Mathlib.Nat.{mul_assoc, mul_comm, one-mul, mul-one, mul-pos, mul-le-mul_right, le_of_eq}
use lib.Dec.{T}
use lib.IntN.{ℤ}
use lib.Ieee.{Float, nan, inf, fin, binary64, up, down, of_bits, fits, round, sum, add, mul, div, neg, lt, le, ne}
use lib.Ieee.Fits.{down_pos}
use lib.Ieee.Bits.{is_true}
use lib.Ieee.Exact.{HasValue}
use lib.Ieee.Order.{round_mono}
use lib.Ieee.Scale.{finite}
use lib.Ieee.Positive.{through, above_of_le, le→cross}
use lib.Ieee.Compare.{nan_differs, differs_from_itself}
use borrow.Author.Tests.{ltb-false, le-ltb}
use Rattle.elementary.specs.Ops.{half, two}
use Rattle.elementary.specs.Methods.{sign_of, max_of}
use Rattle.elementary.proofs.Laws.Halving.{half_exact, minus_half_is}
use Rattle.solver.proofs.Laws.Bracket.{lt_irrefl as float_lt_irrefl}
use Rattle.solver.specs.Step.{at_least_half}
use Rattle.solver.specs.Promises.Demand3.{least}

-- ---- what the step adds is at least -s / 2

abbrev minus_half : Float
minus_half = neg half

half_is : (m : ℕ) (e : ℤ) → div binary64 (fin false m e) two ≡ round binary64 false (m * up e) (2 * down e)
unfolding div of_bits
half_is m e = rw mul-one

le_top : (x : Float) (a c : ℕ) → HasValue x false a c → T (le x (inf false))
unfolding le
le_top nan a c v = absurd v
le_top (inf s) a c v = absurd v
le_top (fin true n d) a c v = absurd (true≢false v.0)
le_top (fin false n d) a c v = tt

-- w / (d × g) is at least a / (2 × d) where w is at least half of a × g
twice : (a d g w : ℕ) → a * g ≤ w * 2 → a * (d * g) ≤ w * (2 * d)
twice a d g w h = rw (← mul_assoc w 2 d, mul_comm d g, ← mul_assoc a g d) (mul-le-mul_right d h)

-- with h = -s / 2: s + y is at least s / 2, for every number y that is not below h
module _ (m : ℕ) (e : ℤ) (half : HasValue (round binary64 false (m * up e) (2 * down e)) false (m * up e) (2 * down e)) where
  abbrev Enough : Float → Type 0
  Enough y = T (le (round binary64 false (m * up e) (2 * down e)) (add binary64 (fin false m e) y))

  -- s + y and s - y as one fraction each, for y = i × 2 ^ g
  plus_enough : (i : ℕ) (g : ℤ) → Enough (fin false i g)
  unfolding add sum
  plus_enough i g =
      round_mono binary64 (m * up e) (2 * down e) (m * up e * down g + i * up g * down e) (down e * down g) (omega (arith, down_pos e)) (mul-pos (down_pos e) (down_pos g))
      (twice (m * up e) (down e) (down g) _ (omega arith))

  minus_enough : (i : ℕ) (g : ℤ) → i * up g * (2 * down e) ≤ m * up e * down g → Enough (fin true i g)
  unfolding add sum
  minus_enough i g h =
      let k : i * up g * down e * 2 ≤ m * up e * down g = rw (mul_assoc (i * up g) (down e) 2, mul_comm (down e) 2) h in
      rw (le-ltb (m * up e * down g) (i * up g * down e) (omega arith))
      (round_mono binary64 (m * up e) (2 * down e) (m * up e * down g - i * up g * down e) (down e * down g) (omega (arith, down_pos e)) (mul-pos (down_pos e) (down_pos g))
      (twice (m * up e) (down e) (down g) _ (omega arith)))

  enough : (h y : Float) → HasValue h true (m * up e) (2 * down e) → ne y y ≡ false → lt y h ≡ false → Enough y
  unfolding add lt
  enough nan y v n l = absurd v
  enough (inf t) y v n l = absurd v
  enough (fin false k d) y v n l = absurd (true≢false (sym v.0))
  enough (fin true k d) nan v n l = absurd (true≢false (sym nan_differs ∙ n))
  enough (fin true k d) (inf true) v n l = absurd (true≢false l)
  enough (fin true k d) (inf false) v n l = le_top _ _ _ half
  enough (fin true k d) (fin false i g) v n l = plus_enough i g
  enough (fin true k d) (fin true i g) v n l =
      minus_enough i g
      (through (i * up g) (k * up d) (m * up e) (down g) (down d) (2 * down e) (down_pos d) (ltb-false (k * up d * down g) (i * up g * down d) l) (le_of_eq v.1))

-- ---- max

max_cases : (a b : Float) → ne b b ≡ false → (max_of a b ≡ b) ⊎ ((max_of a b ≡ a) × (ne a a ≡ false) × (lt a b ≡ false))
unfolding max_of
max_cases a b q = rw q (go (ne a a) (lt a b) (lt b a) (sign_of a))
  where
    go : (p r u z : Bool) → (cond p b (cond false a (cond r b (cond u a (cond z b a)))) ≡ b) ⊎ ((cond p b (cond false a (cond r b (cond u a (cond z b a)))) ≡ a) × (p ≡ false) × (r ≡ false))
    go true r u z = inl refl
    go false true u z = inl refl
    go false false true z = inr (refl, refl, refl)
    go false false false true = inl refl
    go false false false false = inr (refl, refl, refl)

is_number : (x : Float) (t : Bool) (a c : ℕ) → HasValue x t a c → ne x x ≡ false
is_number x t a c v = go (ne x x) refl
  where
    go : (b : Bool) → ne x x ≡ b → ne x x ≡ false
    go true e = absurd (subst (λ y. HasValue y t a c) (differs_from_itself x (subst T (sym e) tt)) v)
    go false e = e

-- ---- the step

-- every completed step from a finite s of at least 2 ^ -1021 leaves at least s / 2
pub leaves_half : (s ds : Float) → T (fits binary64 s) → T (finite s) → le least s ≡ true → le (div binary64 s two) (at_least_half s ds) ≡ true
unfolding of_bits
leaves_half nan ds f n l = absurd n
leaves_half (inf t) ds f n l = absurd n
leaves_half (fin true m e) ds f n l = absurd (above_of_le least (fin true m e) tt (subst T (sym l) tt))
leaves_half (fin false m e) ds f n l =
    let s = fin false m e in
    let q = subst T (sym l) tt in
    let p = above_of_le least s tt q in
    let large : down e ≤ m * up e * 2 ^ 1021 = rw one-mul at (le→cross least s tt p q) in
    let half = half_exact m e f large false in
    let h = mul binary64 minus_half s in
    let v : HasValue h true (m * up e) (2 * down e) = rw (minus_half_is m e) (half_exact m e f large true) in
    let number = is_number h true (m * up e) (2 * down e) v in
    is_true _ (rw (half_is m e)
    (⊎_elim
    (λ c. rw c (enough m e half h h v number (float_lt_irrefl h)))
    (λ c. rw c.0 (enough m e half h ds v c.1 c.2))
    (max_cases ds h number)))
