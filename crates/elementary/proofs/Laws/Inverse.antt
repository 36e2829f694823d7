-- Document 01's sentence on the inverse cdf, "Then cdf(lo) < p ≤ cdf(hi)": the 64 steps end with p between the cdf's values at the two ends, for every
-- p strictly between 0 and 1 and under every rule set. The cdf need not be monotone for it. Assumes nothing.
use mathlib.Core.Path.{◌≡◌, refl, sym}
use mathlib.Core.Bool.{Bool, true, false, cond, true≢false}
use Prim.Native.Nat.{ℕ, zero, suc}
use lib.Dec.{T, lit≤}
use lib.Ieee.{Float, nan, inf, fin, mul, div, sub, neg, eq, lt, le, ne, of_bits, of_int, to_signed}
use lib.Ieee.Scale.{finite}
use Rattle.elementary.specs.Ops.{+0, one}
use Rattle.elementary.specs.declared.rule_set.RuleSet.{RuleSet}
use Rattle.elementary.specs.Methods.{abs_of}
use Rattle.elementary.specs.Floor.{floor_of}
use Rattle.elementary.specs.Exp.{exp_of, exp_inner, exp_sum, scaled}
use Rattle.elementary.specs.Cody.{erfc_of, erfc_abs, smoothened_exponential_of_negative_square, tilde_of}
use Rattle.elementary.specs.NormalDistribution.{cdf_of, mid_of, bisection_ends, lowest, highest, ends_of, inverse_of}
use Rattle.elementary.proofs.Laws.Bounds.{side_finite, unsigned, small_exact, half_at_most, add_at_most}
use Rattle.elementary.specs.Promises.{Brackets}
use Rattle.elementary.specs.Inside.Bounds.{AtMost, sized}
use Rattle.elementary.proofs.Laws.Compare.{lt_asym, lt_of_not_le, le_of_not_lt, not_le_of_lt, not_lt_of_not_le, equal_itself}
use Rattle.elementary.proofs.Laws.Finite.{cdf_at_most}

-- a p strictly between 0 and 1 is finite, and no end of the inverse's range
between_finite : (p : Float) → lt +0 p ≡ true → lt p one ≡ true → T (finite p)
unfolding lt of_bits
between_finite nan h k = absurd (true≢false (sym h))
between_finite (inf true) h k = absurd (true≢false (sym h))
between_finite (inf false) h k = absurd (true≢false (sym k))
between_finite (fin s m e) h k = tt

-- ---- the ends of the bisection, after any number of steps
record Around (cdf : Float → Float) (p lo hi : Float) : Type 0 where
  under : lt (cdf lo) p ≡ true
  over : lt (cdf hi) p ≡ false
  lo_range : AtMost lo 39
  hi_range : AtMost hi 39

mid_range : {lo hi : Float} → AtMost lo 39 → AtMost hi 39 → AtMost (mid_of lo hi) 39
mid_range h k = half_at_most 39 (small_exact 39 (lit≤ tt)) (add_at_most 78 (small_exact 78 (lit≤ tt)) (lit≤ tt) h.side k.side).side

around : (cdf : Float → Float) (n : ℕ) (p lo hi : Float) → Around cdf p lo hi → Around cdf p (bisection_ends cdf n p lo hi).lo (bisection_ends cdf n p lo hi).hi
unfolding bisection_ends
around cdf zero p lo hi h = h
around cdf (suc n) p lo hi h = around cdf n p _ _ (go (lt (cdf (mid_of lo hi)) p) refl)
  where
    go : (b : Bool) → lt (cdf (mid_of lo hi)) p ≡ b → Around cdf p (cond b (mid_of lo hi) lo) (cond b hi (mid_of lo hi))
    go true t = record { under = t; over = h.over; lo_range = mid_range h.lo_range h.hi_range; hi_range = h.hi_range }
    go false t = record { under = h.under; over = t; lo_range = h.lo_range; hi_range = mid_range h.lo_range h.hi_range }

-- ---- at the two first ends
at_ends : (set : RuleSet) → (cdf_of set lowest ≡ +0) × (cdf_of set highest ≡ one)
unfolding cdf_of erfc_of abs_of erfc_abs smoothened_exponential_of_negative_square tilde_of exp_of exp_inner exp_sum scaled floor_of mul sub div neg of_bits of_int to_signed lt le ne
at_ends set = go set.far_factor
  where
    under : Bool → RuleSet
    under b = record { textbook_cap = set.textbook_cap; far_factor = b }

    go : (b : Bool) → (cdf_of (under b) lowest ≡ +0) × (cdf_of (under b) highest ≡ one)
    go true = (refl, refl)
    go false = (refl, refl)

-- ---- where the inverse bisects, the first ends lie on both sides of p
positive : (p : Float) → ne p p ≡ false → le p +0 ≡ false → lt +0 p ≡ true
unfolding ne eq le lt of_bits
positive nan n h = absurd (true≢false n)
positive (inf true) n h = absurd (true≢false h)
positive (inf false) n h = refl
positive (fin s m e) n h = lt_of_not_le +0 (fin s m e) tt tt h

pub lowest_under : (set : RuleSet) (p : Float) → ne p p ≡ false → le p +0 ≡ false → lt (cdf_of set lowest) p ≡ true
lowest_under set p n h = rw (at_ends set).0 (positive p n h)

pub highest_over : (set : RuleSet) (p : Float) → le one p ≡ false → lt (cdf_of set highest) p ≡ false
highest_over set p h = rw (at_ends set).1 (not_lt_of_not_le one p h)

-- ---- the theorem
pub inverse_brackets : (set : RuleSet) (p : Float) → lt +0 p ≡ true → lt p one ≡ true → Brackets set p (ends_of set p).lo (ends_of set p).hi
unfolding inverse_of ends_of neg of_bits
inverse_brackets set p above_0 below_1 =
    let start : Around (cdf_of set) p lowest highest =
    record { under = rw (at_ends set).0 above_0; over = rw (at_ends set).1 (lt_asym p one below_1); lo_range = unsigned (sized _ _ (lit≤ tt)); hi_range = unsigned (sized _ _ (lit≤ tt)) } in
    let h = around (cdf_of set) 64 p lowest highest start in
    let hi = (bisection_ends (cdf_of set) 64 p lowest highest).hi in
    record {
      under = h.under;
      over = le_of_not_lt (cdf_of set hi) p (side_finite (cdf_at_most set h.hi_range).side) (between_finite p above_0 below_1) h.over;
      inverse = rw (equal_itself p (between_finite p above_0 below_1), not_le_of_lt +0 p above_0, not_le_of_lt p one below_1);
    }
