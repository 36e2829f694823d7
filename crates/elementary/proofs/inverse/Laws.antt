-- The bisection's steps, and where they change nothing any more. Assumes nothing.
use mathlib.Core.Path.{◌≡◌, refl, sym, ◌∙◌, ap}
use mathlib.Core.Bool.{Bool, true, false, cond}
use Prim.Native.Nat.{ℕ, zero, suc, ◌+◌, ◌-◌, ◌≤◌, ◌<◌}
use native.Mathlib.Nat.{add_assoc}
use native.Mathlib.Omega.{arith}
use mathlib.Core.List.{[], ◌∷◌}
use lib.ListN.{get_or}
use lib.Ieee.{Float, lt}
use Rattle.elementary.specs.declared.rule_set.RuleSet.{RuleSet}
use Rattle.elementary.specs.NormalDistribution.{cdf_of, mid_of, bisection_ends, lowest, highest, ends_of}
use Rattle.elementary.specs.Inside.Bisection.{AfterSteps}
use Rattle.elementary.specs.Inside.Cdf.{point_of}
use Rattle.elementary.proofs.tables.Laws.{Middle, middle_of, middle_16, middle_8, middle_4, middle_2, middle_1, lowest_point, highest_point}

-- ---- one step
step_up : (cdf : Float → Float) (n : ℕ) (p lo hi : Float) → lt (cdf (mid_of lo hi)) p ≡ true → bisection_ends cdf (suc n) p lo hi ≡ bisection_ends cdf n p (mid_of lo hi) hi
unfolding bisection_ends
step_up cdf n p lo hi t = rw t refl

step_down : (cdf : Float → Float) (n : ℕ) (p lo hi : Float) → lt (cdf (mid_of lo hi)) p ≡ false → bisection_ends cdf (suc n) p lo hi ≡ bisection_ends cdf n p lo (mid_of lo hi)
unfolding bisection_ends
step_down cdf n p lo hi t = rw t refl

-- ---- where the middle is an end, every later step leaves both ends
stays_low : (cdf : Float → Float) (n : ℕ) (p lo hi : Float) → lt (cdf lo) p ≡ true → mid_of lo hi ≡ lo → (bisection_ends cdf n p lo hi).hi ≡ hi
unfolding bisection_ends
stays_low cdf zero p lo hi u e = refl
stays_low cdf (suc n) p lo hi u e = ap (λ z. z.hi) (step_up cdf n p lo hi (rw e u)) ∙ rw e (stays_low cdf n p lo hi u e)

stays_high : (cdf : Float → Float) (n : ℕ) (p lo hi : Float) → lt (cdf hi) p ≡ false → mid_of lo hi ≡ hi → (bisection_ends cdf n p lo hi).hi ≡ hi
unfolding bisection_ends
stays_high cdf zero p lo hi o e = refl
stays_high cdf (suc n) p lo hi o e = ap (λ z. z.hi) (step_down cdf n p lo hi (rw e o)) ∙ rw e (stays_high cdf n p lo hi o e)

pub ends_low : {set : RuleSet} (p lo hi : Float) (i : ℕ) → AfterSteps set p lo hi i → mid_of lo hi ≡ lo → hi ≡ (ends_of set p).hi
ends_low {set} p lo hi i h e = sym (ap (λ z. z.hi) h.rest ∙ stays_low (cdf_of set) (64 - i) p lo hi h.under e)

pub ends_high : {set : RuleSet} (p lo hi : Float) (i : ℕ) → AfterSteps set p lo hi i → mid_of lo hi ≡ hi → hi ≡ (ends_of set p).hi
ends_high {set} p lo hi i h e = sym (ap (λ z. z.hi) h.rest ∙ stays_high (cdf_of set) (64 - i) p lo hi h.over e)

-- ---- after i steps
one_less : (i : ℕ) → i < 64 → 64 - i ≡ suc (64 - (i + 1))
one_less i l = omega arith

pub after_up : {set : RuleSet} (p lo hi : Float) (i : ℕ) → AfterSteps set p lo hi i → i < 64 → lt (cdf_of set (mid_of lo hi)) p ≡ true → AfterSteps set p (mid_of lo hi) hi (i + 1)
after_up {set} p lo hi i h l t = record { bound = omega arith; under = t; over = h.over; rest = h.rest ∙ rw (one_less i l) (step_up (cdf_of set) (64 - (i + 1)) p lo hi t) }

pub after_down : {set : RuleSet} (p lo hi : Float) (i : ℕ) → AfterSteps set p lo hi i → i < 64 → lt (cdf_of set (mid_of lo hi)) p ≡ false → AfterSteps set p lo (mid_of lo hi) (i + 1)
after_down {set} p lo hi i h l t = record { bound = omega arith; under = h.under; over = t; rest = h.rest ∙ rw (one_less i l) (step_down (cdf_of set) (64 - (i + 1)) p lo hi t) }

pub no_steps_left : {set : RuleSet} (p lo hi : Float) (i : ℕ) → AfterSteps set p lo hi i → 64 ≤ i → hi ≡ (ends_of set p).hi
unfolding bisection_ends
no_steps_left {set} p lo hi i h l = let z : 64 - i ≡ 0 = omega arith in sym (ap (λ e. e.hi) (rw z at h.rest))

-- ---- what a test on a computed value says of the definition
pub test_of_cdf : (set : RuleSet) (v x p : Float) (b : Bool) → v ≡ cdf_of set x → lt v p ≡ b → lt (cdf_of set x) p ≡ b
test_of_cdf set v x p b e t = rw (← e) t

pub with_ends : {set : RuleSet} {p lo lo' hi hi' : Float} {i : ℕ} → lo ≡ lo' → hi ≡ hi' → AfterSteps set p lo' hi' i → AfterSteps set p lo hi i
with_ends a b h = rw (a, b) h

-- ---- the first five steps
-- the half of the distance of the ends in the n-th of them, in points, and the distance before it
abbrev half : ℕ → ℕ
half n = get_or (16 ∷ 8 ∷ 4 ∷ 2 ∷ 1 ∷ []) n 0

abbrev width : ℕ → ℕ
width n = get_or (32 ∷ 16 ∷ 8 ∷ 4 ∷ 2 ∷ 1 ∷ []) n 0

-- the ends after n of them are the points i and i + width n
pub record Points (set : RuleSet) (p : Float) (i n : ℕ) : Type 0 where
  pub inside : i + width n ≤ 32
  pub after : AfterSteps set p (point_of i) (point_of (i + width n)) n

module _ {set : RuleSet} {p : Float} where
  pub at_start : lt (cdf_of set lowest) p ≡ true → lt (cdf_of set highest) p ≡ false → Points set p 0 0
  unfolding ends_of
  at_start under over = record { inside = omega arith; after = rw (lowest_point, highest_point) (record { bound = omega arith; under = under; over = over; rest = refl }) }

  halve : (n i r h m : ℕ) → Middle h m → width n ≡ h + h → width (n + 1) ≡ h → m + (h + h) ≡ 33 → n < 64 → Points set p i n
      → (b : Bool) → lt (cdf_of set (point_of (i + h))) p ≡ b → r ≡ cond b (i + h) i → Points set p r (n + 1)
  halve n i r h m e wide narrow size l at = go
    where
      mid : mid_of (point_of i) (point_of (i + (h + h))) ≡ point_of (i + h)
      mid = middle_of h m i e (omega (arith, at.inside, wide, size))

      ends : AfterSteps set p (point_of i) (point_of (i + (h + h))) n
      ends = rw wide at at.after

      go : (b : Bool) → lt (cdf_of set (point_of (i + h))) p ≡ b → r ≡ cond b (i + h) i → Points set p r (n + 1)
      go true t w = record { inside = omega (arith, at.inside, wide, narrow, w); after = rw (w, narrow, add_assoc i h h, ← mid) (after_up p (point_of i) (point_of (i + (h + h))) n ends l (rw mid t)) }
      go false t w = record { inside = omega (arith, at.inside, wide, narrow, w); after = rw (w, narrow, ← mid) (after_down p (point_of i) (point_of (i + (h + h))) n ends l (rw mid t)) }

  pub next_points : (n i : ℕ) {r : ℕ} → n < 5 → Points set p i n → (b : Bool) → lt (cdf_of set (point_of (i + half n))) p ≡ b → r ≡ cond b (i + half n) i → Points set p r (n + 1)
  next_points zero i {r} l at = halve 0 i r 16 1 middle_16 refl refl (omega arith) (omega arith) at
  next_points (suc zero) i {r} l at = halve 1 i r 8 17 middle_8 refl refl (omega arith) (omega arith) at
  next_points (suc (suc zero)) i {r} l at = halve 2 i r 4 25 middle_4 refl refl (omega arith) (omega arith) at
  next_points (suc (suc (suc zero))) i {r} l at = halve 3 i r 2 29 middle_2 refl refl (omega arith) (omega arith) at
  next_points (suc (suc (suc (suc zero)))) i {r} l at = halve 4 i r 1 31 middle_1 refl refl (omega arith) (omega arith) at
  next_points (suc (suc (suc (suc (suc n))))) i l at = absurd (omega arith)
