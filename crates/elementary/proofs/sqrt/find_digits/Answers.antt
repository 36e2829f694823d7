-- `find_digits` meets its contract: each turn is one of every root's. Assumes nothing.
use Rattle.std.proofs.Common.{rules, ◌≡◌, ◌<◌, ◌≤◌, ◌-◌, ◌^◌, ℕ, ◌+◌, ◌/◌, length}
use mathlib.Core.Path.{sym, subst, ap, ◌∙◌, refl}
use mathlib.Core.Logic.{inl, inr}
use mathlib.Core.List.{List}
use Prim.Native.Nat.{suc}
use native.Mathlib.Nat.{le_refl, eq-or-lt_of_le, div-le_self, div-div-eq-div-mul, mul-div_cancel, pow-suc}
use native.Mathlib.Omega.{arith}
use lib.Pow.{pow-add, pow_pos}
use Rattle.std.proofs.lemmas.List.{get_or-set_same, get_or-set_other}
use Rattle.elementary.specs.declared.sqrt.Aligned.{Aligned}
use Rattle.elementary.specs.declared.sqrt.Digits.{Digits}
use Rattle.elementary.specs.Sqrt.{first_digits, turn_of}
use Rattle.elementary.specs.Promises.{DigitsFound}
use Rattle.elementary.specs.Inside.Sqrt.{significand_at, digits_at, AllAligned}
use Rattle.elementary.proofs.sqrt.Found.{before, bounds, after}
use Rattle.elementary.proofs.sqrt.find_digits.Goals as goal

pub loop-init : goal.loop-init
loop-init g c =
    let n : length c.args.aligned ≡ g.row.N = search rules in (
      refl,
      c.loop-i.invariant.0,
      λ j h.
          let a = significand_at j c.args.aligned in
          subst (DigitsFound a 0 (first_digits 0 a)) (sym (c.loop-i.invariant.1 j (omega (arith, n, h, c.loop-i-test.false)))) (before a (c.requires.1.each j h)),
    )

-- ---- a digit's place
place_is : (t : ℕ) → t ≤ 52 → 2 ^ 52 / 2 ^ t ≡ 2 ^ (52 - t)
place_is t h =
    let e : 52 - t + t ≡ 52 = omega arith in
    ap (λ (z : ℕ). 2 ^ z / 2 ^ t) (sym e) ∙ ap (λ (z : ℕ). z / 2 ^ t) (pow-add 2 (52 - t) t) ∙ mul-div_cancel (2 ^ (52 - t)) (pow_pos t)

half_place : (t : ℕ) → 2 ^ 52 / 2 ^ t / 2 ≡ 2 ^ 52 / 2 ^ (t + 1)
half_place t = let e : suc t ≡ t + 1 = omega arith in div-div-eq-div-mul (2 ^ 52) (2 ^ t) 2 ∙ ap (λ (z : ℕ). 2 ^ 52 / z) (sym (pow-suc 2 t) ∙ ap (λ (z : ℕ). 2 ^ z) e)

-- ---- a turn of one root
abbrev Kept : List Aligned → ℕ → ℕ → Digits → Type 0
Kept xs j t state = DigitsFound (significand_at j xs) t (first_digits t (significand_at j xs)) state

turned : (xs : List Aligned) (j t place : ℕ) (state : Digits) → AllAligned xs → j < length xs → t ≤ 52 → place ≡ 2 ^ 52 / 2 ^ t → Kept xs j t state → Kept xs j (t + 1) (turn_of place state)
turned xs j t place state A l T p h =
    let e : suc t ≡ t + 1 = omega arith in
    subst (λ z. Kept xs j z (turn_of place state)) e (rw (p, place_is t T) (after (significand_at j xs) (A.each j l) t (first_digits t (significand_at j xs)) state (omega arith) h))

pub turn-requires : goal.turn-requires
turn-requires g c =
    let xs = c.args.aligned in
    let i = c.loop-i-2.i in
    let t = c.loop.counter in
    let n : length xs ≡ g.row.N = search rules in
    let l : i < length xs = omega (arith, n, c.loop-i-2-test.true) in
    let b = bounds (significand_at i xs) (c.requires.1.each i l) t _ _ (c.loop-i-2.invariant.2 i (le_refl i) l) in
    let k : 2 ^ 52 / 2 ^ t ≤ 2 ^ 52 = div-le_self (2 ^ 52) (2 ^ t) in
    (b.0, b.1, omega (arith, k, c.loop.invariant.0))

pub loop-i-2-preserved : goal.loop-i-2-preserved
loop-i-2-preserved g c =
    let xs = c.args.aligned in
    let ds = c.loop-i-2.found in
    let i = c.loop-i-2.i in
    let t = c.loop.counter in
    let n : length xs ≡ g.row.N = search rules in
    let l : i < length xs = omega (arith, n, c.loop-i-2-test.true) in
    let T : t ≤ 52 = omega (arith, c.loop-test.true, c.requires.0) in
    let here : Kept xs i (t + 1) c.turn.result = rw c.turn.ensures (turned xs i t c.loop.place (digits_at i ds) c.requires.1 l T c.loop.invariant.0 (c.loop-i-2.invariant.2 i (le_refl i) l)) in (
      search rules,
      λ j h.
          elim (eq-or-lt_of_le {n = j} {m = i} (omega arith)) [
            | inl e ↦ rw e (subst (Kept xs i (t + 1)) (sym (get_or-set_same ds i c.turn.result _ (omega (arith, l, c.loop-i-2.invariant.0)))) here)
            | inr k ↦ subst (Kept xs j (t + 1)) (sym (get_or-set_other ds i j c.turn.result _ (λ e. omega arith))) (c.loop-i-2.invariant.1 j k)
          ],
      λ j k h. subst (Kept xs j t) (sym (get_or-set_other ds i j c.turn.result _ (λ e. omega arith))) (c.loop-i-2.invariant.2 j (omega arith) h),
    )

pub loop-preserved : goal.loop-preserved
loop-preserved g c =
    let n : length c.args.aligned ≡ g.row.N = search rules in (
      ap (λ (z : ℕ). z / 2) c.loop.invariant.0 ∙ half_place c.loop.counter,
      c.loop-i-2.invariant.0,
      λ j h. c.loop-i-2.invariant.1 j (omega (arith, n, h, c.loop-i-2-test.false)),
    )
