-- The steps of ln's series, and the exponent as a difference of two whole floats. Assumes nothing.
use mathlib.Core.Path.{◌≡◌, refl, sym, ◌∙◌}
use mathlib.Core.Bool.{true, false}
use Prim.Native.Nat.{ℕ, zero, suc, ◌+◌, ◌-◌, ◌*◌, ◌^◌, ◌≤◌, ◌<◌}
use native.Mathlib.Nat.{zero-lt-suc, lt_of_not-le}
use native.Mathlib.Decide.{dec_le}
use native.Mathlib.Omega.{arith}
use borrow.Author.Tests.{lt-ltb, le-ltb, le-leb, lt-leb}
use lib.Ieee.{Float, binary64, minus, of_int, of_bits, sum}
use Rattle.elementary.specs.Ops.{◌⊕◌, ◌⊖◌, ◌⊗◌, ◌⊘◌, one, float}
use Rattle.elementary.specs.Ln.{ln_sum}
use Rattle.elementary.proofs.Laws.Values.{whole_value}
use Rattle.elementary.proofs.Laws.Adding.{sub_at}

-- ---- the series
pub first : one ⊘ of_bits binary64 0x4037_0000_0000_0000 ≡ one ⊘ float 23
unfolding of_bits of_int
first = refl

-- q is the sum for z after the steps down to i
abbrev pub Down : ℕ → Float → Float → Type 0
Down i z q = ln_sum 11 z (one ⊘ float 23) ≡ ln_sum i z q

pub horner_step : (i : ℕ) (z q : Float) → 0 < i → Down i z q → Down (i - 1) z (one ⊘ float (2 * (i - 1) + 1) ⊕ z ⊗ q)
unfolding ln_sum
horner_step zero z q l h = absurd (omega arith)
horner_step (suc i) z q l h = let e : suc i - 1 ≡ i = omega arith in rw e h

pub no_steps_left : (i : ℕ) (z q : Float) → i ≤ 0 → Down i z q → q ≡ ln_sum 11 z (one ⊘ float 23)
unfolding ln_sum
no_steps_left zero z q l h = sym h
no_steps_left (suc i) z q l h = absurd (omega arith)

-- ---- the difference of two whole numbers
apart : (a b : ℕ) → sum binary64 false a true b 1 ≡ of_int binary64 (minus a b)
unfolding sum of_int
apart a b =
    elim (dec_le b a) [
      | yes h ↦ rw (le-ltb a b h, le-leb b a h)
      | no n ↦
          let l : a < b = lt_of_not-le n in
          let e : b - a ≡ suc (b - suc a) = omega arith in
          rw (lt-ltb a b l, lt-leb b a l, e)
    ]

pub difference : (a b : ℕ) → a ≤ 2 ^ 53 → b ≤ 2 ^ 53 → float a ⊖ float b ≡ of_int binary64 (minus a b)
difference a b h k = sub_at (float a) (float b) false false a b 1 (zero-lt-suc 0) (whole_value a h) (whole_value b k) ∙ apart a b

pub unit : of_bits binary64 0x4090_c800_0000_0000 ≡ float 1074
unfolding of_bits of_int
unit = refl
