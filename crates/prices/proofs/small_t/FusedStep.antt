-- A fused step by errors, of numbers that are small enough: how large its parts are, and what it is where it is certain. Assumes nothing.
use mathlib.Core.Path.{◌≡◌, sym, subst}
use mathlib.Core.Bool.{true, false}
use Prim.Native.Nat.{◌%◌, ◌^◌, ◌<◌}
use native.Mathlib.Omega.{arith}
use lib.Dec.{T, lit≤}
use lib.Ieee.{Float, binary64, fits, to_bits, lt}
use lib.Ieee.Scale.{finite}
use Rattle.elementary.specs.Ops.{◌⊕◌, ◌⊗◌, bits, mul_add}
use Rattle.elementary.specs.Inside.Errors.{InRange, Certain, product_error, sum_error, ordered_sum_error}
use Rattle.elementary.proofs.Laws.Errors.Fused.{fused_is, ordered_fused_is}
use Rattle.prices.specs.Inside.SmallT.{Within, Operands, Grows}
use Rattle.prices.proofs.Laws.Sizes.{looser, is_finite, pattern, product_within, total_within, error_within, ordered_within, grown}

module _ {a b c : Float} (f : fits binary64 a ≡ true) (g : fits binary64 b ≡ true) (h : fits binary64 c ≡ true) (p : Operands a b c) where
  first : T (fits binary64 a)
  first = subst T (sym f) tt

  second : T (fits binary64 b)
  second = subst T (sym g) tt

  third : T (fits binary64 c)
  third = subst T (sym h) tt

  addend : to_bits binary64 c % 2 ^ 63 < 0x7e00_0000_0000_0000
  addend = omega (arith, pattern c third p.c_within)

  pub product_finite : T (finite (a ⊗ b))
  product_finite = is_finite (product_within first second (lit≤ tt) (lit≤ tt) p.a_within p.b_within p.c_within)

  pub sum_small : Within (a ⊗ b ⊕ c) 1000
  sum_small = looser 1000 (lit≤ tt) (total_within first second (lit≤ tt) (lit≤ tt) p.a_within p.b_within p.c_within)

  pub error_small : Within (sum_error (a ⊗ b) c ⊕ product_error a b) 1000
  error_small = looser 1000 (lit≤ tt) (error_within first second (lit≤ tt) (lit≤ tt) p.a_within p.b_within p.c_within)

  pub ordered_error_small : Within (ordered_sum_error (a ⊗ b) c ⊕ product_error a b) 1000
  ordered_error_small = looser 1000 (lit≤ tt) (ordered_within first second (lit≤ tt) (lit≤ tt) p.a_within p.b_within p.c_within)

  module _ (i : InRange a) (j : InRange b) where
    pub step_is : Certain (a ⊗ b ⊕ c) (sum_error (a ⊗ b) c ⊕ product_error a b) → a ⊗ b ⊕ c ⊕ (sum_error (a ⊗ b) c ⊕ product_error a b) ≡ mul_add a b c
    step_is s = fused_is a b c first second third i j addend s

    pub ordered_step_is : lt (bits (to_bits binary64 (a ⊗ b) % 2 ^ 63)) (bits (to_bits binary64 c % 2 ^ 63)) ≡ false → Certain (a ⊗ b ⊕ c) (ordered_sum_error (a ⊗ b) c ⊕ product_error a b)
        → a ⊗ b ⊕ c ⊕ (ordered_sum_error (a ⊗ b) c ⊕ product_error a b) ≡ mul_add a b c
    ordered_step_is o s = ordered_fused_is a b c first second third i j addend o s

  pub step_grows : Grows a b c (a ⊗ b ⊕ c ⊕ (sum_error (a ⊗ b) c ⊕ product_error a b))
  step_grows = λ i j n l t A B C. grown first second l t A B C (error_within first second l t A B C)

  pub ordered_step_grows : Grows a b c (a ⊗ b ⊕ c ⊕ (ordered_sum_error (a ⊗ b) c ⊕ product_error a b))
  ordered_step_grows = λ i j n l t A B C. grown first second l t A B C (ordered_within first second l t A B C)
