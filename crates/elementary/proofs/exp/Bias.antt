-- A whole number k, and k + 2048 as a float and as a whole number. Assumes nothing.
use mathlib.Core.Path.{◌≡◌, refl, sym, ◌∙◌}
use mathlib.Core.Bool.{Bool, true, false}
use Prim.Native.Nat.{ℕ, zero, suc, ◌+◌, ◌-◌, ◌*◌, ◌/◌, ◌^◌, ◌≤◌, ◌<◌}
use native.Mathlib.Nat.{le_trans, lt_of_le_of_lt, add_comm, mul-one, mul-div_cancel, min-eq_left}
use native.Mathlib.Omega.{arith}
use lib.Dec.{T, lit<, lit≤, le→leb}
use lib.IntN.{pos, neg_ℤ}
use borrow.Author.Tests.{lt-ltb, le-leb, lt-leb}
use lib.Ieee.{Float, binary64, up, down, sum, of_bits, of_int, minus, to_signed, to_unsigned, in_unsigned, in_float}
use lib.Ieee.Fits.{down_pos}
use lib.Ieee.Exact.{HasValue}
use lib.Ieee.Back.{unsigned_back}
use Rattle.elementary.specs.Ops.{◌⊕◌, float}
use Rattle.elementary.proofs.Laws.Order.{valued, finite_by}
use Rattle.elementary.proofs.Laws.Adding.{add_at}
use Rattle.elementary.specs.Inside.Exp.{Whole, BiasedExponent}

abbrev bias : Float
bias = of_bits binary64 0x40a0_0000_0000_0000

-- n with the sign s, and 2048 more
abbrev shifted : Bool → ℕ → ℕ
shifted true n = 2048 - n
shifted false n = 2048 + n

plus_bias : (k : Float) (s : Bool) (n : ℕ) → n ≤ 1078 → HasValue k s n 1 → k ⊕ bias ≡ float (shifted s n)
unfolding sum of_bits of_int
plus_bias k false n l h = add_at k bias false false n 2048 1 (lit< tt) h (refl, refl) ∙ rw (add_comm n 2048)
plus_bias k true n l h = add_at k bias true false n 2048 1 (lit< tt) h (refl, refl) ∙ rw (lt-ltb n 2048 (omega arith))

-- k as an integer
minus_plus : (n : ℕ) → minus (2048 + n) 2048 ≡ pos n
minus_plus n = let e : 2048 + n - 2048 ≡ n = omega arith in rw (le-leb 2048 (2048 + n) (omega arith), e)

minus_minus : (n : ℕ) → n ≤ 1078 → minus (2048 - n) 2048 ≡ neg_ℤ (pos n)
minus_minus zero l = refl
minus_minus (suc n) l =
    let e : 2048 - suc (2048 - suc n) ≡ n = omega arith in
    rw (lt-leb 2048 (2048 - suc n) (omega arith), e)

whole_part : (a c n : ℕ) → 0 < c → a * 1 ≡ n * c → a / c ≡ n
whole_part a c n C h = rw (sym (mul-one a) ∙ h) (mul-div_cancel n C)

integer : (k : Float) (s : Bool) (n : ℕ) → n ≤ 1078 → HasValue k s n 1 → to_signed 63 k ≡ minus (shifted s n) 2048
unfolding to_signed
integer k true n l h = elim (finite_by k h) as (λ y _. to_signed 63 y ≡ minus (shifted true n) 2048) [ valued m e i ↦ rw (whole_part (m * up e) (down e) n (down_pos e) i, min-eq_left {n = n} {m = 2 ^ 63} (omega arith)) (sym (minus_minus n l)) ]
integer k false n l h = elim (finite_by k h) as (λ y _. to_signed 63 y ≡ minus (shifted false n) 2048) [ valued m e i ↦ rw (whole_part (m * up e) (down e) n (down_pos e) i, min-eq_left {n = n} {m = 2 ^ 63 - 1} (omega arith)) (sym (minus_plus n)) ]

in_range : (s : Bool) (n : ℕ) → n ≤ 1078 → (960 ≤ shifted s n) × (shifted s n ≤ 3136)
in_range true n l = (omega arith, omega arith)
in_range false n l = (omega arith, omega arith)

module _ (k : Float) (w : Whole k) where
  abbrev e : ℕ
  e = shifted w.sign w.size

  high : e ≤ 3136
  high = (in_range w.sign w.size w.small).1

  pub cast : T (in_unsigned binary64 64 (k ⊕ bias)) × (to_unsigned 64 (k ⊕ bias) ≡ e)
  unfolding in_float
  cast =
      rw (plus_bias k w.sign w.size w.small w.value)
      (unsigned_back binary64 64 e (le→leb e (2 ^ 53) (le_trans high (lit≤ tt))) (lt_of_le_of_lt high (lit< tt)))

  pub biased : BiasedExponent k (to_unsigned 64 (k ⊕ bias))
  biased =
      rw cast.1
      (record { exponent = integer k w.sign w.size w.small w.value; low = (in_range w.sign w.size w.small).0; high = high })
