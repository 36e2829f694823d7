-- The largest price that is written, and the next float, which is refused: how many ten-thousandths either has, and that no float lies between. Assumes nothing.
use mathlib.Core.Path.{◌≡◌, refl, ap}
use mathlib.Core.Bool.{Bool, true, false, not, ◌&&◌}
use Prim.Native.Nat.{ℕ, suc, ◌-◌, ◌*◌, ◌^◌, ◌≤◌, ◌<◌}
use native.Mathlib.Nat.{lt_of_mul-lt-mul_right, mul-le-mul_right, lt_of_not-le}
use native.Mathlib.Omega.{arith}
use borrow.Author.Tests.{lt-ltb, le-ltb}
use lib.Dec.{T, ltb}
use lib.IntN.{ℤ, negsuc}
use lib.Ieee.{Float, nan, inf, fin, binary64, up, down, le, fits, of_bits}
use lib.Ieee.Fits.{down_pos, two}
use lib.Ieee.Nearest.{closest_mono}
use Rattle.std.specs.Prelude.{Ok, Err}
use Rattle.elementary.specs.Methods.{abs_of}
use Rattle.elementary.specs.Promises.{place}
use Rattle.elementary.proofs.Laws.Bits.{abs_fits}
use Rattle.elementary.proofs.Laws.Leaf.{size_of}
use Rattle.elementary.proofs.Laws.Order.{le→fractions, fractions→le}
use Rattle.elementary.proofs.Laws.Places.{tail, lead, gap, digits_of, units_value}
use Rattle.market.specs.declared.packed.Units.{Units}
use Rattle.market.specs.declared.refusal.Refusal.TheVariants.{Price}
use Rattle.market.specs.Packed.{nearest_whole, units_of}
use Rattle.market.specs.Promises.Packed.{LARGEST_PRICE}

-- it is this many 65,536ths
abbrev most : ℕ
most = 6553599999999996

largest : LARGEST_PRICE ≡ fin false 1638399999999999 (negsuc 13)
unfolding of_bits
largest = refl

never : (b : Bool) → T (not b) → T b → ⊥
never true x y = x
never false x y = y

module _ (m : ℕ) (e : ℤ) where
  abbrev a : ℕ
  a = m * up e

  abbrev d : ℕ
  d = down e

  at_most : T (le (fin false m e) LARGEST_PRICE) → a * 65536 ≤ most * d
  at_most t = let h = le→fractions false false a 1638399999999999 d (2 ^ 14) (down_pos e) (omega arith) (fin false m e) (fin false 1638399999999999 (negsuc 13)) (refl, refl) (refl, refl) (rw largest at t) in omega arith

  not_more : a * 65536 ≤ most * d → T (le (fin false m e) LARGEST_PRICE)
  not_more h = rw largest (fractions→le false false a 1638399999999999 d (2 ^ 14) (down_pos e) (omega arith) (fin false m e) (fin false 1638399999999999 (negsuc 13)) (refl, refl) (refl, refl) (omega arith))

  pub fifteen : T (le (fin false m e) LARGEST_PRICE) → nearest_whole (m * up e * 10000) (down e) < 10 ^ 15
  fifteen t = let h = at_most t in let l = closest_mono (a * 10000) d (most * 10000) 65536 (down_pos e) (omega arith) (omega arith) in omega arith

  -- the next float is a 65,536th further
  module _ (held : T (fits binary64 (fin false m e))) (above : T (not (le (fin false m e) LARGEST_PRICE))) where
    p : ℕ
    p = place binary64 (fin false m e)

    value : a * 2 ^ 1074 ≡ p * d
    unfolding p place
    value = (units_value binary64 false m e held).1

    more : most * 2 ^ 1058 < p
    more = lt_of_mul-lt-mul_right d (omega (arith, value, lt_of_not-le (λ (h : a * 65536 ≤ most * d). never (le (fin false m e) LARGEST_PRICE) above (not_more h))))

    tail_is : tail 53 (most * 2 ^ 1058) ≡ 1058
    tail_is = ap (λ (z : ℕ). z - 53) (size_of (most * 2 ^ 1058) 1110 (omega arith) (omega arith))

    lead_is : lead 53 (most * 2 ^ 1058) ≡ most
    lead_is = rw tail_is refl

    next : suc most * 2 ^ 1058 ≤ p
    unfolding p
    next = rw (lead_is, tail_is) at (gap 53 (most * 2 ^ 1058) (two binary64) p (digits_of binary64 (fin false m e) held) (rw (lead_is, tail_is) more))

    pub sixteen : 10 ^ 15 ≤ nearest_whole (m * up e * 10000) (down e)
    sixteen = closest_mono (suc most * 10000) 65536 (a * 10000) d (omega arith) (down_pos e) (omega (arith, value, mul-le-mul_right d next))

-- ---- the promise
pub written_to : (x : Float) → T (fits binary64 x) → T (le (abs_of x) LARGEST_PRICE) → (u : Units) × (units_of x ≡ Ok u)
unfolding units_of abs_of le of_bits
written_to nan f t = absurd t
written_to (inf s) f t = absurd t
written_to (fin s m e) f t = let n = nearest_whole (m * up e * 10000) (down e) in (record { minus = s && ltb 0 n; size = n }, rw (lt-ltb n (10 ^ 15) (fifteen m e t)) refl)

pub none_after : (x : Float) → T (fits binary64 x) → T (not (le (abs_of x) LARGEST_PRICE)) → units_of x ≡ Err Price
unfolding units_of abs_of
none_after nan f t = refl
none_after (inf s) f t = refl
none_after (fin s m e) f t = rw (le-ltb (nearest_whole (m * up e * 10000) (down e)) (10 ^ 15) (sixteen m e (abs_fits (fin s m e) f) t)) refl
