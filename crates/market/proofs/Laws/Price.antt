-- What a price is of its units: a whole number of 15 digits is exact as a float, so that the quotient alone is rounded. Assumes nothing.
use mathlib.Core.Path.{◌≡◌, refl, ap}
use mathlib.Core.Bool.{Bool, true, false}
use Prim.Native.Nat.{ℕ, ◌*◌, ◌^◌, ◌<◌}
use native.Mathlib.Nat.{mul-pos}
use native.Mathlib.Omega.{arith}
use lib.IntN.{ℤ, pos}
use lib.Ieee.{fin, binary64, up, down, neg, div, round, of_bits}
use lib.Ieee.Fits.{down_pos}
use lib.Ieee.Exact.{HasValue}
use lib.Ieee.Scale.{round_same}
use Rattle.elementary.specs.Ops.{float}
use Rattle.elementary.proofs.Laws.Order.{valued, finite_by}
use Rattle.elementary.proofs.Laws.Values.{whole_value}
use Rattle.market.specs.declared.packed.Units.{Units}
use Rattle.market.specs.Packed.{price_of}

pub ten_thousand : of_bits binary64 0x40C3_8800_0000_0000 ≡ fin false 625 (pos 4)
unfolding of_bits
ten_thousand = refl

quotient : (s : Bool) (n m : ℕ) (e : ℤ) → m * up e * 1 ≡ n * down e → div binary64 (fin s m e) (fin false 625 (pos 4)) ≡ round binary64 s n 10000
unfolding div
quotient true n m e h = round_same binary64 true _ _ n 10000 (mul-pos {m = 10000} {n = down e} (omega arith) (down_pos e)) (omega arith) (omega (arith, ap (λ (z : ℕ). z * 10000) h))
quotient false n m e h = round_same binary64 false _ _ n 10000 (mul-pos {m = 10000} {n = down e} (omega arith) (down_pos e)) (omega arith) (omega (arith, ap (λ (z : ℕ). z * 10000) h))

module _ (u : Units) (few : u.size < 10 ^ 15) where
  value : HasValue (float u.size) false u.size 1
  value = whole_value u.size (omega arith)

  pub plus : u.minus ≡ false → div binary64 (float u.size) (of_bits binary64 0x40C3_8800_0000_0000) ≡ price_of u
  unfolding price_of
  plus s = rw (ten_thousand, s) (elim (finite_by (float u.size) value) as (λ x _. div binary64 x (fin false 625 (pos 4)) ≡ round binary64 false u.size 10000) [ valued m e h ↦ quotient false u.size m e h ])

  pub minus : u.minus ≡ true → div binary64 (neg (float u.size)) (of_bits binary64 0x40C3_8800_0000_0000) ≡ price_of u
  unfolding price_of neg
  minus s = rw (ten_thousand, s) (elim (finite_by (float u.size) value) as (λ x _. div binary64 (neg x) (fin false 625 (pos 4)) ≡ round binary64 true u.size 10000) [ valued m e h ↦ quotient true u.size m e h ])
