-- What is read comes back when it is written: between two neighbouring 65,536ths lies the fraction, and so its float, which is so near that its ten-thousandths
-- round to the units. Assumes nothing.
use mathlib.Core.Path.{◌≡◌, refl, ap, ◌∙◌}
use mathlib.Core.Bool.{Bool, true, false, not, ◌&&◌}
use mathlib.Core.Logic.{inl, inr}
use Prim.Native.Nat.{ℕ, suc, ◌+◌, ◌-◌, ◌*◌, ◌/◌, ◌%◌, ◌^◌, ◌≤◌, ◌<◌}
use native.Mathlib.Nat.{eq-zero-or-pos, lt_of_not-le, mul-le-mul_right}
use native.Mathlib.Decide.{dec_le}
use native.Mathlib.Omega.{arith}
use borrow.Author.Tests.{lt-ltb}
use lib.Dec.{T, ltb}
use lib.IntN.{ℤ}
use lib.Ieee.{Float, nan, inf, fin, binary64, up, down, units, round, fits, is_nan}
use lib.Ieee.Exact.{units_val}
use lib.Ieee.Fits.{down_pos}
use lib.Ieee.Nearest.{closest, closest_mono}
use Rattle.std.specs.Prelude.{Ok}
use Rattle.elementary.specs.Methods.{sign_of}
use Rattle.elementary.specs.Promises.{place, Rounded}
use Rattle.elementary.proofs.Promised.{round_is_nearest}
use Rattle.elementary.proofs.Laws.Nearest.{units_fits}
use Rattle.elementary.proofs.Laws.Places.{place_of, units_value}
use Rattle.market.specs.declared.packed.Units.{Units}
use Rattle.market.specs.Packed.{nearest_whole, written, price_of, units_of}
use Rattle.market.specs.Promises.Packed.{AreUnits}

-- ---- n / 10,000 between two 65,536ths, which are values of the format
module _ (s : Bool) (n : ℕ) (few : n < 10 ^ 15) where
  abbrev w : ℕ
  w = n * 65536 / 10000

  at : ℕ → Float
  at j = units binary64 s j 1058

  at_fits : (j : ℕ) → j ≤ suc w → T (fits binary64 (at j))
  unfolding at
  at_fits j l = units_fits binary64 s j 1058 (omega arith) (omega arith)

  at_place : (j : ℕ) → j ≤ suc w → place binary64 (at j) ≡ j * 2 ^ 1058
  unfolding at
  at_place j l = place_of binary64 (at j) s (j * 2 ^ 1058) (units_val binary64 s j 1058 (omega arith))

  -- the nearest value is not beyond either
  module _ (r : Float) (near : Rounded binary64 s n 10000 r) where
    not_below : w * 2 ^ 1058 ≤ place binary64 r
    not_below = elim (dec_le (w * 2 ^ 1058) (place binary64 r)) [
      | yes h ↦ h
      | no h ↦
          let p = at_place w (omega arith) in
          let m = near.from_above (at w) (at_fits w (omega arith)) (rw p (lt_of_not-le h)) in
          absurd (omega (arith, lt_of_not-le h, rw p at m))
    ]

    not_above : place binary64 r ≤ suc w * 2 ^ 1058
    not_above = elim (dec_le (place binary64 r) (suc w * 2 ^ 1058)) [
      | yes h ↦ h
      | no h ↦
          let p = at_place (suc w) (omega arith) in
          let m = near.from_below (at (suc w)) (at_fits (suc w) (omega arith)) (rw p (lt_of_not-le h)) in
          absurd (omega (arith, lt_of_not-le h, rw p at m))
    ]

    -- ---- so its ten-thousandths are less than a sixth off
    module _ (m : ℕ) (e : ℤ) (held : T (fits binary64 (fin s m e))) (same : r ≡ fin s m e) where
      abbrev a : ℕ
      a = m * up e

      abbrev d : ℕ
      d = down e

      -- in 65,536ths
      value : a * 2 ^ 1074 ≡ place binary64 r * d
      unfolding place
      value = rw same (units_value binary64 s m e held).1

      low : w * d ≤ a * 65536
      low = omega (arith, value, mul-le-mul_right d not_below)

      high : a * 65536 ≤ suc w * d
      high = omega (arith, value, mul-le-mul_right d not_above)

      -- below n + 10000 / 65536, and not below n - 10000 / 65536
      upper : a * 10000 * 65536 ≤ (n * 65536 + 10000) * d
      upper = let l : w * 10000 ≤ n * 65536 = omega arith in omega (arith, high, mul-le-mul_right d l)

      lower : (n * 65536 - 10000) * d ≤ a * 10000 * 65536
      lower = let l : n * 65536 - 10000 ≤ w * 10000 = omega arith in omega (arith, low, mul-le-mul_right d l)

      just_above : closest (n * 65536 + 10000) 65536 ≡ n
      just_above =
          let q : (n * 65536 + 10000) / 65536 ≡ n = omega arith in
          let r : (n * 65536 + 10000) % 65536 ≡ 10000 = omega arith in
          rw (q, r) refl

      just_below : 0 < n → closest (n * 65536 - 10000) 65536 ≡ n
      just_below p =
          let q : (n * 65536 - 10000) / 65536 ≡ n - 1 = omega arith in
          let r : (n * 65536 - 10000) % 65536 ≡ 55536 = omega arith in
          rw (q, r) (omega arith)

      pub units_back : nearest_whole (m * up e * 10000) (down e) ≡ n
      units_back =
          let u = closest_mono (a * 10000) d (n * 65536 + 10000) 65536 (down_pos e) (omega arith) upper in
          let l = closest_mono (n * 65536 - 10000) 65536 (a * 10000) d (omega arith) (down_pos e) lower in
          elim (eq-zero-or-pos n) [
            | inl z ↦ omega (arith, u, just_above)
            | inr p ↦ omega (arith, u, l, just_above, just_below p)
          ]

    -- what is written of it
    pub written_back : units_of r ≡ written s n
    unfolding units_of place is_nan sign_of
    written_back = go r refl near.of_format near.number near.sign
      where
        go : (x : Float) → r ≡ x → T (fits binary64 x) → T (not (is_nan x)) → sign_of x ≡ s → units_of x ≡ written s n
        go nan i f k g = absurd k
        go (inf t) i f k g = absurd (omega (arith, rw i at not_above))
        go (fin t m e) i f k g = rw g (ap (written s) (units_back m e (rw g at f) (rw g at i)))

-- ---- the promise
pub comes_back : (u : Units) → AreUnits u → units_of (price_of u) ≡ Ok u
unfolding price_of
comes_back u a =
    written_back u.minus u.size a.digits (round binary64 u.minus u.size 10000) (round_is_nearest binary64 u.minus u.size 10000 (omega arith))
    ∙ rw (lt-ltb u.size (10 ^ 15) a.digits) (ap Ok (signed u.minus u.size a.minus))
  where
    signed : (b : Bool) (n : ℕ) → (b ≡ true → 0 < n) → ◌≡◌ {A = Units} (record { minus = b && ltb 0 n; size = n }) (record { minus = b; size = n })
    signed true n h = rw (lt-ltb 0 n (h refl)) refl
    signed false n h = refl
