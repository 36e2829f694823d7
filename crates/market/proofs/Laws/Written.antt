-- What is written of a price, by the tests of the code. Assumes nothing.
use mathlib.Core.Path.{◌≡◌, refl}
use mathlib.Core.Bool.{true, false, ◌&&◌}
use Prim.Native.Nat.{ℕ, ◌*◌, ◌^◌, ◌≤◌, ◌<◌}
use native.Mathlib.Omega.{arith}
use borrow.Author.Tests.{le-ltb, ltb-true, ltb-false}
use lib.Dec.{ltb}
use lib.Ieee.{Float, nan, inf, fin, binary64, up, down, lt, of_bits}
use lib.Ieee.Fits.{down_pos}
use lib.Ieee.Nearest.{closest_mono}
use Rattle.std.specs.Prelude.{Err}
use Rattle.elementary.specs.Methods.{abs_of, sign_of}
use Rattle.market.specs.declared.refusal.Refusal.TheVariants.{Price}
use Rattle.market.specs.Packed.{nearest_whole, written, units_of}
use Rattle.market.specs.Inside.Packed.{TOO_LARGE, nearest_size}

pub abs_plus : (x : Float) → sign_of (abs_of x) ≡ false
unfolding sign_of abs_of
abs_plus nan = refl
abs_plus (inf s) = refl
abs_plus (fin s m e) = refl

-- below 10 ^ 11 it is a number
pub written_below : (x : Float) → lt (abs_of x) TOO_LARGE ≡ true → units_of x ≡ written (sign_of x) (nearest_size (abs_of x))
unfolding units_of abs_of sign_of nearest_size lt of_bits
written_below nan h = cc
written_below (inf s) h = cc
written_below (fin s m e) h = refl

-- from there on it has 16 digits or more
many : (a c : ℕ) → 0 < c → 10 ^ 11 * c ≤ a → 10 ^ 15 ≤ nearest_whole (a * 10000) c
many a c C h = closest_mono (10 ^ 15) 1 (a * 10000) c (omega arith) C (omega arith)

pub refused_from : (x : Float) → lt (abs_of x) TOO_LARGE ≡ false → units_of x ≡ Err Price
unfolding units_of abs_of lt of_bits
refused_from nan h = refl
refused_from (inf s) h = refl
refused_from (fin s m e) h =
    let l : 10 ^ 11 * down e ≤ m * up e = omega (arith, ltb-false _ _ h) in
    rw (le-ltb (nearest_whole (m * up e * 10000) (down e)) (10 ^ 15) (many (m * up e) (down e) (down_pos e) l)) refl

-- ---- the sign
pub minus_below : (x : Float) → lt x (of_bits binary64 0) ≡ true → sign_of x ≡ true
unfolding lt of_bits sign_of
minus_below nan h = cc
minus_below (inf true) h = refl
minus_below (inf false) h = cc
minus_below (fin true m e) h = refl
minus_below (fin false m e) h = absurd (omega (arith, ltb-true _ _ h))

-- a number of sign minus that is not below zero is zero
pub zero_else : (x : Float) → lt x (of_bits binary64 0) ≡ false → sign_of x && ltb 0 (nearest_size (abs_of x)) ≡ false
unfolding lt of_bits sign_of nearest_size abs_of
zero_else nan h = refl
zero_else (inf true) h = cc
zero_else (inf false) h = refl
zero_else (fin false m e) h = refl
zero_else (fin true m e) h =
    let none : m * up e ≡ 0 = omega (arith, ltb-false _ _ h) in
    rw none (none_of (down e) (down_pos e))
  where
    none_of : (c : ℕ) → 0 < c → ltb 0 (nearest_whole (0 * 10000) c) ≡ false
    none_of c C = le-ltb 0 (nearest_whole 0 c) (closest_mono 0 c 0 1 C (omega arith) (omega arith))
