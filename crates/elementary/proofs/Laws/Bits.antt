-- What a float's tests and its bits say of it: the NaN, the sign, the size. Assumes nothing.
use mathlib.Core.Path.{◌≡◌, refl, sym, ap, ◌∙◌, subst}
use mathlib.Core.Bool.{Bool, true, false, not, cond}
use Prim.Native.Nat.{ℕ, ◌+◌, ◌*◌, ◌%◌, ◌^◌, ◌<◌, ◌≤◌}
use native.Mathlib.Omega.{arith}
use lib.Dec.{T, leb, eqb, eqb_refl, lt→ltb, le→leb, nleb→lt}
use lib.Arith.{le→nltb, lt→nleb}
use lib.Ieee.{Float, nan, inf, fin, binary64, up, down, eq, ne, lt, neg, is_nan, fits, of_bits, to_bits, nan_bits}
use lib.Ieee.Fits.{neg-fits}
use lib.Ieee.Bits.{is_true, is_false, to_bits-lt, of_bits-to_bits, nan_bits_is, nan_bits_above}
use Rattle.elementary.specs.Methods.{abs_of, sign_of}

-- ---- NaN
pub ne_self : (x : Float) → ne x x ≡ is_nan x
unfolding ne is_nan
ne_self nan = refl
ne_self (inf true) = refl
ne_self (inf false) = refl
ne_self (fin true m e) = rw (is_true (eqb (m * up e * down e) (m * up e * down e)) (eqb_refl (m * up e * down e)))
ne_self (fin false m e) = rw (is_true (eqb (m * up e * down e) (m * up e * down e)) (eqb_refl (m * up e * down e)))

pub is_nan_lem : (x : Float) → T (is_nan x) → x ≡ nan
unfolding is_nan
is_nan_lem nan h = refl
is_nan_lem (inf s) h = absurd h
is_nan_lem (fin s m e) h = absurd h

pub nan_by : (x : Float) → true ≡ is_nan x → x ≡ nan
nan_by x h = is_nan_lem x (rw (← h) tt)

pub no_nan : (x : Float) → ne x x ≡ false → T (not (is_nan x))
no_nan x h = rw (← ne_self x, h) tt

-- an `f64` is a value of the format
pub fits_by : (x : Float) → fits binary64 x ≡ true → T (fits binary64 x)
fits_by x h = rw h tt

pub nan_pattern : (b : ℕ) → 2047 * 2 ^ 52 < b % 2 ^ 63 → of_bits binary64 b ≡ nan
nan_pattern b h = is_nan_lem _ (rw (← nan_bits_is binary64 b, nan_bits_above binary64 b) (lt→ltb (2047 * 2 ^ 52) (b % 2 ^ 63) h))

pub no_nan_pattern : (b : ℕ) → b % 2 ^ 63 ≤ 2047 * 2 ^ 52 → T (not (nan_bits binary64 b))
no_nan_pattern b h = rw (nan_bits_above binary64 b) (le→nltb (2047 * 2 ^ 52) (b % 2 ^ 63) h)

-- what is less than something, or greater, is no NaN
lt_numbers : (x y : Float) → lt x y ≡ true → (is_nan x ≡ false) × (is_nan y ≡ false)
unfolding lt is_nan
lt_numbers nan y h = (cc, cc)
lt_numbers (inf s) nan h = (cc, cc)
lt_numbers (inf s) (inf t) h = (refl, refl)
lt_numbers (inf s) (fin t n d) h = (refl, refl)
lt_numbers (fin s m e) nan h = (cc, cc)
lt_numbers (fin s m e) (inf t) h = (refl, refl)
lt_numbers (fin s m e) (fin t n d) h = (refl, refl)

pub lt_ordered : (x y : Float) → lt x y ≡ true → (ne x x ≡ false) × (ne y y ≡ false)
lt_ordered x y h = rw (ne_self x, ne_self y) (lt_numbers x y h)

-- ---- floats with the same bits
pub equal_left : (x y : Float) → eq x y ≡ true → T (not (is_nan x))
unfolding eq is_nan
equal_left nan y h = subst T (sym h) tt
equal_left (inf s) y h = tt
equal_left (fin s m e) y h = tt

pub equal_right : (x y : Float) → eq x y ≡ true → T (not (is_nan y))
unfolding eq is_nan
equal_right nan nan h = subst T (sym h) tt
equal_right (inf s) nan h = subst T (sym h) tt
equal_right (fin s m e) nan h = subst T (sym h) tt
equal_right x (inf s) h = tt
equal_right x (fin s m e) h = tt

pub same_bits : (x y : Float) → T (fits binary64 x) → T (fits binary64 y) → to_bits binary64 x ≡ to_bits binary64 y → x ≡ y
same_bits x y a b e = sym (of_bits-to_bits binary64 x a) ∙ ap (of_bits binary64) e ∙ of_bits-to_bits binary64 y b

-- ---- the sign stands above the size
pub abs_fits : (x : Float) → T (fits binary64 x) → T (fits binary64 (abs_of x))
unfolding abs_of neg fits
abs_fits nan f = tt
abs_fits (inf s) f = tt
abs_fits (fin false m e) f = f
abs_fits (fin true m e) f = neg-fits binary64 (fin true m e) f

abs_nan : (x : Float) → is_nan (abs_of x) ≡ is_nan x
unfolding abs_of is_nan
abs_nan nan = refl
abs_nan (inf s) = refl
abs_nan (fin s m e) = refl

split : (x : Float) → T (fits binary64 x) → T (not (is_nan x))
    → (to_bits binary64 x ≡ cond (sign_of x) (2 ^ 63) 0 + to_bits binary64 (abs_of x)) × (to_bits binary64 (abs_of x) < 2 ^ 63)
unfolding abs_of sign_of neg is_nan to_bits
split nan f n = absurd n
split (inf true) f n = (refl, omega arith)
split (inf false) f n = (refl, omega arith)
split (fin true m e) f n = (omega arith, omega (arith, to_bits-lt binary64 (fin true m e) f))
split (fin false m e) f n = (omega arith, omega (arith, to_bits-lt binary64 (fin true m e) (neg-fits binary64 (fin false m e) f)))

cut : (s : Bool) (b a : ℕ) → b ≡ cond s (2 ^ 63) 0 + a → a < 2 ^ 63 → (b % 2 ^ 63 ≡ a) × (s ≡ leb (2 ^ 63) b)
cut true b a e l = (omega arith, sym (is_true _ (le→leb (2 ^ 63) b (omega arith))))
cut false b a e l = (omega arith, sym (is_false _ (lt→nleb (2 ^ 63) b (omega arith))))

module _ (x : Float) (f : T (fits binary64 x)) (n : T (not (is_nan x))) where
  -- the sign is the first bit
  pub sign_bit : sign_of x ≡ leb (2 ^ 63) (to_bits binary64 x)
  sign_bit = (cut (sign_of x) _ _ (split x f n).0 (split x f n).1).1

  pub no_sign : sign_of x ≡ false → to_bits binary64 x < 2 ^ 63
  no_sign h = nleb→lt (2 ^ 63) (to_bits binary64 x) (rw (← sign_bit, h) tt)

  -- the other bits are abs's
  pub abs_bits : of_bits binary64 (to_bits binary64 x % 2 ^ 63) ≡ abs_of x
  abs_bits =
      let e = (cut (sign_of x) _ _ (split x f n).0 (split x f n).1).0 in
      ap (of_bits binary64) e ∙ of_bits-to_bits binary64 (abs_of x) (abs_fits x f)

  pub abs_bits_no_nan : T (not (nan_bits binary64 (to_bits binary64 x % 2 ^ 63)))
  abs_bits_no_nan = rw (nan_bits_is binary64 _, abs_bits, abs_nan x) n
