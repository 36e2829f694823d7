-- What this layer promises beyond the contracts of its functions. Each promise is a statement, and proofs/Promised.antt proves it.
use Rattle.std.specs.Prelude.{◌≡◌, Bool, true, false, not, cond, ◌&&◌, ◌||◌, ℕ, suc, ◌+◌, ◌-◌, ◌*◌, ◌%◌, ◌^◌, ◌≤◌, ◌<◌, ℤ, nat_abs, T, ltb, Float, Ok, is_ok}
use Rattle.std.specs.Bool.{beq}
use Rattle.std.specs.Float.{nan, inf, fin, Format, binary64}
use Rattle.std.specs.Float.Ieee.{emax, low, up, down, unlike, round, add, mul, neg, lt, le, fits, is_nan, to_bits}
use Rattle.std.specs.Float.Ieee.Exact.{HasValue}
use Rattle.std.specs.Float.Ieee.Scale.{finite}
use Rattle.std.specs.Float.Ieee.Positive.{positive}
use Rattle.elementary.specs.Ops.{◌⊕◌, ◌⊖◌, ◌⊗◌, mul_add, bits, float, +0, one, MAX}
use Rattle.elementary.specs.declared.rule_set.RuleSet.{RuleSet}
use Rattle.elementary.specs.RuleSets.{rule_set_0, rule_set_1, rule_set_of}
use Rattle.elementary.specs.Methods.{sign_of}
use Rattle.elementary.specs.Floor.{floor_of}
use Rattle.elementary.specs.declared.sqrt.Aligned.{Aligned}
use Rattle.elementary.specs.declared.sqrt.Digits.{Digits}
use Rattle.elementary.specs.Sqrt.{in_units, sqrt_of, aligned_of, sqrt_digits_of, after_turns}
use Rattle.elementary.specs.MulAdd.{fma}
use Rattle.elementary.specs.Exp.{scaled}
use Rattle.elementary.specs.NormalDistribution.{lowest, highest, cdf_of, ends_of, inverse_of}

-- Where a value stands on the line, in units of the format's smallest value. An infinity stands where the next value after the largest would, at
-- 2 ^ (emax + 1): to be nearer to that place than to the largest value, or as near, is IEEE 754's condition for overflow (4.3.1). A NaN is nowhere, and stands with the zeros.
unfoldable pub place : Format → Float → ℕ
place f nan = 0
place f (inf s) = 2 ^ (low f + suc (emax f))
place f (fin s m e) = in_units f (fin s m e)

-- r is the value of the format f that is nearest to a real number of the sign s and, in the same units, the size t; ties to even. `twice` and the growing
-- function `scale` say what t is: 2 t compares with a whole number n as `twice` does with `scale n`. The sum of two places is twice their middle.
-- (A y of the other sign stands by its size, which is nearer.)
pub record NearestTo (f : Format) (s : Bool) (twice : ℕ) (scale : ℕ → ℕ) (r : Float) : Type 0 where
  -- The format holds r, which is not NaN
  pub of_format : T (fits f r)
  pub number : T (not (is_nan r))
  -- and has the sign s, a zero too.
  pub sign : sign_of r ≡ s
  -- No value y above r is nearer: t is not above the middle of r and y.
  pub from_above : (y : Float) → T (fits f y) → place f r < place f y → twice ≤ scale (place f r + place f y)
  -- No value y below r is nearer: t is not below the middle of r and y.
  pub from_below : (y : Float) → T (fits f y) → place f y < place f r → scale (place f r + place f y) ≤ twice
  -- Where another value y is as near, the last digit of r is 0.
  pub even : (y : Float) → T (fits f y) → (place f y ≡ place f r → ⊥) → scale (place f r + place f y) ≡ twice → to_bits f r % 2 ≡ 0

-- r is ±a / c rounded, for a c above 0. In units, t is a * 2 ^ low / c: so 2 t ≤ n says 2 * (a * 2 ^ low) ≤ n * c.
abbrev pub Rounded : Format → Bool → ℕ → ℕ → Float → Type 0
Rounded f s a c r = NearestTo f s (2 * (a * 2 ^ low f)) (λ (n : ℕ). n * c) r

-- `lib.Ieee`'s `round`, by which its operations are defined, is IEEE 754's roundTiesToEven of every fraction.
abbrev pub RoundIsNearest : Type 0
RoundIsNearest = (f : Format) (s : Bool) (a c : ℕ) → 0 < c → Rounded f s a c (round f s a c)

-- r is √x rounded, for a finite x above 0. In units, x is `place f x`, and t is √(place f x * 2 ^ low): so 2 t ≤ n says 4 * (place f x * 2 ^ low) ≤ n * n.
pub record RoundedRoot (f : Format) (x r : Float) : Type 0 where
  -- r is nearest to the root.
  pub nearest : NearestTo f false (4 * (place f x * 2 ^ low f)) (λ (n : ℕ). n * n) r
  -- r is finite and above 0: the root neither overflows nor vanishes.
  pub above_zero : T (positive r)
  -- No other value is as near.
  pub no_tie : (y : Float) → T (fits f y) → (place f y ≡ place f r → ⊥) → (place f r + place f y) * (place f r + place f y) ≡ 4 * (place f x * 2 ^ low f) → ⊥

pub record SqrtIsRounded : Type 0 where
  -- The root of a finite x above 0 is correctly rounded.
  pub root : (f : Format) (x : Float) → T (fits f x) → T (positive x) → RoundedRoot f x (sqrt_of f x)
  -- The root of a zero is that zero, with its sign, and that of +infinity is +infinity.
  pub zeros : (f : Format) (s : Bool) (e : ℤ) → sqrt_of f (fin s 0 e) ≡ fin s 0 e
  pub infinity : (f : Format) → sqrt_of f (inf false) ≡ inf false
  -- The root of a NaN, and of what is below 0, −infinity too, is NaN.
  pub none : (f : Format) (x : Float) → T (is_nan x || lt x +0) → sqrt_of f x ≡ nan

-- There is one rounded value of a fraction, and one of a root: what is said of it leaves no choice.
pub record NearestIsOne : Type 0 where
  pub fraction : (f : Format) (s : Bool) (a c : ℕ) (r q : Float) → 0 < c → Rounded f s a c r → Rounded f s a c q → r ≡ q
  pub root : (f : Format) (x r q : Float) → RoundedRoot f x r → RoundedRoot f x q → r ≡ q

-- ---- the square root's digits

-- A finite number above 0, aligned: it is significand × 2^-52 × 2^exponent,
pub record Alignment (x : Float) (a : Aligned) : Type 0 where
  pub value : HasValue x false (a.significand * up a.exponent) (2 ^ 52 * down a.exponent)
  -- the exponent is even, and the significand × 2^-52 is from 1 up, below 4.
  pub even : nat_abs a.exponent % 2 ≡ 0
  pub from_1 : 2 ^ 52 ≤ a.significand
  pub below_4 : a.significand < 2 ^ 54

-- The digits d of so many turns, followed by zeros: d × 2^(1 - turns) as a whole number of 2^-52, the place of the 53rd digit.
abbrev pub followed_by_zeros : ℕ → ℕ → ℕ
followed_by_zeros turns d = d * 2 ^ (53 - turns)

abbrev pub square : ℕ → ℕ
square n = n * n

-- After some turns the digits d of the root of a × 2^-52 are found. The state is what the code's loop carries from turn to turn, and this is its invariant.
pub record DigitsFound (a turns d : ℕ) (state : Digits) : Type 0 where
  -- It has the digits found, followed by zeros, and doubled.
  pub digits : state.doubled ≡ 2 * followed_by_zeros turns d
  -- Their square is not above the aligned significand,
  pub not_above : square (followed_by_zeros turns d) ≤ a * 2 ^ 52
  -- and they are the greatest such number.
  pub greatest : (e : ℕ) → square (followed_by_zeros turns e) ≤ a * 2 ^ 52 → followed_by_zeros turns e ≤ followed_by_zeros turns d
  -- It has what is left of the significand, doubled, and in units of the place of the last digit found.
  pub left : 2 * square (followed_by_zeros turns d) + state.left * 2 ^ (53 - turns) ≡ 2 * (a * 2 ^ 52)

pub record SqrtDigits : Type 0 where
  -- Every finite x above 0 is aligned, a subnormal one too.
  pub aligned : (x : Float) → T (fits binary64 x) → T (positive x) → Alignment x (aligned_of x)
  -- After each of the 53 turns its digits are found.
  pub found : (x : Float) → T (fits binary64 x) → T (positive x) → (turns : ℕ) → turns ≤ 53
      → let a = (aligned_of x).significand in
      DigitsFound a turns (sqrt_digits_of x turns) (after_turns turns a)
  -- No other digits are, and in no other state.
  pub found_one : (a turns d e : ℕ) (s t : Digits) → turns ≤ 53 → DigitsFound a turns d s → DigitsFound a turns e t → (d ≡ e) × (s ≡ t)
  -- The first digit is 1.
  pub first : (x : Float) → T (fits binary64 x) → T (positive x) → sqrt_digits_of x 1 ≡ 1
  -- Any other x has no digits.
  pub none : (x : Float) → T (not (positive x)) → (turns : ℕ) → sqrt_digits_of x turns ≡ 0

-- p × 2^k is rounded once, for a finite p = ±m × 2^e and every whole k.
abbrev pub ScaledIsRounded : Type 0
ScaledIsRounded = (f : Format) (s : Bool) (m : ℕ) (e k : ℤ) → Rounded f s (m * up e * up k) (down e * down k) (scaled f (fin s m e) k)

-- The size of ±a + ±b, and its sign, which is that of the larger one. A sum of 0 is −0 where both are negative, else +0.
abbrev pub sum_size : Bool → ℕ → Bool → ℕ → ℕ
sum_size s a t b = cond (beq s t) (a + b) (a - b + (b - a))

abbrev pub sum_sign : Bool → ℕ → Bool → ℕ → Bool
sum_sign s a t b = cond (beq s t) s (cond s (ltb b a) (ltb a b))  -- true is −

pub record MulAddIsRounded : Type 0 where
  -- Of finite operands ±m × 2^e, ±n × 2^d and ±p × 2^g the product is ±P / D and the addend ±A / D: their exact sum is rounded once.
  pub exact : (f : Format) (s t v : Bool) (m n p : ℕ) (e d g : ℤ)
      → let P = m * up e * (n * up d) * down g in
      let A = p * up g * (down e * down d) in
      let D = down e * down d * down g in
      Rounded f (sum_sign (unlike s t) P v A) (sum_size (unlike s t) P v A) D (fma f (fin s m e) (fin t n d) (fin v p g))
  -- With a finite product, however large, an addend that is infinite or NaN is the result.
  pub addend : (f : Format) (x y z : Float) → T (finite x) → T (finite y) → T (not (finite z)) → fma f x y z ≡ z
  -- With a factor that is infinite or NaN the product is not rounded: an infinity, or NaN where the other factor is 0 or NaN. The sum then is the plain one.
  pub factor : (f : Format) (x y z : Float) → T (not (finite x && finite y)) → fma f x y z ≡ add f (mul f x y) z

-- Some closed cases, in decimals beside the bits.
pub record FmaExamples : Type 0 where
  pub tie : mul_add (bits 0x3cb8_0000_0000_0000) one one ≡ bits 0x3ff0_0000_0000_0002  -- 3.3306690738754696e-16 × 1 + 1, the middle of two values: 1.0000000000000004, the even one
  pub once : mul_add (bits 0x3fb9_9999_9999_999a) (bits 0x4024_0000_0000_0000) (neg one) ≡ bits 0x3c90_0000_0000_0000  -- 0.1 × 10 − 1 = 5.551115123125783e-17
  pub both : bits 0x3fb9_9999_9999_999a ⊗ bits 0x4024_0000_0000_0000 ⊖ one ≡ +0  -- and 0 where the product is rounded too
  pub overflow : mul_add MAX one (bits 0x7c90_0000_0000_0000) ≡ inf false  -- 1.7976931348623157e308 × 1 + 9.9792015476736e291, half a last digit
  pub largest : mul_add MAX one (bits 0x7c8f_ffff_ffff_ffff) ≡ MAX  -- and + 9.979201547673598e291, the value before that
  pub cancel : mul_add (float 3) (float 5) (neg (float 15)) ≡ +0  -- 3 × 5 − 15 = +0
  pub zeros : mul_add (neg +0) one (neg +0) ≡ neg +0  -- −0 × 1 + −0 = −0
  pub no_number : mul_add (inf false) +0 nan ≡ nan  -- infinity × 0 + NaN
  pub large : mul_add MAX MAX (inf true) ≡ inf true  -- 1.7976931348623157e308² − infinity: the product is finite
  pub subnormal : mul_add (bits 0x1e68_0000_0000_0000) (bits 0x1e60_0000_0000_0000) (bits 1) ≡ bits 2  -- 3.334138124227616e-162 × 2.2227587494850775e-162 + 5e-324, 2.5 of the smallest value: 1e-323

-- By the factor 1 it is the plain sum, for every operand.
abbrev pub FmaOne : Type 0
FmaOne = (x y : Float) → fma binary64 x one y ≡ x ⊕ y

-- y is a whole number: ±n / 1
abbrev pub IsWhole : Float → Type 0
IsWhole y = (s : Bool) × (n : ℕ) × HasValue y s n 1

-- r is the greatest whole number not above x.
pub record GreatestWhole (f : Format) (x r : Float) : Type 0 where
  -- r is a value of the format, and a whole number,
  pub of_format : T (fits f r)
  pub whole : IsWhole r
  -- it has the sign of x, which matters where it is a zero,
  pub sign : sign_of r ≡ sign_of x
  -- it is not above x,
  pub not_above : T (le r x)
  -- and no whole number up to x is greater.
  pub greatest : (y : Float) → IsWhole y → T (le y x) → T (le y r)

pub record FloorIsGreatest : Type 0 where
  -- The floor of a finite x is the greatest whole number not above it.
  pub whole : (f : Format) (x : Float) → T (fits f x) → T (finite x) → GreatestWhole f x (floor_of f x)
  -- There is one such value.
  pub unique : (f : Format) (x r q : Float) → GreatestWhole f x r → GreatestWhole f x q → r ≡ q
  -- The floor of an infinity or a NaN is itself.
  pub other : (f : Format) (x : Float) → T (not (finite x)) → floor_of f x ≡ x

-- Under every rule set the cdf is a finite number from −39 to 39, where the inverse looks for its result.
abbrev pub CdfIsFinite : Type 0
CdfIsFinite = (set : RuleSet) (y : Float) → T (le lowest y) → T (le y highest) → T (finite (cdf_of set y))

-- Document 01's "Then cdf(lo) < p ≤ cdf(hi)", and the inverse is hi. The cdf need not be monotone for it.
pub record Brackets (set : RuleSet) (p lo hi : Float) : Type 0 where
  pub under : lt (cdf_of set lo) p ≡ true
  pub over : le p (cdf_of set hi) ≡ true
  pub inverse : inverse_of set p ≡ hi

-- For every p between 0 and 1 the 64 steps of the bisection end so, under every rule set.
abbrev pub InverseBrackets : Type 0
InverseBrackets = (set : RuleSet) (p : Float) → lt +0 p ≡ true → lt p one ≡ true → Brackets set p (ends_of set p).lo (ends_of set p).hi

-- ---- rule sets

-- 0 and 1 are rule sets' numbers, and no other is.
pub record RuleSetNumbers : Type 0 where
  pub zero : rule_set_of 0 ≡ Ok rule_set_0
  pub one : rule_set_of 1 ≡ Ok rule_set_1
  pub no_other : (number : ℕ) → 1 < number → is_ok (rule_set_of number) ≡ false
