-- binary64's operations as operators, and the numbers that several files share. `lib.Ieee` says what each operation is: IEEE 754's, rounded once
-- to nearest, ties to even. Definitions only.
use Rattle.std.specs.Prelude.{ℕ, pos, Float}
use Rattle.std.specs.Float.{binary64}
use Rattle.std.specs.Float.Ieee.{add, sub, mul, div, of_bits, of_int}
use Rattle.elementary.specs.MulAdd.{fma}

infixl 65 ◌⊕◌ ◌⊖◌
infixl 70 ◌⊗◌ ◌⊘◌
abbrev pub ◌⊕◌ : Float → Float → Float
x ⊕ y = add binary64 x y  -- sum

abbrev pub ◌⊖◌ : Float → Float → Float
x ⊖ y = sub binary64 x y  -- difference

abbrev pub ◌⊗◌ : Float → Float → Float
x ⊗ y = mul binary64 x y  -- product

abbrev pub ◌⊘◌ : Float → Float → Float
x ⊘ y = div binary64 x y  -- quotient

-- a × b + c, rounded once
abbrev pub mul_add : Float → Float → Float → Float
mul_add a b c = fma binary64 a b c

-- the float with these bits
abbrev pub bits : ℕ → Float
bits b = of_bits binary64 b

-- a whole number as a float
abbrev pub float : ℕ → Float
float n = of_int binary64 (pos n)

-- ---- small numbers
abbrev pub +0 : Float
+0 = bits 0  -- zero without a sign

abbrev pub eighth : Float
eighth = bits 0x3fc0_0000_0000_0000  -- 0.125

abbrev pub quarter : Float
quarter = bits 0x3fd0_0000_0000_0000  -- 0.25

abbrev pub half : Float
half = bits 0x3fe0_0000_0000_0000  -- 0.5

abbrev pub one : Float
one = bits 0x3ff0_0000_0000_0000  -- 1

abbrev pub two : Float
two = bits 0x4000_0000_0000_0000  -- 2

abbrev pub four : Float
four = bits 0x4010_0000_0000_0000  -- 4

abbrev pub sixteen : Float
sixteen = bits 0x4030_0000_0000_0000  -- 16

-- ---- f64's limits

-- the least positive normal number
abbrev pub MIN_POSITIVE : Float
MIN_POSITIVE = bits 0x0010_0000_0000_0000  -- 2.2250738585072014e-308

abbrev pub MAX : Float
MAX = bits 0x7fef_ffff_ffff_ffff  -- f64::MAX, the largest finite number, 1.7976931348623157e308

-- f64::MIN, which is −f64::MAX
abbrev pub MIN : Float
MIN = bits 0xffef_ffff_ffff_ffff  -- −1.7976931348623157e308

abbrev pub EPSILON : Float
EPSILON = bits 0x3cb0_0000_0000_0000  -- f64::EPSILON, from 1 to the next number, 2.220446049250313e-16

-- ---- document 01's

abbrev pub SQRT_2PI : Float
SQRT_2PI = bits 0x4004_0d93_1ff6_2705  -- √(2π), 2.5066282746310002

-- ln 2 in two parts. The last 21 of H's 53 binary digits are zero, so that k × H is exact for every k of exp and ln.
abbrev pub H : Float
H = bits 0x3fe6_2e42_fee0_0000  -- 0.6931471803691238

abbrev pub L : Float
L = bits 0x3dea_39ef_3579_3c76  -- 1.9082149292705877e-10
