-- Sums and products of floats with what rounding took off them. Definitions only.
use Rattle.std.specs.Prelude.{◌≡◌, not, ℕ, ◌+◌, ◌-◌, ◌*◌, ◌/◌, ◌%◌, ◌^◌, ◌<◌, ◌≤◌, T, Float}
use Rattle.std.specs.Float.{binary64}
use Rattle.std.specs.Float.Ieee.{to_bits, is_nan}
use Rattle.elementary.specs.Ops.{◌⊕◌, ◌⊖◌, ◌⊗◌, bits}

-- from 2 ^ -255 to below 2 ^ 257 in size, by the exponent's field
pub record InRange (x : Float) : Type 0 where
  pub low : 768 ≤ to_bits binary64 x % 2 ^ 63 / 2 ^ 52
  pub high : to_bits binary64 x % 2 ^ 63 / 2 ^ 52 < 1280

-- x rounded to 26 digits, and y cut to them
abbrev pub rounded_high : Float → Float
rounded_high x = bits ((to_bits binary64 x + 2 ^ 26) / 2 ^ 27 * 2 ^ 27)

abbrev pub cut_high : Float → Float
cut_high y = bits (to_bits binary64 y - to_bits binary64 y % 2 ^ 27)

-- what rounding took off the product: the four products of the parts are exact, and so are the sums
abbrev pub product_error : Float → Float → Float
product_error x y =
    let xh = rounded_high x in
    let yh = cut_high y in
    xh ⊗ yh ⊖ x ⊗ y ⊕ xh ⊗ (y ⊖ yh) ⊕ (x ⊖ xh) ⊗ yh ⊕ (x ⊖ xh) ⊗ (y ⊖ yh)

-- what rounding took off the sum of p and c
abbrev pub sum_error : Float → Float → Float
sum_error p c = let s = p ⊕ c in (p ⊖ (s ⊖ (s ⊖ p))) ⊕ (c ⊖ (s ⊖ p))

-- the same where p is not the smaller one
abbrev pub ordered_sum_error : Float → Float → Float
ordered_sum_error p c = c ⊖ ((p ⊕ c) ⊖ p)

-- the floats on either side of w: what rounds to w lies between them
abbrev pub outward : Float → Float
outward w = bits (to_bits binary64 w + 1)

abbrev pub inward : Float → Float
inward w = w ⊕ w ⊖ outward w

-- s and every number that rounds to w have the same rounded sum
abbrev pub Certain : Float → Float → Type 0
Certain s w = to_bits binary64 (s ⊕ inward w) ≡ to_bits binary64 (s ⊕ outward w)

-- x, from 2 ^ -12 to 2, has a part without its 31 lowest digits whose product with p less q is exact, and so is the rest's: the whole numbers have at most 19 digits
pub record CanSplit (x : Float) (p q : ℕ) : Type 0 where
  pub number : T (not (is_nan x))
  pub low : 0x3f30_0000_0000_0000 ≤ to_bits binary64 x
  pub high : to_bits binary64 x < 0x4000_0000_0000_0000
  pub factor : p < 2 ^ 19
  pub addend : q < 2 ^ 19
