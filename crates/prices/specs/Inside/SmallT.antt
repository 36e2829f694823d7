-- What the functions of small_t say of each other: how large a float can be, and the Horner sums in the order in which they are filled in.
-- Definitions only.
use Rattle.std.specs.Prelude.{◌≡◌, true, List, [], ◌∷◌, ℕ, zero, suc, ◌+◌, ◌*◌, ◌^◌, ◌≤◌, ◌<◌, length, get_or, Float}
use Rattle.std.specs.Float.{nan, binary64}
use Rattle.std.specs.Float.Ieee.{fits, to_bits}
use Rattle.elementary.specs.Inside.Bounds.{Over, AtMost}
use Rattle.prices.specs.Black.{innermost, horner_step}

-- x is finite and at most 2 ^ n in size
pub record Within (x : Float) (n : ℕ) : Type 0 where
  pub size : AtMost x (2 ^ n)

-- a fused step of these numbers comes near no infinity
pub record Operands (a b c : Float) : Type 0 where
  pub a_within : Within a 300
  pub b_within : Within b 300
  pub c_within : Within c 600

-- v is not much larger than a × b and c
abbrev pub Grows : Float → Float → Float → Float → Type 0
Grows a b c v = (i j n : ℕ) → i + j ≤ n → n ≤ 600 → Within a i → Within b j → Within c n → Within v (n + 10)

-- a is a double from 2 ^ -12 to below 2, so that it can be cut in two, h² one below 2 ^ 34 and t² one below 1
pub record InRanges (a h2 t2 : Float) : Type 0 where
  pub a_fits : fits binary64 a ≡ true
  pub square_fits : fits binary64 h2 ≡ true
  pub power_fits : fits binary64 t2 ≡ true
  pub low : 0x3f30_0000_0000_0000 ≤ to_bits binary64 a
  pub high : to_bits binary64 a < 0x4000_0000_0000_0000
  pub square : to_bits binary64 h2 < 0x4210_0000_0000_0000
  pub power : to_bits binary64 t2 < 0x3ff0_0000_0000_0000

-- v is one more term, and not much larger than the sum before it
abbrev pub Adds : Float → Float → Type 0
Adds sum v = (n : ℕ) → 300 ≤ n → n ≤ 600 → Within sum n → Within v (n + 10)

-- y over the factorial, by the power, can be added to the sum
pub record Term (sum y factorial power : Float) : Type 0 where
  pub sum_within : Within sum 600
  pub y_within : Within y 300
  pub factorial_over : Over factorial 0
  pub power_within : Within power 0

-- The Horner sums of the terms 6, 5, 4 and 3, side by side: the addend of h² in their innermost brackets, and the coefficients of each step outward,
-- which leads from the sum at k to that at k + 4. The sum at 15 serves nothing.
abbrev pub INNERMOST : List ℕ
INNERMOST = 78 ∷ 55 ∷ 36 ∷ 21 ∷ []

abbrev pub OUTWARD : List (ℕ × ℕ)
OUTWARD =
    (2145, 75)
    ∷ (990, 52)
    ∷ (378, 33)
    ∷ (105, 18)
    ∷ (25740, 1926)
    ∷ (6930, 840)
    ∷ (1260, 285)
    ∷ (105, 57)
    ∷ (135135, 20370)
    ∷ (17325, 4680)
    ∷ (945, 561)
    ∷ (1, 1)
    ∷ (270270, 82845)
    ∷ (10395, 6555)
    ∷ []

-- the step at k
abbrev pub step_at : ℕ → ℕ × ℕ
step_at k = get_or OUTWARD k (0, 0)

-- the sum at k
unfoldable pub horner_sum : Float → Float → ℕ → Float
horner_sum a h2 zero = innermost a h2 78
horner_sum a h2 (suc zero) = innermost a h2 55
horner_sum a h2 (suc (suc zero)) = innermost a h2 36
horner_sum a h2 (suc (suc (suc zero))) = innermost a h2 21
horner_sum a h2 (suc (suc (suc (suc k)))) = horner_step a h2 (horner_sum a h2 k) (step_at k).0 (step_at k).1

-- the number at k
abbrev pub at : List Float → ℕ → Float
at y k = get_or y k nan

-- the first n of y are filled in: they are the sums, if that is certain, and not too large, where that is asked
pub record Filled (a h2 : Float) (n : ℕ) (y : List Float) (Sure Asked : Type 0) : Type 0 where
  pub long : length y ≡ 18
  pub right : Sure → (k : ℕ) → k < n → at y k ≡ horner_sum a h2 k
  pub size : Asked → (k : ℕ) → k < n → Within (at y k) (11 * k + 46)
