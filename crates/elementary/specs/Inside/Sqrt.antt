-- What the contracts of the square root's digits say. Definitions only.
use Rattle.std.specs.Prelude.{ℕ, ◌^◌, ◌<◌, List, length, slice_index_or, pos}
use Rattle.elementary.specs.declared.sqrt.Aligned.{Aligned}
use Rattle.elementary.specs.declared.sqrt.Digits.{Digits}
use Rattle.elementary.specs.Sqrt.{first_digits}
use Rattle.elementary.specs.Promises.{DigitsFound}

-- the significand of the one at a place
abbrev pub significand_at : ℕ → List Aligned → ℕ
significand_at i xs = (slice_index_or xs i (record { significand = 0; exponent = pos 0 })).significand

abbrev pub digits_at : ℕ → List Digits → Digits
digits_at i ds = slice_index_or ds i (record { doubled = 0; left = 0 })

-- each significand times 2 ^ -52 is below 4
pub record AllAligned (xs : List Aligned) : Type 0 where
  pub each : (i : ℕ) → i < length xs → significand_at i xs < 2 ^ 54

-- of each root the digits of so many turns are found
pub record AllFound (turns : ℕ) (xs : List Aligned) (ds : List Digits) : Type 0 where
  pub each : (i : ℕ) → i < length xs → DigitsFound (significand_at i xs) turns (first_digits turns (significand_at i xs)) (digits_at i ds)
