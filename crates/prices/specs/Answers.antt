-- What an answer says: a price, or what is refused, by document 01's number. Definitions only.
use Rattle.std.specs.Prelude.{ℕ, Float, Result, Ok, Err}
use Rattle.std.specs.Float.{nan}
use Rattle.prices.specs.declared.refusal.Refusal.{Refusal}
use Rattle.prices.specs.declared.refusal.Refusal.TheVariants.{Forward, Strike, Expiry, Sigma, InfinitePlace, OutsideAsymptoticRegion, TTooLarge}

-- a price, or a refusal
abbrev pub Answer : Type 0
Answer = Result Float Refusal

-- document 01's number
abbrev pub number : Refusal → ℕ
number Forward = 2
number Strike = 3
number Expiry = 4
number Sigma = 5
number InfinitePlace = 6
number OutsideAsymptoticRegion = 7
number TTooLarge = 8

-- 0 where nothing is refused
abbrev pub number_by : {T E : Type 0} → (E → ℕ) → Result T E → ℕ
number_by number (Ok v) = 0
number_by number (Err refusal) = number refusal

-- 0 where there is a price
abbrev pub number_of : Answer → ℕ
number_of = number_by number

-- a refusal has none; NaN stands for it
abbrev pub value_of : {E : Type 0} → Result Float E → Float
value_of (Ok v) = v
value_of (Err refusal) = nan
