-- What this crate refuses, by document 02's numbers. Definitions only.
use Rattle.std.specs.Prelude.{ℕ}
use Rattle.market.specs.declared.refusal.Refusal.{Refusal}
use Rattle.market.specs.declared.refusal.Refusal.TheVariants.{Volatility, SeriesLive, BoardFull, Packed, Price}

-- document 02's number
abbrev pub number : Refusal → ℕ
number Volatility = 33
number SeriesLive = 34
number BoardFull = 35
number Packed = 36
number Price = 37
