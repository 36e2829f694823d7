-- A place s with the price and the vega there, as the code has them. Definitions only.
use Rattle.std.specs.Prelude.{Float, Result, Ok, Err}
use Rattle.prices.specs.Answers.{Answer}
use Rattle.prices.specs.declared.refusal.Refusal.{Refusal}
use Rattle.solver.specs.declared.normalised_market.Place.{Place}

-- s and a vega beside the price; a refusal passes up
abbrev pub place_of : Float → Answer → Float → Result Place Refusal
place_of s (Ok b) v = Ok (record { s = s; price = b; vega = v })
place_of s (Err refusal) v = Err refusal
