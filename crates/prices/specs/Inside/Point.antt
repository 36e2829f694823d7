-- What `price_and_vega` yields: a price with a vega, or a refusal. Definitions only.
use Rattle.std.specs.Prelude.{Float, Result, Ok, Err}
use Rattle.prices.specs.Answers.{Answer}
use Rattle.prices.specs.declared.refusal.Refusal.{Refusal}
use Rattle.prices.specs.declared.point.PriceAndVega.{PriceAndVega}

-- a vega beside the price; a refusal passes up
abbrev pub price_and_vega : Answer → Float → Result PriceAndVega Refusal
price_and_vega (Ok b) v = Ok (record { price = b; vega = v })
price_and_vega (Err refusal) v = Err refusal
