-- What `place` answers, as the definitions' price and vega. Assumes nothing.
use mathlib.Core.Path.{◌≡◌}
use lib.Ieee.{Float}
use Rattle.std.specs.Prelude.{Result, Ok, Err}
use Rattle.elementary.specs.declared.rule_set.RuleSet.{RuleSet}
use Rattle.prices.specs.declared.refusal.Refusal.{Refusal}
use Rattle.prices.specs.declared.point.PriceAndVega.{PriceAndVega}
use Rattle.prices.specs.Inside.Point.{price_and_vega}
use Rattle.prices.specs.Answers.{Answer}
use Rattle.prices.specs.Vega.{vega_of}
use Rattle.prices.specs.Black.{call_of}
use Rattle.solver.specs.declared.normalised_market.Place.{Place}
use Rattle.solver.specs.Inside.Place.{place_of}

-- a place with a price is the answer's, and so is a refusal
answer_is_place : (s : Float) (a : Answer) (v : Float) (p : Place) → Ok p ≡ place_of s a v → (s ≡ p.s) × ((a ≡ Ok p.price) × (v ≡ p.vega))
answer_is_place s (Ok b) v p e = (cc, (cc, cc))
answer_is_place s (Err r) v p e = (cc, (cc, cc))

answer_is_refusal : (s : Float) (a : Answer) (v : Float) (r : Refusal) → Err r ≡ place_of s a v → a ≡ Err r
answer_is_refusal s (Ok b) v r e = cc
answer_is_refusal s (Err t) v r e = cc

module _ (set : RuleSet) (x s : Float) (p : Result Place Refusal) (e : p ≡ place_of s (call_of set x s) (vega_of x s)) where
  pub s_is : (a : Place) → p ≡ Ok a → s ≡ a.s
  s_is a q = (answer_is_place s (call_of set x s) (vega_of x s) a (rw q at e)).0

  pub price_is : (a : Place) → p ≡ Ok a → call_of set x s ≡ Ok a.price
  price_is a q = (answer_is_place s (call_of set x s) (vega_of x s) a (rw q at e)).1.0

  pub vega_is : (a : Place) → p ≡ Ok a → vega_of x s ≡ a.vega
  vega_is a q = (answer_is_place s (call_of set x s) (vega_of x s) a (rw q at e)).1.1

  pub refusal_is : (r : Refusal) → p ≡ Err r → call_of set x s ≡ Err r
  refusal_is r q = answer_is_refusal s (call_of set x s) (vega_of x s) r (rw q at e)

-- a price with a vega is a place's, and so is a refusal
pub place_of_price : (s : Float) (a : Answer) (v : Float) (p : PriceAndVega) → Ok p ≡ price_and_vega a v → Ok (record { s = s; price = p.price; vega = p.vega }) ≡ place_of s a v
place_of_price s (Ok b) v p e = cc
place_of_price s (Err r) v p e = cc

pub place_of_refusal : (s : Float) (a : Answer) (v : Float) (r : Refusal) → Err r ≡ price_and_vega a v → Err r ≡ place_of s a v
place_of_refusal s (Ok b) v r e = cc
place_of_refusal s (Err t) v r e = cc
