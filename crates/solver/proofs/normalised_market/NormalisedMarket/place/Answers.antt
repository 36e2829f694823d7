-- `place` meets its contract: the exponentials are those of x. Assumes nothing.
use mathlib.Core.Path.{◌≡◌, sym, ◌∙◌}
use Rattle.std.proofs.Common.{rules}
use Rattle.std.specs.Prelude.{Ok, Err}
use Rattle.prices.specs.Vega.{vega_of}
use Rattle.prices.specs.Black.{call_of}
use Rattle.prices.specs.Inside.Point.{price_and_vega}
use Rattle.prices.proofs.Laws.Exponentials.{at_own_exponentials}
use Rattle.solver.proofs.Laws.Place.{place_of_price, place_of_refusal}
use Rattle.solver.proofs.normalised_market.NormalisedMarket.place.Goals as goal

pub returns-in_err-found : goal.returns-in_err-found
returns-in_err-found c =
    let m = c.args.self in
    let own : c.price_and_vega.result ≡ price_and_vega (call_of c.args.set m.x c.args.s) (vega_of m.x c.args.s) =
    rw (← at_own_exponentials c.args.set m.x c.args.s, ← m.b_max_is, ← m.down_is) c.price_and_vega.ensures in
    let e : c.price_and_vega.result ≡ Err c.in_err-found.field-0.0 = search rules in
    let r : c.from_residual.result ≡ Err c.in_err-found.field-0.0 = search rules in
    r ∙ place_of_refusal _ _ _ _ (sym e ∙ own)

pub returns : goal.returns
returns c =
    let m = c.args.self in
    let own : c.price_and_vega.result ≡ price_and_vega (call_of c.args.set m.x c.args.s) (vega_of m.x c.args.s) =
    rw (← at_own_exponentials c.args.set m.x c.args.s, ← m.b_max_is, ← m.down_is) c.price_and_vega.ensures in
    let e : c.price_and_vega.result ≡ Ok c.in_ok-found.found = search rules in
    place_of_price _ _ _ _ (sym e ∙ own)
