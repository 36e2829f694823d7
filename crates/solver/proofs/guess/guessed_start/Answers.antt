-- `guess::guessed_start` meets its contract: the price at s_c and the test say which start it is. Assumes nothing.
use mathlib.Core.Path.{◌≡◌}
use Rattle.std.proofs.Common.{rules}
use Rattle.std.specs.Prelude.{Ok, Err}
use Rattle.solver.specs.Guess.{with_value}
use Rattle.solver.proofs.Laws.Place.{s_is, price_is, refusal_is, vega_is}
use Rattle.solver.proofs.guess.guessed_start.Goals as goal

pub returns-in_err-c : goal.returns-in_err-c
unfolding with_value
returns-in_err-c c =
    let e : c.place.result ≡ Err c.in_err-c.field-0.0 = search rules in
    let r : c.from_residual.result ≡ Err c.in_err-c.field-0.0 = search rules in
    rw (r, ← c.requires, refusal_is _ _ _ _ c.place.ensures _ e)

pub returns-then-m-c : goal.returns-then-m-c
unfolding with_value
returns-then-m-c c =
    let e : c.place.result ≡ Ok c.in_ok-c.c = search rules in
    let found = c.place.ensures in
    rw (← c.requires, price_is _ _ _ _ found _ e, vega_is _ _ _ _ found _ e, s_is _ _ _ _ found _ e, c.if-m-c.true) c.lower_start.ensures

pub returns-else-m-c : goal.returns-else-m-c
unfolding with_value
returns-else-m-c c =
    let e : c.place.result ≡ Ok c.in_ok-c.c = search rules in
    let found = c.place.ensures in
    rw (← c.requires, price_is _ _ _ _ found _ e, vega_is _ _ _ _ found _ e, s_is _ _ _ _ found _ e, c.if-m-c.false) c.upper_start.ensures
