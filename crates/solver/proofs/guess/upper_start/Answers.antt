-- `guess::upper_start` meets its contract: the price at s_h and the test say which start it is, and the step of a branch is found by computing. Assumes nothing.
use mathlib.Core.Path.{◌≡◌}
use Rattle.std.proofs.Common.{rules}
use Rattle.std.specs.Prelude.{Ok, Err}
use Rattle.solver.specs.Step.{general_step}
use Rattle.solver.specs.Guess.{with_value, upper_start}
use Rattle.solver.proofs.Laws.Place.{s_is, price_is, refusal_is, vega_is}
use Rattle.solver.proofs.guess.upper_start.Goals as goal

pub returns-in_err-h : goal.returns-in_err-h
unfolding upper_start with_value
returns-in_err-h c =
    let e : c.place.result ≡ Err c.in_err-h.field-0.0 = search rules in
    let r : c.from_residual.result ≡ Err c.in_err-h.field-0.0 = search rules in
    rw (r, ← c.upper_place.ensures, refusal_is _ _ _ _ c.place.ensures _ e)

pub returns-then-m-h : goal.returns-then-m-h
unfolding upper_start with_value general_step
returns-then-m-h c =
    let e : c.place.result ≡ Ok c.in_ok-h.h = search rules in
    let found = c.place.ensures in
    rw (← c.upper_place.ensures, price_is _ _ _ _ found _ e, c.if-m-h.true, vega_is _ _ _ _ found _ e, s_is _ _ _ _ found _ e, ← c.middle_guess-guess.ensures) (c.start_loop.ensures c.args.set)

pub returns : goal.returns
unfolding upper_start with_value
returns c =
    let e : c.place.result ≡ Ok c.in_ok-h.h = search rules in
    let found = c.place.ensures in
    rw (← c.upper_place.ensures, price_is _ _ _ _ found _ e, c.if-m-h.false, s_is _ _ _ _ found _ e) c.tail_start.ensures
