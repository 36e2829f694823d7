-- `guess::lower_start` meets its contract: the price at s_l and the test say which start it is, and the step of a branch is found by computing. Assumes nothing.
use mathlib.Core.Path.{◌≡◌}
use Rattle.std.proofs.Common.{rules}
use Rattle.std.specs.Prelude.{Ok, Err}
use Rattle.solver.specs.Step.{lower_step, general_step}
use Rattle.solver.specs.Guess.{with_value, lower_start}
use Rattle.solver.proofs.Laws.Place.{s_is, price_is, refusal_is, vega_is}
use Rattle.solver.proofs.guess.lower_start.Goals as goal

pub returns-in_err-l : goal.returns-in_err-l
unfolding lower_start with_value
returns-in_err-l c =
    let e : c.place.result ≡ Err c.in_err-l.field-0.0 = search rules in
    let r : c.from_residual.result ≡ Err c.in_err-l.field-0.0 = search rules in
    rw (r, refusal_is _ _ _ _ c.place.ensures _ e)

pub returns-then-m-l : goal.returns-then-m-l
unfolding lower_start with_value lower_step
returns-then-m-l c =
    let e : c.place.result ≡ Ok c.in_ok-l.l = search rules in
    let found = c.place.ensures in
    rw (price_is _ _ _ _ found _ e, c.if-m-l.true, s_is _ _ _ _ found _ e, ← c.lower_guess-guess.ensures) (c.start_loop.ensures c.args.set)

pub returns : goal.returns
unfolding lower_start with_value general_step
returns c =
    let e : c.place.result ≡ Ok c.in_ok-l.l = search rules in
    let found = c.place.ensures in
    rw (price_is _ _ _ _ found _ e, c.if-m-l.false, vega_is _ _ _ _ found _ e, s_is _ _ _ _ found _ e, ← c.middle_guess-guess.ensures) (c.start_loop-2.ensures c.args.set)
