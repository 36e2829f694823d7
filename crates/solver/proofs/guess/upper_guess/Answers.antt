-- `guess::upper_guess` meets its contract: what `upper_f` answers and the test say which case it is. Assumes nothing.
use mathlib.Core.Path.{◌≡◌, ◌∙◌}
use Rattle.std.proofs.Common.{rules}
use Rattle.std.specs.Prelude.{Ok, Err}
use Rattle.solver.specs.Guess.{on_value, upper_guess}
use Rattle.solver.proofs.guess.upper_guess.Goals as goal

pub returns-in_err-f : goal.returns-in_err-f
unfolding upper_guess on_value
returns-in_err-f c =
    let e : c.upper_f.result ≡ Err c.in_err-f.field-0.0 = search rules in
    let r : c.from_residual.result ≡ Err c.in_err-f.field-0.0 = search rules in
    r ∙ rw (← c.compute_f_upper_map_and_first_two_derivatives-map.ensures, ← c.upper_f.ensures, e)

pub returns-then-f : goal.returns-then-f
unfolding upper_guess on_value
returns-then-f c =
    let e : c.upper_f.result ≡ Ok c.in_ok-f.f = search rules in
    rw (c.inverse_f_upper_map.ensures, ← c.compute_f_upper_map_and_first_two_derivatives-map.ensures, ← c.upper_f.ensures, e, c.if-f.true)

pub returns : goal.returns
unfolding upper_guess on_value
returns c =
    let e : c.upper_f.result ≡ Ok c.in_ok-f.f = search rules in
    rw (c.inverse_f_upper_map-2.ensures, ← c.compute_f_upper_map_and_first_two_derivatives-map.ensures, ← c.upper_f.ensures, e, c.if-f.false)
