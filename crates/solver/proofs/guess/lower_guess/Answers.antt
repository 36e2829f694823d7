-- `guess::lower_guess` meets its contract: what the cubic answers and the test say which case it is. Assumes nothing.
use mathlib.Core.Path.{◌≡◌, ◌∙◌}
use Rattle.std.proofs.Common.{rules}
use Rattle.std.specs.Prelude.{Ok, Err}
use Rattle.solver.specs.Guess.{on_value, lower_guess}
use Rattle.solver.proofs.guess.lower_guess.Goals as goal

pub returns-in_err-f : goal.returns-in_err-f
unfolding lower_guess on_value
returns-in_err-f c =
    let e : c.rational_cubic_interpolation.result ≡ Err c.in_err-f.field-0.0 = search rules in
    let r : c.from_residual.result ≡ Err c.in_err-f.field-0.0 = search rules in
    r ∙ rw (← c.compute_f_lower_map_and_first_two_derivatives-map.ensures, ← c.convex_rational_cubic_control_parameter-r_ll.ensures, ← c.rational_cubic_interpolation.ensures, e)

pub returns-then-f : goal.returns-then-f
unfolding lower_guess on_value
returns-then-f c =
    let e : c.rational_cubic_interpolation.result ≡ Ok c.in_ok-f.f = search rules in
    rw (c.inverse_f_lower_map.ensures, ← c.compute_f_lower_map_and_first_two_derivatives-map.ensures, ← c.convex_rational_cubic_control_parameter-r_ll.ensures, ← c.rational_cubic_interpolation.ensures, e, c.if-f.true)

pub returns : goal.returns
unfolding lower_guess on_value
returns c =
    let e : c.rational_cubic_interpolation.result ≡ Ok c.in_ok-f.f = search rules in
    rw (c.inverse_f_lower_map-2.ensures, ← c.compute_f_lower_map_and_first_two_derivatives-map.ensures, ← c.convex_rational_cubic_control_parameter-r_ll.ensures, ← c.rational_cubic_interpolation.ensures, e, c.if-f.false)
