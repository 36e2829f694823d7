-- `guess::compute_f_upper_map_and_first_two_derivatives` meets its contract: each way out is the arm that the tests before it leave. Assumes nothing.
use Rattle.solver.specs.Guess.{upper_map}
use Rattle.solver.proofs.guess.compute_f_upper_map_and_first_two_derivatives.Goals as goal

pub returns-then-is_below_horizon : goal.returns-then-is_below_horizon
unfolding upper_map
returns-then-is_below_horizon c = rw (c.standard_normal_cdf-f.ensures, rw c.is_below_horizon.ensures at c.if-is_below_horizon.true)

pub returns-else-is_below_horizon : goal.returns-else-is_below_horizon
unfolding upper_map
returns-else-is_below_horizon c =
    let at-exp = c.before in
    let at-square = at-exp.before in
    let at-if1 = at-square.before in
    let at-horizon = at-if1.before in
    let at-cdf = at-horizon.before in
    rw (c.exp-else-is_below_horizon.ensures, at-exp.exp.ensures, at-square.powi_2-w.ensures, at-cdf.standard_normal_cdf-f.ensures, rw at-horizon.is_below_horizon.ensures at at-if1.if-is_below_horizon.false)
