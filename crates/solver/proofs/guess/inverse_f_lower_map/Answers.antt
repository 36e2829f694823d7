-- `guess::inverse_f_lower_map` meets its contract: each way out is the arm that the tests before it leave. Assumes nothing.
use Rattle.solver.specs.Guess.{inverse_f_lower_map}
use Rattle.solver.proofs.guess.inverse_f_lower_map.Goals as goal

pub returns-then-is_below_horizon : goal.returns-then-is_below_horizon
unfolding inverse_f_lower_map
returns-then-is_below_horizon c = rw (rw c.is_below_horizon.ensures at c.if-is_below_horizon.true)

pub returns-else-is_below_horizon : goal.returns-else-is_below_horizon
unfolding inverse_f_lower_map
returns-else-is_below_horizon c =
    let at-inverse = c.before in
    let at-root = at-inverse.before in
    let at-abs = at-root.before in
    let at-if1 = at-abs.before in
    let at-horizon = at-if1.before in
    rw (c.abs-else-is_below_horizon.ensures, at-inverse.inverse_normal_cdf.ensures, at-root.powf_1_3.ensures, at-abs.abs.ensures, rw at-horizon.is_below_horizon.ensures at at-if1.if-is_below_horizon.false)
