-- `guess::compute_f_lower_map_and_first_two_derivatives` meets its contract: each way out is the arm that the test leaves. Assumes nothing.
use lib.Ieee.{of_bits, of_int}
use Rattle.solver.specs.Guess.{lower_map}
use Rattle.solver.proofs.guess.compute_f_lower_map_and_first_two_derivatives.Goals as goal

pub returns-then-is_below_horizon : goal.returns-then-is_below_horizon
unfolding lower_map of_bits of_int
returns-then-is_below_horizon c =
    let at-exp = c.before.before in
    let at-cdf = at-exp.before.before in
    rw (rw c.is_below_horizon.ensures at c.if-is_below_horizon.true, at-exp.exp.ensures, at-exp.standard_normal_cdf-phi_.ensures, at-cdf.standard_normal_cdf-phi.ensures, at-cdf.abs-ax.ensures)

pub returns-else-is_below_horizon : goal.returns-else-is_below_horizon
unfolding lower_map of_bits of_int
returns-else-is_below_horizon c =
    let at-if1 = c.before.before in
    let at-exp = at-if1.before.before in
    let at-cdf = at-exp.before.before in
    rw (c.lower_map_f-f.ensures, c.exp-else-is_below_horizon.ensures, rw at-if1.is_below_horizon.ensures at at-if1.if-is_below_horizon.false, at-exp.exp.ensures, at-exp.standard_normal_cdf-phi_.ensures, at-cdf.standard_normal_cdf-phi.ensures, at-cdf.abs-ax.ensures)
