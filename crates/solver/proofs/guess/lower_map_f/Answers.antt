-- `guess::lower_map_f` meets its contract: each way out is the arm that the test leaves. Assumes nothing.
use Rattle.solver.proofs.guess.lower_map_f.Goals as goal

pub returns-then-is_below_horizon : goal.returns-then-is_below_horizon
returns-then-is_below_horizon c = rw (rw c.is_below_horizon.ensures at c.if-is_below_horizon.true)

pub returns-else-is_below_horizon : goal.returns-else-is_below_horizon
returns-else-is_below_horizon c = rw (rw c.is_below_horizon.ensures at c.if-is_below_horizon.false)
