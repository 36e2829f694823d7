-- `guess::is_below_horizon` meets its contract: the call of `abs` is its definition. Assumes nothing.
use Rattle.solver.proofs.guess.is_below_horizon.Goals as goal

pub returns : goal.returns
returns c = rw c.abs.ensures
