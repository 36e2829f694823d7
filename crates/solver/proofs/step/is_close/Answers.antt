-- `step::is_close` meets its contract, operation by operation. Assumes nothing.
use Rattle.solver.specs.Step.{is_close}
use Rattle.solver.proofs.step.is_close.Goals as goal

pub returns : goal.returns
unfolding is_close
returns c = rw c.abs.ensures
