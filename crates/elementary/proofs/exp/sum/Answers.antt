-- `exp::sum` meets its contract: after the steps down to i, what is left of the 13 steps is the i - 1 steps from p on. Assumes nothing.
use native.Mathlib.Omega.{arith}
use Rattle.elementary.proofs.exp.Steps.{no_steps_left}
use Rattle.elementary.proofs.exp.sum.Goals as goal

pub returns : goal.returns
returns c = no_steps_left _ _ _ (omega arith) c.loop-i.invariant.1
