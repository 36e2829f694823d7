-- `exp::next_sum` meets its contract. Assumes nothing.
use Rattle.elementary.proofs.exp.Steps.{sum_step}
use Rattle.elementary.proofs.exp.next_sum.Goals as goal

pub returns : goal.returns
returns c = sum_step _ _ _ c.requires.n_low c.requires.steps_left
