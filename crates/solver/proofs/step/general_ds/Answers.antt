-- `step::general_ds` meets its contract, operation by operation. Assumes nothing.
use Rattle.solver.specs.Step.{general_ds}
use Rattle.solver.proofs.step.general_ds.Goals as goal

pub returns : goal.returns
unfolding general_ds
returns c bracket = rw (c.max.ensures, c.householder_factor.ensures, c.hh3_of-hh3.ensures, c.halley_of-halley.ensures)
