-- `step::halley_of` meets its contract, operation by operation. Assumes nothing.
use lib.Ieee.{of_bits, of_int}
use Rattle.solver.proofs.step.halley_of.Goals as goal

pub returns : goal.returns
unfolding of_bits of_int
returns c = rw c.powi_2.ensures
