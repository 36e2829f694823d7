-- `step::householder_factor` meets its contract, operation by operation. Assumes nothing.
use mathlib.Core.Path.{refl}
use lib.Ieee.{of_bits, of_int}
use Rattle.solver.specs.Step.{householder_factor}
use Rattle.solver.proofs.step.householder_factor.Goals as goal

pub returns : goal.returns
unfolding householder_factor of_bits of_int
returns c = refl
