-- `guess::start_at` meets its contract, field by field. Assumes nothing.
use mathlib.Core.Path.{refl}
use Rattle.solver.proofs.guess.start_at.Goals as goal

pub returns : goal.returns
returns c = refl
