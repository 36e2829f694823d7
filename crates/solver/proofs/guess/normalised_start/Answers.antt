-- `guess::normalised_start` meets its contract: the target is the arm that the test leaves. Assumes nothing.
use Rattle.solver.specs.Guess.{normalised_start}
use Rattle.solver.proofs.guess.normalised_start.Goals as goal
use Rattle.solver.proofs.guess.normalised_start.Goals.{then-mul, else-mul}

pub returns : goal.returns
unfolding normalised_start
returns c =
    elim c.if-mul.branch [
      | then-mul w ↦ rw (rw c.mul.ensures at w.if-mul.true, ← w.normalised_intrinsic.ensures, ← w.max-beta.ensures, ← w.beta-is) (rw c.mul-2.ensures at c.mapped_start.ensures)
      | else-mul w ↦ rw (rw c.mul.ensures at w.if-mul.false, ← w.beta-is) (rw c.mul-2.ensures at c.mapped_start.ensures)
    ]
