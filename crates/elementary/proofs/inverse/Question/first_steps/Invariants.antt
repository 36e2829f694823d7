-- `inverse::Question::first_steps` meets its contract: each step halves the distance of the ends, in points. Assumes nothing.
use Rattle.elementary.proofs.inverse.Laws.{Points}
use Rattle.elementary.proofs.inverse.Question.first_steps.Given as goal

abbrev pub invariant-loop-half : goal.invariant-loop-half
invariant-loop-half l = Points l.self.set l.self.p l.i l.half-index
