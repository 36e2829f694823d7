-- `guess::mapped_start` meets its contract: each way out is the arm that the tests before it leave. Assumes nothing.
use Rattle.solver.specs.Guess.{mapped_start}
use Rattle.solver.proofs.guess.mapped_start.Goals as goal

pub returns-then-beta : goal.returns-then-beta
unfolding mapped_start
returns-then-beta c = rw c.if-beta.true

pub returns-then-beta-b_max : goal.returns-then-beta-b_max
unfolding mapped_start
returns-then-beta-b_max c = rw (c.if-beta.false, c.if-beta-2.false, ← c.exp-b_max.ensures, c.if-beta-b_max.true)

pub returns : goal.returns
unfolding mapped_start
returns c = rw (c.if-beta.false, c.if-beta-2.false, ← c.exp-b_max.ensures, c.if-beta-b_max.false) c.guessed_start.ensures
