-- `guess::upper_place` meets its contract: each way out is the arm that the tests before it leave. Assumes nothing.
use Rattle.solver.proofs.guess.upper_place.Goals as goal

pub returns-then-c : goal.returns-then-c
returns-then-c c = rw c.if-c.true

pub returns-else-c : goal.returns-else-c
returns-else-c c = rw c.if-c.false
