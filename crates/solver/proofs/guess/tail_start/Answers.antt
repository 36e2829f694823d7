-- `guess::tail_start` meets its contract: each way out is the arm that the test leaves, and the step of a branch is found by computing. Assumes nothing.
use Rattle.solver.specs.Step.{upper_step, general_step}
use Rattle.solver.specs.Guess.{tail_start}
use Rattle.solver.proofs.guess.tail_start.Goals as goal

pub returns-then-m : goal.returns-then-m
unfolding tail_start upper_step
returns-then-m c = rw (← c.upper_guess-guess.ensures, c.if-m.true) (c.start_loop.ensures c.args.set)

pub returns : goal.returns
unfolding tail_start general_step
returns c = rw (← c.upper_guess-guess.ensures, c.if-m.false) (c.start_loop-2.ensures c.args.set)
