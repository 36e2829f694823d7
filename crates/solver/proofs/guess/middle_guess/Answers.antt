-- `guess::middle_guess` meets its contract: each call is its definition. Assumes nothing.
use Rattle.solver.specs.Guess.{middle_guess}
use Rattle.solver.proofs.guess.middle_guess.Goals as goal

pub returns : goal.returns
unfolding middle_guess
returns c = rw (← c.convex_rational_cubic_control_parameter-r.ensures) c.rational_cubic_interpolation.ensures
