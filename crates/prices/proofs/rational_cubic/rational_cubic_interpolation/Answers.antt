-- `rational_cubic::rational_cubic_interpolation` meets its contract: each way out is the arm that the tests before it leave. Assumes nothing.
use Rattle.prices.specs.RationalCubic.{interpolation_of}
use Rattle.prices.proofs.rational_cubic.rational_cubic_interpolation.Goals as goal

pub returns-then-any_infinite : goal.returns-then-any_infinite
unfolding interpolation_of
returns-then-any_infinite c = rw (rw c.any_infinite.ensures at c.if-any_infinite.true)

pub returns-then-abs : goal.returns-then-abs
unfolding interpolation_of
returns-then-abs c = rw (rw c.any_infinite.ensures at c.if-any_infinite.false, rw c.abs.ensures at c.if-abs.true)

pub returns : goal.returns
unfolding interpolation_of
returns c = rw (c.curve.ensures, rw c.any_infinite.ensures at c.if-any_infinite.false, rw c.abs.ensures at c.if-abs.false)
