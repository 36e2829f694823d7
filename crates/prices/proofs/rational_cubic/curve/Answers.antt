-- `rational_cubic::curve` meets its contract: each way out is the arm that the tests before it leave. Assumes nothing.
use lib.Ieee.{of_bits, of_int}
use Rattle.prices.specs.RationalCubic.{curve_of}
use Rattle.prices.proofs.rational_cubic.curve.Goals as goal

pub returns-then-r : goal.returns-then-r
unfolding curve_of of_bits of_int
returns-then-r c = rw c.if-r.true

pub returns : goal.returns
unfolding curve_of
returns c = rw c.if-r.false c.mul_add.ensures
