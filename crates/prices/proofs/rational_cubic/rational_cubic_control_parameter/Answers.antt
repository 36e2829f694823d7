-- `rational_cubic::rational_cubic_control_parameter` meets its contract: each way out is the arm that the tests before it leave. Assumes nothing.
use Rattle.prices.specs.RationalCubic.{control_parameter_of}
use Rattle.prices.proofs.rational_cubic.rational_cubic_control_parameter.Goals as goal

pub returns-then-is_zero : goal.returns-then-is_zero
unfolding control_parameter_of
returns-then-is_zero c = rw (← c.mul_add-numerator.ensures, rw c.is_zero.ensures at c.if-is_zero.true)

pub returns-then-numerator : goal.returns-then-numerator
unfolding control_parameter_of
returns-then-numerator c = rw (← c.mul_add-numerator.ensures, ← c.denominator_at-denominator.ensures, rw c.is_zero.ensures at c.if-is_zero.false, rw c.is_zero_or_infinite.ensures at c.if-is_zero_or_infinite.true, c.if-numerator.true)

pub returns-then-is_zero_or_infinite : goal.returns-then-is_zero_or_infinite
unfolding control_parameter_of
returns-then-is_zero_or_infinite c = rw (← c.mul_add-numerator.ensures, ← c.denominator_at-denominator.ensures, rw c.is_zero.ensures at c.if-is_zero.false, rw c.is_zero_or_infinite.ensures at c.if-is_zero_or_infinite.true, c.if-numerator.false)

pub returns : goal.returns
unfolding control_parameter_of
returns c = rw (← c.mul_add-numerator.ensures, ← c.denominator_at-denominator.ensures, rw c.is_zero.ensures at c.if-is_zero.false, rw c.is_zero_or_infinite.ensures at c.if-is_zero_or_infinite.false)
