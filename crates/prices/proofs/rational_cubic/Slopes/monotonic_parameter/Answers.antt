-- `Slopes::monotonic_parameter` meets its contract: each way out is the arm that the tests before it leave. Assumes nothing.
use Rattle.prices.proofs.rational_cubic.Slopes.monotonic_parameter.Goals as goal

pub returns-then-prefer : goal.returns-then-prefer
returns-then-prefer c = rw (c.if-monotonic.true, rw c.is_zero.ensures at c.if-is_zero.true, c.if-prefer.true)

pub returns-then-is_zero : goal.returns-then-is_zero
returns-then-is_zero c = rw (c.if-monotonic.true, rw c.is_zero.ensures at c.if-is_zero.true, c.if-prefer.false)

pub returns-then-monotonic : goal.returns-then-monotonic
returns-then-monotonic c = rw (c.if-monotonic.true, rw c.is_zero.ensures at c.if-is_zero.false)

pub returns : goal.returns
returns c = rw c.if-monotonic.false
