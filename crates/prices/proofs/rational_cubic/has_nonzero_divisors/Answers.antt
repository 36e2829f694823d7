-- `rational_cubic::has_nonzero_divisors` meets its contract: each way out is the arm that the tests before it leave. Assumes nothing.
use Rattle.prices.proofs.rational_cubic.has_nonzero_divisors.Goals as goal

pub returns-then-not-is_zero : goal.returns-then-not-is_zero
returns-then-not-is_zero c = rw (c.is_zero-then-not-is_zero.ensures, c.if-curved.true, rw c.is_zero.ensures at c.if-not-is_zero.true)

pub returns-else-not-is_zero : goal.returns-else-not-is_zero
returns-else-not-is_zero c = rw (c.if-not-is_zero.false, c.if-curved.true, rw c.is_zero.ensures at c.if-not-is_zero.false)

pub returns-else-curved : goal.returns-else-curved
returns-else-curved c = rw c.if-curved.false
