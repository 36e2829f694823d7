-- `Slopes::is_convex_or_concave` meets its contract: each way out is the arm that the tests before it leave. Assumes nothing.
use Rattle.prices.proofs.rational_cubic.Slopes.is_convex_or_concave.Goals as goal

pub returns-then-is_convex : goal.returns-then-is_convex
returns-then-is_convex c = rw (c.if-is_convex.true, rw c.is_convex.ensures at c.if-is_convex.true)

pub returns-else-is_convex : goal.returns-else-is_convex
returns-else-is_convex c = rw (rw c.is_convex.ensures at c.if-is_convex.false) c.is_concave.ensures
