-- `Slopes::is_convex` meets its contract: each way out is the arm that the tests before it leave. Assumes nothing.
use Rattle.prices.proofs.rational_cubic.Slopes.is_convex.Goals as goal

pub returns-then-self : goal.returns-then-self
returns-then-self c = rw c.if-self.true

pub returns-else-self : goal.returns-else-self
returns-else-self c = rw c.if-self.false
