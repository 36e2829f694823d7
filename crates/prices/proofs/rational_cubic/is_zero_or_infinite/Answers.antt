-- `rational_cubic::is_zero_or_infinite` meets its contract: each way out is the arm that the tests before it leave. Assumes nothing.
use mathlib.Core.Path.{◌∙◌}
use Rattle.prices.proofs.Laws.Infinities.{infinite}
use Rattle.prices.proofs.rational_cubic.is_zero_or_infinite.Goals as goal

pub returns-then-is_zero : goal.returns-then-is_zero
returns-then-is_zero c = rw (c.if-is_zero.true, rw c.is_zero.ensures at c.if-is_zero.true)

pub returns-else-is_zero : goal.returns-else-is_zero
returns-else-is_zero c = rw (rw c.is_zero.ensures at c.if-is_zero.false) (c.is_infinite.ensures.value ∙ infinite c.args.x)
