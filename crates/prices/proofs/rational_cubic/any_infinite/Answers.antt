-- `rational_cubic::any_infinite` meets its contract: each way out is the arm that the tests before it leave. Assumes nothing.
use mathlib.Core.Path.{◌∙◌}
use Rattle.prices.proofs.Laws.Infinities.{infinite}
use Rattle.prices.proofs.rational_cubic.any_infinite.Goals as goal

pub returns-then-is_infinite : goal.returns-then-is_infinite
returns-then-is_infinite c = rw (c.if-is_infinite.true, rw (c.is_infinite.ensures.value ∙ infinite c.args.x) at c.if-is_infinite.true)

pub returns-then-is_infinite-2 : goal.returns-then-is_infinite-2
returns-then-is_infinite-2 c =
    let first = rw (c.is_infinite.ensures.value ∙ infinite c.args.x) at c.if-is_infinite.false in
    let second = rw (c.is_infinite-else-is_infinite.ensures.value ∙ infinite c.args.x_l) at c.if-is_infinite-2.true in
    rw (c.if-is_infinite-2.true, first, second)

pub returns-else-is_infinite-2 : goal.returns-else-is_infinite-2
returns-else-is_infinite-2 c =
    let first = rw (c.is_infinite.ensures.value ∙ infinite c.args.x) at c.if-is_infinite.false in
    let second = rw (c.is_infinite-else-is_infinite.ensures.value ∙ infinite c.args.x_l) at c.if-is_infinite-2.false in
    rw (first, second) (c.is_infinite-else-is_infinite-2.ensures.value ∙ infinite c.args.x_r)
