-- `black::is_positive_normal` meets its contract: each way out is what `&&` is there. Assumes nothing.
use Rattle.prices.proofs.black.is_positive_normal.Goals as goal

pub returns-then-x : goal.returns-then-x
returns-then-x c = rw c.if-x.true

pub returns-else-x : goal.returns-else-x
returns-else-x c = rw c.if-x.false
