-- `black::is_asymptotic` meets its contract: each way out is what `&&` is there. Assumes nothing.
use Rattle.prices.proofs.black.is_asymptotic.Goals as goal

pub returns-then-x-s : goal.returns-then-x-s
returns-then-x-s c = rw c.if-x-s.true

pub returns-else-x-s : goal.returns-else-x-s
returns-else-x-s c = rw c.if-x-s.false
