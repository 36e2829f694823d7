-- `black::is_outside_asymptotic_region` meets its contract: each way out is what `||` is there. Assumes nothing.
use Rattle.prices.proofs.black.is_outside_asymptotic_region.Goals as goal

pub returns-then-h : goal.returns-then-h
returns-then-h c = rw c.if-h.true

pub returns-else-h : goal.returns-else-h
returns-else-h c = rw (c.abs-else-h.ensures, c.abs.ensures, c.if-h.false)
