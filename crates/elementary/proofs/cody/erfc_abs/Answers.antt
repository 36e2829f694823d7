-- `cody::erfc_abs` meets its contract: each arm is what `cond` picks. Assumes nothing.
use Rattle.elementary.specs.Cody.{erfc_abs}
use Rattle.elementary.proofs.cody.erfc_abs.Goals as goal

pub returns-then-set : goal.returns-then-set
unfolding erfc_abs
returns-then-set c = rw (c.if-y.true, c.if-set.true, c.requires)

pub returns-else-set : goal.returns-else-set
unfolding erfc_abs
returns-else-set c = rw (c.if-y.true, c.if-set.false)

pub returns-else-y : goal.returns-else-y
unfolding erfc_abs
returns-else-y c = rw (c.if-y.false, c.erfcx_above_threshold.ensures, c.requires)
