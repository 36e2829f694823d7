-- `cody::erfcx_above_threshold` meets its contract: each arm is what `cond` picks. Assumes nothing.
use Rattle.elementary.specs.Cody.{erfcx_above_threshold}
use Rattle.elementary.proofs.cody.erfcx_above_threshold.Goals as goal

pub returns-then-y : goal.returns-then-y
unfolding erfcx_above_threshold
returns-then-y c = rw c.if-y.true c.cd.ensures

pub returns-else-y : goal.returns-else-y
unfolding erfcx_above_threshold
returns-else-y c = rw (c.if-y.false, c.pq.ensures)
