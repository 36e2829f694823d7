-- `cody::erfcx` meets its contract: each way out is the arm that the tests before it leave. Assumes nothing.
use Rattle.elementary.specs.Cody.{erfcx_of}
use Rattle.elementary.proofs.cody.erfcx.Goals as goal

pub returns-then-y : goal.returns-then-y
unfolding erfcx_of
returns-then-y c = rw (c.ab.ensures, c.exp.ensures, ← c.abs-y.ensures, c.if-y.true)

pub returns-then-x : goal.returns-then-x
unfolding erfcx_of
returns-then-x c = rw (← c.abs-y.ensures, c.if-y.false, c.if-x.true)

pub returns-then-x-2 : goal.returns-then-x-2
unfolding erfcx_of
returns-then-x-2 c = rw (c.smoothened_exponential_of_positive_square-expx2.ensures, c.erfcx_above_threshold-result.ensures, ← c.abs-y.ensures, c.if-y.false, c.if-x.false, c.if-x-2.true)

pub returns-else-x-2 : goal.returns-else-x-2
unfolding erfcx_of
returns-else-x-2 c = rw (c.erfcx_above_threshold-result.ensures, ← c.abs-y.ensures, c.if-y.false, c.if-x.false, c.if-x-2.false)
