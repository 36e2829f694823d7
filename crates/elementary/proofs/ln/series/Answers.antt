-- `ln::series` meets its contract. The loop's invariant: q is the sum after the steps down to i. Assumes nothing.
use native.Mathlib.Omega.{arith}
use Rattle.elementary.proofs.ln.Steps.{first, horner_step, no_steps_left}
use Rattle.elementary.proofs.ln.series.Goals as goal

pub loop-i-init : goal.loop-i-init
loop-i-init c = (omega arith, rw first)

pub loop-i-preserved : goal.loop-i-preserved
loop-i-preserved c = (omega arith, horner_step _ _ _ c.loop-i-test.true c.loop-i.invariant.1)

pub returns : goal.returns
returns c = no_steps_left _ _ _ c.loop-i-test.false c.loop-i.invariant.1
