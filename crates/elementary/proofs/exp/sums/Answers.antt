-- `exp::sums` meets its contract: each of the eight goes through the steps of `sum`. Assumes nothing.
use borrow.Author.Rules.{rules}
use native.Mathlib.Omega.{arith}
use Rattle.elementary.proofs.Laws.Eight.{in_each}
use Rattle.elementary.proofs.exp.Steps.{no_steps_left}
use Rattle.elementary.proofs.exp.sums.Goals as goal

pub returns : goal.returns
returns c = in_each (λ at. no_steps_left _ _ _ (omega arith)) c.loop-n.invariant.1

pub loop-n-preserved : goal.loop-n-preserved
loop-n-preserved c = (omega arith, in_each (λ at p. search rules) c.zip-p.ensures)
