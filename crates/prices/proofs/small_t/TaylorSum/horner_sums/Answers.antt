-- `small_t::TaylorSum::horner_sums` meets its contract: before step k the first k + 4 are filled in. Assumes nothing.
use native.Mathlib.Omega.{arith}
use Rattle.prices.proofs.Laws.Sizes.{looser}
use Rattle.prices.proofs.small_t.Filling.{step_small, fill_step}
use Rattle.prices.proofs.small_t.TaylorSum.horner_sums.Goals as goal

pub horner_step-f-requires-clause-sum_within : goal.horner_step-f-requires-clause-sum_within
horner_step-f-requires-clause-sum_within g c = λ r. looser 300 (omega arith) (c.loop-k.invariant.size r c.loop-k.k (omega arith))

pub loop-k-preserved : goal.loop-k-preserved
loop-k-preserved g c = fill_step (g.met.S.Steps.both _ _) _ _ _ _ _ c.loop-k.invariant c.loop-k-test.true c.horner_step-f.ensures.value c.horner_step-f.ensures.bound

pub horner_step-f-requires-clause-p_high : goal.horner_step-f-requires-clause-p_high
horner_step-f-requires-clause-p_high g c = (step_small c.loop-k.k).0

pub horner_step-f-requires-clause-q_high : goal.horner_step-f-requires-clause-q_high
horner_step-f-requires-clause-q_high g c = (step_small c.loop-k.k).1
