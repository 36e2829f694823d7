-- `small_t::TaylorSum::innermost_sums` meets its contract: after k steps the first k are filled in. Assumes nothing.
use Rattle.prices.proofs.small_t.Filling.{fill_innermost}
use Rattle.prices.proofs.small_t.TaylorSum.innermost_sums.Goals as goal

pub loop-k-preserved : goal.loop-k-preserved
loop-k-preserved g c = fill_innermost (g.met.S.Steps.both _ _) _ _ _ _ _ c.loop-k.invariant c.loop-k-test.true c.innermost-f.ensures.value c.innermost-f.ensures.within
