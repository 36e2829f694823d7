-- `small_t::TaylorSum::innermost_sums` meets its contract: after k steps the first k are filled in. Assumes nothing.
use lib.Dec.{T}
use Rattle.prices.specs.Inside.SmallT.{Filled}
use Rattle.prices.proofs.small_t.TaylorSum.innermost_sums.Given as goal

abbrev pub invariant-loop-k : goal.invariant-loop-k
invariant-loop-k g l = Filled l.self.a l.self.h2 l.k l.y (g.S.Steps.certain l.doubt) (T g.S.Steps.ranged)
