-- `small_t::TaylorSum::horner_sums` meets its contract: before step k the first k + 4 are filled in. Assumes nothing.
use Prim.Native.Nat.{◌+◌}
use lib.Dec.{T}
use Rattle.prices.specs.Inside.SmallT.{Filled}
use Rattle.prices.proofs.small_t.TaylorSum.horner_sums.Given as goal

abbrev pub invariant-loop-k : goal.invariant-loop-k
invariant-loop-k g l = Filled l.self.a l.self.h2 (l.k + 4) l.y (g.S.Steps.certain l.doubt) (T g.S.Steps.ranged)
