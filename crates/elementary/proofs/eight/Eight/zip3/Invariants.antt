-- `Eight::zip3` meets its contract. Assumes nothing.
use Rattle.std.proofs.Common.{◌≡◌, ℕ, ◌<◌, length, slice_index_or}
use Rattle.elementary.specs.Ops.{+0}
use Rattle.elementary.specs.Inside.Each.{at}
use Rattle.elementary.proofs.eight.Eight.zip3.Given as goal

-- those before i are done
abbrev pub invariant-loop-i : goal.invariant-loop-i
invariant-loop-i g l = (length l.x ≡ 8) × ((j : ℕ) → j < l.i → goal.F-post g l.f (at j l.self) (at j l.y) (at j l.z) (slice_index_or l.x j +0))
