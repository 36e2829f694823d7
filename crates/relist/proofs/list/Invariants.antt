-- `list` meets its contract: after each record its line stands behind those before it, and what is left of the block has the other lines. Assumes nothing.
use mathlib.Core.Path.{◌≡◌}
use Prim.Native.Nat.{◌+◌}
use Rattle.std.specs.Slice.Iter.{chunks_rest, chunks_size}
use Rattle.std.specs.Iterator.Adapters.{enumerate_source, enumerate_count}
use Rattle.relist.proofs.Laws.Listing.{SoFar}
use Rattle.relist.proofs.list.Given as goal

abbrev pub invariant-loop-i : goal.invariant-loop-i
invariant-loop-i l =
    let records = enumerate_source l.i-iterator in
    (chunks_size records ≡ 64) × SoFar l.first l.block l.initial.lines l.lines (l.first + enumerate_count l.i-iterator) (chunks_rest records) l.used
