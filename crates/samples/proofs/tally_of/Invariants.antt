-- `tally_of` counts no more lines than it passed, each of some bytes of the text, so that no count overflows. Assumes nothing.
use mathlib.Core.Path.{◌≡◌}
use Prim.Native.Nat.{◌+◌, ◌≤◌}
use lib.ListN.{length}
use Rattle.std.specs.Slice.Iter.{chunks_exact_rest, chunks_exact_size}
use Rattle.samples.proofs.tally_of.Given as goal

abbrev pub invariant-loop-line : goal.invariant-loop-line
invariant-loop-line l =
    (l.tally.count + length (chunks_exact_rest l.line-iterator) ≤ length l.text) × (l.tally.agree ≤ l.tally.count) × (chunks_exact_size l.line-iterator ≡ 176)
