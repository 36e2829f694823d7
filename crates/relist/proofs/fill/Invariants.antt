-- `fill` meets its contract: what came so far lies within the block, whose length stays, and what is left of it falls. Assumes nothing.
use mathlib.Core.Path.{◌≡◌}
use Prim.Native.Nat.{◌-◌, ◌≤◌}
use lib.ListN.{length}
use Rattle.relist.proofs.fill.Given as goal

abbrev pub invariant-loop-count : goal.invariant-loop-count
invariant-loop-count l = (length l.block ≡ length l.initial.block) × (l.count ≤ length l.block)

abbrev pub decreases-loop-count : goal.decreases-loop-count
decreases-loop-count l = length l.block - l.count
