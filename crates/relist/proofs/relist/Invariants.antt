-- `relist` meets its contract: a number below 2^63 goes on by 1,024 or the run ends, so what is left up to 2^63 falls. Assumes nothing.
use mathlib.Core.Path.{◌≡◌}
use Prim.Native.Nat.{◌-◌, ◌%◌}
use Rattle.relist.proofs.relist.Given as goal

abbrev pub invariant-loop-first : goal.invariant-loop-first
invariant-loop-first l = l.first % 1024 ≡ 0

abbrev pub decreases-loop-first : goal.decreases-loop-first
decreases-loop-first l = 9223372036854775808 - l.first
