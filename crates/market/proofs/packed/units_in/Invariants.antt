-- `packed::units_in` meets its contract: the digits read so far and the bytes that are left yield what all of them do.
use mathlib.Core.Path.{◌≡◌}
use Prim.Native.Nat.{◌^◌, ◌<◌}
use lib.ListN.{drop}
use Rattle.market.specs.Packed.{halves, units_in, units_behind}
use Rattle.market.proofs.packed.units_in.Given as goal

abbrev pub invariant-loop-i : goal.invariant-loop-i
invariant-loop-i l = (l.size < 100 ^ l.i) × (units_in l.packed ≡ units_behind l.size (halves (drop l.i l.packed)))
