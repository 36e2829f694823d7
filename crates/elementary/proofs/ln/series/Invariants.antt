-- `ln::series` meets its contract. The loop's invariant: q is the sum after the steps down to i. Assumes nothing.
use Prim.Native.Nat.{◌≤◌}
use Rattle.elementary.proofs.ln.Steps.{Down}
use Rattle.elementary.proofs.ln.series.Given as goal

abbrev pub invariant-loop-i : goal.invariant-loop-i
invariant-loop-i l = (l.i ≤ 11) × Down l.i l.z l.q

abbrev pub decreases-loop-i : goal.decreases-loop-i
decreases-loop-i l = l.i
