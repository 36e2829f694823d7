-- `exp::sum` meets its contract: after the steps down to i, what is left of the 13 steps is the i - 1 steps from p on. Assumes nothing.
use Prim.Native.Nat.{◌-◌, ◌≤◌}
use Rattle.elementary.specs.Inside.Exp.{StepsLeft}
use Rattle.elementary.proofs.exp.sum.Given as goal

abbrev pub invariant-loop-i : goal.invariant-loop-i
invariant-loop-i l = (1 ≤ l.i) × StepsLeft (l.i - 1) l.r l.p
