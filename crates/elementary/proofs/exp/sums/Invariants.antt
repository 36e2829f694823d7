-- `exp::sums` meets its contract: each of the eight goes through the steps of `sum`. Assumes nothing.
use Prim.Native.Nat.{◌-◌, ◌≤◌}
use Rattle.elementary.specs.Inside.Each.{Pairs}
use Rattle.elementary.specs.Inside.Exp.{StepsLeft}
use Rattle.elementary.proofs.exp.sums.Given as goal

abbrev pub invariant-loop-n : goal.invariant-loop-n
invariant-loop-n l = (1 ≤ l.n-counter) × Pairs (StepsLeft (l.n-counter - 1)) l.r l.p
