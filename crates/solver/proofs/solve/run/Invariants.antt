-- `solve::run` meets its contract: its loop keeps what it has reached, and each way out is the run's end. Assumes nothing.
use Prim.Native.Nat.{◌-◌}
use Rattle.solver.proofs.Laws.LoopInvariant.{Invariant}
use Rattle.solver.specs.Step.{next_by}
use Rattle.solver.specs.Inside.Branch.{branch_step}
use Rattle.solver.proofs.solve.run.Given as goal

abbrev pub invariant-loop-steps : goal.invariant-loop-steps
invariant-loop-steps g l = Invariant g.R.Recorder.after g.R.Recorder.too_short (next_by (branch_step l.set l.branch l.m.b_max l.m.x l.m.beta)) l.limit l.initial.st l.initial.recorder l.recorder l.st l.steps

abbrev pub decreases-loop-steps : goal.decreases-loop-steps
decreases-loop-steps g l = l.limit - l.steps
