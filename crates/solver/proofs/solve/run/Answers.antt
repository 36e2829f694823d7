-- `solve::run` meets its contract: its loop keeps what it has reached, and each way out is the run's end. Assumes nothing.
use mathlib.Core.Path.{◌≡◌, refl, ◌∙◌}
use mathlib.Core.List.{[], ◌∷◌, ◌++◌}
use Prim.Native.Nat.{◌-◌, ◌+◌}
use lib.ListN.{length-append}
use native.Mathlib.Omega.{arith}
use Rattle.std.proofs.Common.{rules}
use Rattle.std.specs.Prelude.{Ok, Err}
use Rattle.prices.specs.declared.refusal.Refusal.{Refusal as Unpriced}
use Rattle.solver.specs.declared.refusal.Refusal.TheVariants.{Pricing}
use Rattle.solver.specs.declared.state.State.{State}
use Rattle.solver.proofs.Laws.LoopInvariant.{run_advances, stops, runs_out, next_advances, next_by_refusal, next_by_test, ended}
use Rattle.solver.specs.Loop.{by_test, by_limit, by_refusal, run}
use Rattle.solver.specs.Step.{StepResult, next_by}
use Rattle.solver.specs.Inside.Branch.{branch_step}
use Rattle.solver.proofs.solve.run.Given.{Over}
use Rattle.solver.proofs.solve.run.Goals as goal
use Rattle.solver.proofs.solve.run.Goals.{After-from_residual, then-steps-limit, else-steps-limit+then-is_close}

pub loop-steps-init : goal.loop-steps-init
loop-steps-init g c = record { rs = []; count = refl; within = omega arith; rest = let k : c.args.limit - 0 ≡ c.args.limit = omega arith in rw k; wrote = g.met.R.Recorder.after_nothing _; room = λ n. refl }

pub put-requires : goal.put-requires
put-requires g c =
    let at = c.loop-steps in
    let law = g.met.R.Recorder in
    law.fewer _ (at.steps + 1) c.args.limit (omega (arith, c.if-steps-limit.false)) (at.invariant.room c.args.limit ∙ c.requires)

pub loop-steps-preserved : goal.loop-steps-preserved
loop-steps-preserved g c =
    let a = c.args in
    let at = c.loop-steps in
    let inv = at.invariant in
    let step_of : State → StepResult = branch_step a.set a.branch a.m.b_max a.m.x a.m.beta in
    let taken = c.in_ok-completed.completed in
    let e : c.step.result ≡ Ok taken = search rules in
    let r = taken.kept in
    record {
      rs = inv.rs ++ (r ∷ []);
      count = omega (arith, length-append inv.rs (r ∷ []));
      within = omega arith;
      rest = run_advances (next_by step_of) a.limit at.steps (run (next_by step_of) a.limit a.start) inv.rs at.st inv.rest c.if-steps-limit.false r taken.state (next_advances step_of at.st _ _ c.is_close.ensures c.step.ensures c.if-is_close.false taken e);
      wrote = c.put.ensures.after inv.rs a.recorder.now inv.count inv.wrote;
      room = λ n. c.put.ensures.room n ∙ inv.room n;
    }

-- what the step refused, in what the loop answers
refused : (g : Over) (c : After-from_residual g) → (k : Unpriced) × (c.step.result ≡ Err k) × (c.from_residual.result ≡ Err (record { refusal = Pricing k; steps = c.loop-steps.steps }))
refused g c = search rules

pub returns-in_err-completed : goal.returns-in_err-completed
returns-in_err-completed g c =
    let a = c.args in
    let at = c.loop-steps in
    let inv = at.invariant in
    let step_of : State → StepResult = branch_step a.set a.branch a.m.b_max a.m.x a.m.beta in
    let next = next_by step_of in
    let all = run next a.limit a.start in
    let met = refused g c in
    let leads = next_by_refusal step_of at.st _ _ c.is_close.ensures c.step.ensures c.if-is_close.false met.0 met.1 in
    let t = ended g.R.Recorder.after all inv.rs (by_refusal met.0) a.branch a.root _ _ _ (stops next a.limit at.steps all inv.rs at.st inv.rest c.if-steps-limit.false (by_refusal met.0) leads) inv.count inv.wrote in
    record { value = met.2 ∙ t.0; recorder_after = t.1 }

pub returns : goal.returns
returns g c =
    let a = c.args in
    let at = c.loop-steps in
    let inv = at.invariant in
    let step_of : State → StepResult = branch_step a.set a.branch a.m.b_max a.m.x a.m.beta in
    let next = next_by step_of in
    let all = run next a.limit a.start in
    elim c.if-steps-limit.branch [
      | then-steps-limit w ↦
          let t = ended g.R.Recorder.after all inv.rs (by_limit at.st) a.branch a.root _ _ _ (runs_out next a.limit at.steps all inv.rs at.st inv.rest w.if-steps-limit.true) inv.count inv.wrote in
          record { value = rw (c.found.ensures, w.ending-is) t.0; recorder_after = t.1 }
      | else-steps-limit+then-is_close w ↦
          let t = ended g.R.Recorder.after all inv.rs (by_test at.st) a.branch a.root _ _ _ (stops next a.limit at.steps all inv.rs at.st inv.rest w.if-steps-limit.false _ (next_by_test step_of at.st _ w.is_close.ensures w.if-is_close.true)) inv.count inv.wrote in
          record { value = rw (c.found.ensures, w.ending-is) t.0; recorder_after = t.1 }
    ]
