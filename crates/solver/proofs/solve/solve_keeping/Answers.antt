-- `solve::solve_keeping` meets its contract: a refusal, 21, or what the start leads to. Assumes nothing.
use mathlib.Core.Path.{◌≡◌, refl, sym, ap, ◌∙◌}
use Rattle.std.proofs.Common.{rules}
use Rattle.std.specs.Prelude.{Ok, Err}
use Rattle.std.specs.Float.{binary64}
use Rattle.elementary.specs.Sqrt.{sqrt_of}
use Rattle.solver.specs.declared.refusal.Refusal.TheVariants.{Pricing}
use Rattle.solver.specs.Answers.{at_once}
use Rattle.solver.specs.Solve.{result_from}
use Rattle.solver.proofs.Laws.SolveCases.{by_refusal, by_trail, by_start}
use Rattle.solver.proofs.solve.solve_keeping.Goals as goal

pub returns-in_err-check_input : goal.returns-in_err-check_input
unfolding result_from
returns-in_err-check_input g c =
    let e : c.check_input.result ≡ Err c.in_err-check_input.field-0.0 = search rules in
    let r : c.from_residual.result ≡ Err (at_once c.in_err-check_input.field-0.0) = search rules in
    let s = by_refusal (g.R.Recorder.too_short c.args.recorder.now c.args.limit) c.args.set c.args.quote _ (sym c.check_input.ensures ∙ e) in
    record { value = rw s r; recorder_after = rw s (g.met.R.Recorder.after_nothing _) }

pub returns-then-is_too_short : goal.returns-then-is_too_short
unfolding result_from
returns-then-is_too_short g c =
    let p : c.check_input.result ≡ Ok c.in_ok-check_input.field-0 = search rules in
    let s = by_trail (g.R.Recorder.too_short c.args.recorder.now c.args.limit) c.args.set c.args.quote (sym c.check_input.ensures ∙ p) (sym c.is_too_short.ensures ∙ c.if-is_too_short.true) in
    record { value = rw s (ap Err c.from.ensures); recorder_after = rw s (g.met.R.Recorder.after_nothing _) }

pub returns-in_err-begun : goal.returns-in_err-begun
unfolding result_from
returns-in_err-begun g c =
    let p : c.check_input.result ≡ Ok c.in_ok-check_input.field-0 = search rules in
    let e : c.accepted_start.result ≡ Err c.in_err-begun.field-0.0 = search rules in
    let r : c.from_residual-in_err-begun.result ≡ Err (at_once (Pricing c.in_err-begun.field-0.0)) = search rules in
    let s = by_start (g.R.Recorder.too_short c.args.recorder.now c.args.limit) c.args.set c.args.quote (sym c.check_input.ensures ∙ p) (sym c.is_too_short.ensures ∙ c.if-is_too_short.false) ∙ rw e at (sym c.accepted_start.ensures.value) in
    record { value = rw s r; recorder_after = rw s (g.met.R.Recorder.after_nothing _) }

pub returns-in-Answered : goal.returns-in-Answered
unfolding result_from
returns-in-Answered g c =
    let p : c.check_input.result ≡ Ok c.in_ok-check_input.field-0 = search rules in
    let e : c.accepted_start.result ≡ Ok c.in_ok-begun.begun = search rules in
    let s = by_start (g.R.Recorder.too_short c.args.recorder.now c.args.limit) c.args.set c.args.quote (sym c.check_input.ensures ∙ p) (sym c.is_too_short.ensures ∙ c.if-is_too_short.false) ∙ rw (e, c.in-Answered.is) at (sym c.accepted_start.ensures.value) in
    record { value = rw s refl; recorder_after = rw s (g.met.R.Recorder.after_nothing _) }

pub returns-in-Looping : goal.returns-in-Looping
unfolding result_from
returns-in-Looping g c =
    let p : c.check_input.result ≡ Ok c.in_ok-check_input.field-0 = search rules in
    let e : c.accepted_start.result ≡ Ok c.in_ok-begun.begun = search rules in
    let root : c.in_ok-begun.begun.root ≡ sqrt_of binary64 c.args.quote.expiry = rw (e, c.in-Looping.is) at c.accepted_start.ensures.root in
    let ran = rw root at c.run.ensures in
    let s = by_start (g.R.Recorder.too_short c.args.recorder.now c.args.limit) c.args.set c.args.quote (sym c.check_input.ensures ∙ p) (sym c.is_too_short.ensures ∙ c.if-is_too_short.false) ∙ rw (e, c.in-Looping.is) at (sym c.accepted_start.ensures.value) in
    record { value = rw s ran.value; recorder_after = rw s ran.recorder_after }
