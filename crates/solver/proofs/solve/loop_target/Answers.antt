-- `solve::loop_target` meets its contract: what the start says. Assumes nothing.
use mathlib.Core.Path.{◌≡◌, ◌∙◌}
use Rattle.std.proofs.Common.{rules}
use Rattle.std.specs.Prelude.{Ok, Err}
use Rattle.solver.specs.declared.refusal.Refusal.TheVariants.{Pricing}
use Rattle.solver.specs.Solve.{start_of, target_of}
use Rattle.solver.proofs.solve.loop_target.Goals as goal

pub returns-in_err-check_input : goal.returns-in_err-check_input
unfolding start_of target_of
returns-in_err-check_input c =
    let e : c.check_input.result ≡ Err c.in_err-check_input.field-0.0 = search rules in
    let r : c.from_residual.result ≡ Err c.in_err-check_input.field-0.0 = search rules in
    r ∙ rw (← c.check_input.ensures, e)

pub returns-in_err-accepted_start : goal.returns-in_err-accepted_start
unfolding start_of target_of
returns-in_err-accepted_start c =
    let p : c.check_input.result ≡ Ok c.in_ok-check_input.field-0 = search rules in
    let e : c.accepted_start.result ≡ Err c.in_err-accepted_start.field-0.0 = search rules in
    let r : c.from_residual-in_err-accepted_start.result ≡ Err (Pricing c.in_err-accepted_start.field-0.0) = search rules in
    r ∙ rw (← c.check_input.ensures, p, ← c.accepted_start.ensures.value, e)

pub returns-in-Answered : goal.returns-in-Answered
unfolding start_of target_of
returns-in-Answered c =
    let p : c.check_input.result ≡ Ok c.in_ok-check_input.field-0 = search rules in
    let e : c.accepted_start.result ≡ Ok c.in_ok-accepted_start.field-0 = search rules in
    rw (← c.check_input.ensures, p, ← c.accepted_start.ensures.value, e, c.in-Answered.is)

pub returns-in-Looping : goal.returns-in-Looping
unfolding start_of target_of
returns-in-Looping c =
    let p : c.check_input.result ≡ Ok c.in_ok-check_input.field-0 = search rules in
    let e : c.accepted_start.result ≡ Ok c.in_ok-accepted_start.field-0 = search rules in
    rw (← c.check_input.ensures, p, ← c.accepted_start.ensures.value, e, c.in-Looping.is)
