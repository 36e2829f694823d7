-- `step::lower_ds` meets its contract: the middle of the bracket where the flag holds, else the step in ln b. Assumes nothing.
use mathlib.Core.Path.{◌≡◌}
use mathlib.Core.Bool.{◌||◌}
use lib.Ieee.{le, of_bits, of_int}
use Rattle.elementary.specs.Ops.{+0}
use Rattle.solver.specs.Step.{lower_ds}
use Rattle.solver.proofs.step.lower_ds.Goals as goal
use Rattle.solver.proofs.step.lower_ds.Goals.{then-b, else-b}

pub returns-then-bp : goal.returns-then-bp
unfolding lower_ds
returns-then-bp c =
    let flag : (le c.args.at.price +0 || le c.args.at.vega +0) ≡ c.if-b.value =
    elim c.if-b.branch [ then-b w ↦ rw (w.value-is, w.if-b.true) | else-b w ↦ rw (w.value-is, w.if-b.false) ] in
    rw (flag, c.if-bp.true, c.to_middle.ensures)

pub returns-else-bp : goal.returns-else-bp
unfolding lower_ds of_bits of_int
returns-else-bp c =
    let flag : (le c.args.at.price +0 || le c.args.at.vega +0) ≡ c.if-b.value =
    elim c.if-b.branch [ then-b w ↦ rw (w.value-is, w.if-b.true) | else-b w ↦ rw (w.value-is, w.if-b.false) ] in
    rw (flag, c.if-bp.false, c.householder_factor.ensures, c.powi_2-else-bp.ensures, c.powi_2.ensures, c.ln-ln_beta.ensures, c.ln-ln_b.ensures)
