-- `step::upper_ds` meets its contract: the middle of the bracket where the flag holds, else the step in ln of what is left to the cap. Assumes nothing.
use mathlib.Core.Path.{◌≡◌}
use mathlib.Core.Bool.{◌||◌}
use lib.Ieee.{le, of_bits, of_int}
use Rattle.elementary.specs.Ops.{MIN}
use Rattle.solver.specs.Step.{upper_ds}
use Rattle.solver.proofs.step.upper_ds.Goals as goal
use Rattle.solver.proofs.step.upper_ds.Goals.{then-b-m, else-b-m}

pub returns-then-bp : goal.returns-then-bp
unfolding upper_ds
returns-then-bp c =
    let flag : (le c.args.m.b_max c.args.at.price || le c.args.at.vega MIN) ≡ c.if-b-m.value =
    elim c.if-b-m.branch [ then-b-m w ↦ rw (w.value-is, w.if-b-m.true) | else-b-m w ↦ rw (w.value-is, w.if-b-m.false) ] in
    rw (flag, c.if-bp.true, c.to_middle.ensures)

pub returns-else-bp : goal.returns-else-bp
unfolding upper_ds of_bits of_int
returns-else-bp c =
    let flag : (le c.args.m.b_max c.args.at.price || le c.args.at.vega MIN) ≡ c.if-b-m.value =
    elim c.if-b-m.branch [ then-b-m w ↦ rw (w.value-is, w.if-b-m.true) | else-b-m w ↦ rw (w.value-is, w.if-b-m.false) ] in
    rw (flag, c.if-bp.false, c.householder_factor.ensures, c.hh3_of-b_hh3.ensures, c.halley_of-b_halley.ensures, c.ln-g.ensures)
