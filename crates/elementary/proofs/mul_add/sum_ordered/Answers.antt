-- `mul_add::sum_ordered` meets its contract: what stands for s stands for it in the sum (Sums). Assumes nothing.
use mathlib.Core.Path.{◌≡◌, ◌∙◌}
use mathlib.Core.Bool.{◌&&◌}
use lib.Dec.{ltb}
use Rattle.elementary.proofs.mul_add.Sums.{plus, minus, other}
use Rattle.elementary.proofs.mul_add.sum_ordered.Goals as goal
use Rattle.elementary.proofs.mul_add.sum_ordered.Goals.{then-s, else-s}

pub returns-then-l-s : goal.returns-then-l-s
returns-then-l-s c = plus (record { large = c.args.l.scaled; small = c.args.s.scaled; order = c.requires; near = c.shift_right-y.ensures }) c.args.l.neg c.args.s.neg c.if-l-s.true

pub returns-then-y-l : goal.returns-then-y-l
returns-then-y-l c = minus (record { large = c.args.l.scaled; small = c.args.s.scaled; order = c.requires; near = c.shift_right-y.ensures }) c.args.l.neg c.args.s.neg c.if-l-s.false c.if-y-l.true

pub returns : goal.returns
returns c =
    let e : c.if-s.result ≡ (c.args.s.neg && ltb c.args.l.digits c.shift_right-y.result) = elim c.if-s.branch [ then-s w ↦ rw w.if-s.true w.result-is | else-s w ↦ rw w.if-s.false (w.result-is ∙ w.if-s.false) ] in
    rw e (other (record { large = c.args.l.scaled; small = c.args.s.scaled; order = c.requires; near = c.shift_right-y.ensures }) c.args.l.neg c.args.s.neg c.if-l-s.false c.if-y-l.false)
