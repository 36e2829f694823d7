-- `mul_add::fma_finite` meets its contract: the three values give `fma` as one sum of fractions; a zero by the plain operations (Exactly). Assumes nothing.
use mathlib.Core.Path.{◌∙◌}
use mathlib.Core.Logic.{inl, inr}
use Rattle.elementary.proofs.mul_add.Exactly.{zero_product, zero_addend, scaled_sum}
use Rattle.elementary.proofs.mul_add.fma_finite.Goals as goal

pub returns-then-p-eq0 : goal.returns-then-p-eq0
returns-then-p-eq0 c = zero_product c.parts_of-p.ensures c.parts_of-q.ensures c.parts_of-r.ensures (elim c.then-p-eq0.either [ inl e ↦ inl e | inr w ↦ inr w.1 ])

pub returns-then-r-eq0 : goal.returns-then-r-eq0
returns-then-r-eq0 c = zero_addend c.parts_of-p.ensures c.parts_of-q.ensures c.parts_of-r.ensures c.if-p-eq0.false c.if-q-eq0.false c.if-r-eq0.true

pub returns : goal.returns
returns c =
    let p = c.product.ensures in
    let a = c.addend.ensures in
    (rw (p.neg, p.value, a.neg, a.value) at (c.sum.ensures c.rounded.result c.rounded.ensures)) ∙ scaled_sum c.parts_of-p.ensures c.parts_of-q.ensures c.parts_of-r.ensures
