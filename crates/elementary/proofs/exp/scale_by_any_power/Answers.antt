-- `exp::scale_by_any_power` meets its contract: a finite p by its digits, any other is its own answer. Assumes nothing.
use mathlib.Core.Path.{refl, sym, ◌∙◌, subst}
use mathlib.Core.Logic.{inl}
use lib.Dec.{T}
use lib.Ieee.{binary64}
use Rattle.elementary.proofs.Laws.Decode.{std_finite}
use Rattle.elementary.proofs.exp.Power as power
use Rattle.elementary.proofs.exp.scale_by_any_power.Goals as goal

pub parts_of-t-requires : goal.parts_of-t-requires
parts_of-t-requires c = subst T (sym (sym (std_finite c.args.p) ∙ sym c.is_finite.ensures.value ∙ c.if-is_finite.true)) tt

pub returns-then-is_finite : goal.returns-then-is_finite
returns-then-is_finite c =
    let a = c.before.before.before.before.before in
    let t = c.parts_of-t in
    c.rounded.ensures _ (inl refl) ∙ power.far_is a.args.p t.result.neg t.result.m t.result.e a.args.e a.requires.e_low t.ensures.value

pub returns-else-is_finite : goal.returns-else-is_finite
returns-else-is_finite c = power.far_special binary64 c.args.p _ (sym (std_finite c.args.p) ∙ sym c.is_finite.ensures.value ∙ c.if-is_finite.false)
