-- `inverse::Bracket::step` meets its contract. Assumes nothing.
use mathlib.Core.Path.{refl, ap, ◌∙◌}
use Rattle.elementary.specs.NormalDistribution.{cdf_of}
use Rattle.elementary.proofs.inverse.Laws.{after_up, after_down, test_of_cdf, with_ends}
use Rattle.elementary.proofs.inverse.Bracket.step.Goals as goal
use Rattle.elementary.proofs.inverse.Bracket.step.Goals.{then-v-self, else-v-self}

pub invariant_of-next : goal.invariant_of-next
invariant_of-next c =
    let h = c.requires in
    let after = c.args.self.after_steps in
    elim c.if-v-self.branch [
      | then-v-self w ↦ rw w.next-is (record { after_steps = with_ends h.mid_is refl (after_up _ _ _ _ after h.steps_high (test_of_cdf _ _ _ _ _ (h.v_is ∙ ap (cdf_of _) h.mid_is) w.if-v-self.true)) })
      | else-v-self w ↦ rw w.next-is (record { after_steps = with_ends refl h.mid_is (after_down _ _ _ _ after h.steps_high (test_of_cdf _ _ _ _ _ (h.v_is ∙ ap (cdf_of _) h.mid_is) w.if-v-self.false)) })
    ]
