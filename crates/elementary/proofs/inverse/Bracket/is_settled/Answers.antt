-- `inverse::Bracket::is_settled` meets its contract. Assumes nothing.
use mathlib.Core.Path.{sym, ◌∙◌}
use Rattle.elementary.proofs.inverse.Laws.{ends_low, ends_high, no_steps_left}
use Rattle.elementary.proofs.inverse.Bracket.is_settled.Goals as goal
use Rattle.elementary.proofs.inverse.Bracket.is_settled.Goals.{then-self-ge64, else-self-ge64}

pub returns-then-same-clause-settled : goal.returns-then-same-clause-settled
returns-then-same-clause-settled c =
    let after = c.args.self.after_steps in
    elim c.if-self-ge64.branch [
      | then-self-ge64 w ↦ λ t. no_steps_left _ _ _ _ after w.if-self-ge64.true
      | else-self-ge64 w ↦ λ t. ends_low _ _ _ _ after (sym c.middle-mid.ensures ∙ w.same.ensures (sym w.value-is ∙ c.if-same.true))
    ]

pub returns-else-same-clause-settled : goal.returns-else-same-clause-settled
returns-else-same-clause-settled c = λ t. ends_high _ _ _ _ c.args.self.after_steps (sym c.middle-mid.ensures ∙ c.same-else-same.ensures t)
