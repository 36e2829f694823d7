-- `Bracket::guessed_steps` meets its contract. Assumes nothing.
use Rattle.std.proofs.Common.{◌≡◌, ◌≤◌}
use Rattle.elementary.proofs.inverse.Bracket.guessed_steps.Given as goal

-- a guess that is missed changes nothing
abbrev pub invariant-loop-i : goal.invariant-loop-i
invariant-loop-i l = (l.at.question ≡ l.fn.self.question) × (l.fn.self.steps ≤ l.at.steps)
