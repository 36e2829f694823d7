-- `inverse::bisect` meets its contract. Assumes nothing.
use mathlib.Core.Path.{◌≡◌}
use Prim.Native.Nat.{◌-◌}
use Rattle.elementary.proofs.inverse.bisect.Given as goal

abbrev pub invariant-loop-near : goal.invariant-loop-near
invariant-loop-near l = (l.at.question.set ≡ l.fn.set) × (l.at.question.p ≡ l.fn.p)

abbrev pub decreases-loop-near : goal.decreases-loop-near
decreases-loop-near l = 64 - l.at.steps
