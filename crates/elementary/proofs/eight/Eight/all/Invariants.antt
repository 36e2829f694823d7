-- `Eight::all` meets its contract. Assumes nothing.
use Rattle.std.proofs.Common.{◌≡◌, true, ℕ, ◌<◌}
use Rattle.elementary.specs.Inside.Each.{at}
use Rattle.elementary.proofs.eight.Eight.all.Given as goal

-- those before i are done
abbrev pub invariant-loop-i : goal.invariant-loop-i
invariant-loop-i g l = l.all ≡ true → (j : ℕ) → j < l.i → goal.F-post g l.test (at j l.self) true
