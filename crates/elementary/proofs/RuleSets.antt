-- What a rule set's number says. Assumes nothing.
use mathlib.Core.Path.{◌≡◌}
use Prim.Native.Nat.{ℕ, ◌<◌}
use native.Mathlib.Omega.{arith}
use borrow.Author.Tests.{ne_eqb}
use Rattle.std.specs.Prelude.{Err}
use Rattle.elementary.specs.RuleSets.{rule_set_of}

-- no rule set has a number above 1
pub unknown_above_1 : (number : ℕ) → 1 < number → rule_set_of number ≡ Err (record {})
unknown_above_1 number h = rw (ne_eqb number 0 (λ e. omega arith), ne_eqb number 1 (λ e. omega arith))
