-- Which of document 01's numbers solve answers with, and how long a line of `relist` is. Statements only.
use Rattle.std.specs.Prelude.{◌≡◌, true, ℕ, ◌<◌, ◌≤◌, ℤ, length, is_ok}
use mathlib.Core.List.{List, [], ◌∷◌, Memᴰ as OneOf}
use Rattle.solver.specs.declared.quote.Quote.{Quote}
use Rattle.elementary.specs.declared.rule_set.RuleSet.{RuleSet}
use Rattle.solver.specs.Answers.{Solution, number_in, steps_in}
use Rattle.solver.specs.Listing.{line_of}
use Rattle.solver.specs.Promises.Demand3.{Trail, LongEnough, run_of}

pub record Numbers (enough : Type 0) (a : Solution) : Type 0 where
  -- 0 where it answers, and nowhere else; else 1 to 4, 21, 6 or 7, and 21 only where the trail is too short
  pub answered : number_in a ≡ 0 → is_ok a ≡ true
  pub number : OneOf (number_in a) (0 ∷ 1 ∷ 2 ∷ 3 ∷ 4 ∷ 21 ∷ 6 ∷ 7 ∷ [])
  pub no_21 : enough → number_in a ≡ 21 → ⊥
  -- completed steps come with a refusal only at 7
  pub steps : 0 < steps_in a → OneOf (number_in a) (0 ∷ 7 ∷ [])

abbrev pub SolveNumbers : Type 0
SolveNumbers = (set : RuleSet) (q : Quote) (n : ℤ) (t : Trail) → Numbers (LongEnough n t) (run_of set q n t).answer

-- a line has at most 101 bytes, whatever the record's bytes are
abbrev pub LineLength : Type 0
LineLength = (set : RuleSet) (i : ℕ) (bytes : List ℕ) → length (line_of set i bytes) ≤ 101
