-- What C is promised of a number that no rule set has (document 02's ticket 2). Statements only.
use Rattle.std.specs.Prelude.{◌≡◌, List, ℕ, ◌<◌, ℤ, Result, length}
use Rattle.elementary.specs.RuleSets.{rule_set_of}
use Rattle.prices.specs.declared.inputs.UnknownKind.{UnknownKind}
use Rattle.solver.specs.declared.quote.Quote.{Quote}
use Rattle.solver.specs.declared.quote.QuoteRange.{QuoteRange}
use Rattle.solver.specs.Answers.{number_in, target_number, range_number_in, filing_number}
use Rattle.solver.specs.Solve.{SolveResult}
use Rattle.solver.specs.BidAsk.{RangeResult}
use Rattle.solver.specs.Book.{FileResult}
use Rattle.solver.specs.Trail.{trail_after}
use Rattle.abi.specs.Solutions.{solve_with_trail_for, solve_for, target_for, file_for, solve_range_with_trails_for, solve_range_for}

-- Whatever else is asked, a kind that is none included, 32 refuses it, and trails and book stay as they were. Where recheck says 32 is `RecheckOrder` of the solver.
pub record RefusedWith32 (number : ℕ) : Type 0 where
  pub solve : (asked : Result Quote UnknownKind) (n : ℕ) → number_in (solve_for (rule_set_of number) asked n) ≡ 32
  pub solve_with_trail : (asked : Result Quote UnknownKind) (limit : ℤ) (trail : List ℕ)
      → let w : SolveResult = solve_with_trail_for (rule_set_of number) asked limit (length trail) in (number_in w.answer ≡ 32) × (trail_after w.records trail ≡ trail)
  pub target : (asked : Result Quote UnknownKind) → target_number (target_for (rule_set_of number) asked) ≡ 32
  pub range : (asked : Result QuoteRange UnknownKind) (limit : ℤ) → range_number_in (solve_range_for (rule_set_of number) asked limit) ≡ 32
  pub range_with_trails : (asked : Result QuoteRange UnknownKind) (limit : ℤ) (low high : List ℕ)
      → let w : RangeResult = solve_range_with_trails_for (rule_set_of number) asked limit low high in (range_number_in w.answer ≡ 32) × (w.low ≡ low) × (w.high ≡ high)
  pub file : (asked : Result Quote UnknownKind) (limit : ℤ) (book : List ℕ) (used : ℕ)
      → let w : FileResult = file_for (rule_set_of number) asked limit book used in (filing_number w.answer ≡ 32) × (w.book ≡ book)

-- every number above 1 is such
abbrev pub UnknownRuleSets : Type 0
UnknownRuleSets = (number : ℕ) → 1 < number → RefusedWith32 number
