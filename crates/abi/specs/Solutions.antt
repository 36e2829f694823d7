-- How the answers of solve, file, recheck and read cross as plain numbers. Definitions only.
use Rattle.std.specs.Prelude.{List, [], ℕ, ◌+◌, ◌*◌, ◌^◌, ℤ, Result, Ok, Err}
use Rattle.std.specs.Result.{result_map_both}
use Rattle.std.specs.Float.{binary64}
use Rattle.std.specs.Float.Ieee.{of_bits}
use Rattle.prices.specs.declared.inputs.OptionType.{OptionType}
use Rattle.prices.specs.declared.inputs.UnknownKind.{UnknownKind}
use Rattle.prices.specs.Inputs.{kind_of}
use Rattle.solver.specs.declared.quote.Quote.{Quote}
use Rattle.solver.specs.declared.quote.QuoteRange.{QuoteRange}
use Rattle.solver.specs.declared.refusal.Refusal.{Refusal}
use Rattle.solver.specs.declared.refusal.Refusal.TheVariants.{OutsideTheLayout, UnknownRuleSet as UnknownNumber}
use Rattle.solver.specs.Answers.{at_once, Solution, RangeSolution, Filing, Checking, Target, number_in, branch_in, ending_in, steps_in, filing_number, filing_steps, checking_number, checking_agrees, checking_steps}
use Rattle.elementary.specs.declared.rule_set.RuleSet.{RuleSet}
use Rattle.elementary.specs.declared.rule_set.UnknownRuleSet.{UnknownRuleSet}
use Rattle.solver.specs.Solve.{SolveResult, solve_of, solve_with_trail, target_of, quote_of, steps_of}
use Rattle.solver.specs.BidAsk.{RangeResult, range_of, solve_range, solve_range_with_trails}
use Rattle.solver.specs.Book.{FileResult, file_of}
use Rattle.abi.specs.Bytes.{byte_of}

-- number, branch, ending and steps in one word: bytes 0, 1 and 2, and from byte 4 on the steps
abbrev pub outcome_from : ℕ → ℕ → ℕ → ℕ → ℕ
outcome_from number branch ending steps = number + branch * 256 + ending * 65536 + steps * 2 ^ 32

-- that word of solve's answer, of file's and of recheck's
abbrev pub outcome_of : Solution → ℕ
outcome_of a = outcome_from (number_in a) (branch_in a) (ending_in a) (steps_in a)

-- file answers with no branch and no ending: they are in the book
abbrev pub filing_outcome : Filing → ℕ
filing_outcome a = outcome_from (filing_number a) 0 0 (filing_steps a)

-- nor does recheck
abbrev pub checking_outcome : Checking → ℕ
checking_outcome a = outcome_from (checking_number a) 0 0 (checking_steps a)

-- 1 where it agrees, else 0
abbrev pub agrees_byte : Checking → ℕ
agrees_byte a = byte_of (checking_agrees a)

-- ---- a quote from bits and a kind's byte, under a rule set's number. A number that says no rule set is refused with 32, before all else; then a byte that says
-- no kind with document 01's number for a kind outside the layout.

-- what a caller asks, or that the byte says no kind
abbrev pub ask : {A : Type 0} → ℕ → (OptionType → A) → Result A UnknownKind
ask byte of_kind = result_map_both of_kind (λ unknown. unknown) (kind_of byte)

-- what these bits and this byte ask
abbrev pub asked_by : ℕ → ℕ → ℕ → ℕ → ℕ → Result Quote UnknownKind
asked_by price forward strike expiry kind = ask kind (λ k. quote_of (of_bits binary64 price) (of_bits binary64 forward) (of_bits binary64 strike) (of_bits binary64 expiry) k)

-- solve with a trail of so many bytes
abbrev pub solve_with_trail_for : Result RuleSet UnknownRuleSet → Result Quote UnknownKind → ℤ → ℕ → SolveResult
solve_with_trail_for (Ok set) (Ok q) limit bytes = solve_with_trail set q (steps_of limit) bytes
solve_with_trail_for (Ok set) (Err unknown) limit bytes = record { records = []; answer = Err (at_once OutsideTheLayout) }
solve_with_trail_for (Err unknown) asked limit bytes = record { records = []; answer = Err (at_once UnknownNumber) }

-- solve without a trail, for so many steps
abbrev pub solve_for : Result RuleSet UnknownRuleSet → Result Quote UnknownKind → ℕ → Solution
solve_for (Ok set) (Ok q) n = (solve_of set q n).answer
solve_for (Ok set) (Err unknown) n = Err (at_once OutsideTheLayout)
solve_for (Err unknown) asked n = Err (at_once UnknownNumber)

-- the target of its loop
abbrev pub target_for : Result RuleSet UnknownRuleSet → Result Quote UnknownKind → Target
target_for (Ok set) (Ok q) = target_of set q
target_for (Ok set) (Err unknown) = Err OutsideTheLayout
target_for (Err unknown) asked = Err UnknownNumber

-- file, into slot `used` of the book
abbrev pub file_for : Result RuleSet UnknownRuleSet → Result Quote UnknownKind → ℤ → List ℕ → ℕ → FileResult
file_for (Ok set) (Ok q) limit book used = file_of q limit book used set
file_for (Ok set) (Err unknown) limit book used = record { answer = Err (at_once OutsideTheLayout); book = book }
file_for (Err unknown) asked limit book used = record { answer = Err (at_once UnknownNumber); book = book }

-- ---- a low and a high price, likewise

-- what these bits and this byte ask
abbrev pub asked_range_by : ℕ → ℕ → ℕ → ℕ → ℕ → ℕ → Result QuoteRange UnknownKind
asked_range_by low high forward strike expiry kind =
    ask kind (λ k. range_of (of_bits binary64 low) (of_bits binary64 high) (of_bits binary64 forward) (of_bits binary64 strike) (of_bits binary64 expiry) k)

-- both ends with trails of these bytes
abbrev pub solve_range_with_trails_for : Result RuleSet UnknownRuleSet → Result QuoteRange UnknownKind → ℤ → List ℕ → List ℕ → RangeResult
solve_range_with_trails_for (Ok set) (Ok r) limit low high = solve_range_with_trails set r (steps_of limit) low high
solve_range_with_trails_for (Ok set) (Err unknown) limit low high = record { answer = Err OutsideTheLayout; low = low; high = high }
solve_range_with_trails_for (Err unknown) asked limit low high = record { answer = Err UnknownNumber; low = low; high = high }

-- without trails
abbrev pub solve_range_for : Result RuleSet UnknownRuleSet → Result QuoteRange UnknownKind → ℤ → RangeSolution
solve_range_for (Ok set) (Ok r) limit = solve_range set r (steps_of limit)
solve_range_for (Ok set) (Err unknown) limit = Err OutsideTheLayout
solve_range_for (Err unknown) asked limit = Err UnknownNumber

-- ---- read

-- where record k's part begins; 0 where there is none
abbrev pub place_of : Result (List ℕ) Refusal → ℕ → ℕ
place_of (Ok part) k = k * 64
place_of (Err refusal) k = 0
