-- Caps by the textbook, ticket 2 of document 02: what rule set 1 changes and what it leaves, and where a recheck says that a rule set is unknown. Statements only.
use Rattle.std.specs.Prelude.{◌≡◌, true, false, List, ℕ, ◌<◌, ℤ, Float, Ok, is_ok}
use Rattle.std.specs.Float.Ieee.{lt, le}
use Rattle.elementary.specs.Ops.{bits, float, one, MAX}
use Rattle.elementary.specs.declared.rule_set.RuleSet.{RuleSet}
use Rattle.elementary.specs.RuleSets.{rule_set_0, rule_set_1, rule_set_of}
use Rattle.prices.specs.declared.inputs.OptionType.TheVariants.{Call, Put}
use Rattle.solver.specs.declared.quote.Quote.{Quote}
use Rattle.solver.specs.declared.answers.Branch.TheVariants.{NoLoop, LowerMiddle}
use Rattle.solver.specs.declared.answers.Ending.TheVariants.{NoLoop as Unlooped, Limit}
use Rattle.solver.specs.Answers.{checking_number}
use Rattle.solver.specs.Guess.{answered}
use Rattle.solver.specs.Solve.{intrinsic_in, start_between, input_check, start_of, solution_of, solve_of, quote_of}
use Rattle.solver.specs.Book.{filed_steps, filed_quote, checking_of, record_exists, record_at, recheck_of}
use Rattle.solver.specs.Promises.Demand3.{Trail, run_of}

-- ---- rule set 1

-- an input whose checks pass, and a price that is not below its intrinsic value: only such a one is looked at for a cap
abbrev pub ReachesItsCap : Quote → Type 0
ReachesItsCap q = (input_check q ≡ Ok tt) × (lt q.price (intrinsic_in q) ≡ false)

-- From its cap on it is above the maximum, without a loop; below it a run starts as rule set 0 starts one between intrinsic value and cap.
pub record CappedAt (cap : Float) (q : Quote) : Type 0 where
  pub from_it_on : le cap q.price ≡ true → start_of rule_set_1 false q ≡ answered MAX
  pub below_it : le cap q.price ≡ false → start_of rule_set_1 false q ≡ start_between rule_set_0 q

pub record TextbookCaps : Type 0 where
  -- a Call is capped at the forward, a Put at the strike
  pub call : (q : Quote) → q.option_type ≡ Call → ReachesItsCap q → CappedAt q.forward q
  pub put : (q : Quote) → q.option_type ≡ Put → ReachesItsCap q → CappedAt q.strike q
  -- Any other run is rule set 0's, the whole solution and each record of the trail;
  pub elsewhere : (q : Quote) (n : ℤ) (t : Trail) → (ReachesItsCap q → ⊥) → run_of rule_set_1 q n t ≡ run_of rule_set_0 q n t
  -- and so is each run of a price that is below both caps.
  pub below_both : (q : Quote) (n : ℤ) (t : Trail) → lt q.price q.forward ≡ true → lt q.price q.strike ≡ true → run_of rule_set_1 q n t ≡ run_of rule_set_0 q n t

-- the student's Call
abbrev pub students_call : Quote
students_call = quote_of (float 120) (float 200) (float 100) one Call

-- It is reported above maximum under rule set 0; under rule set 1 its volatility is 1.0239178607411308 after two steps.
pub record StudentsCall : Type 0 where
  pub by_rule_set_0 : (solve_of rule_set_0 students_call 2).answer ≡ solution_of MAX NoLoop Unlooped 0
  pub by_rule_set_1 : (solve_of rule_set_1 students_call 2).answer ≡ solution_of (bits 0x3ff0_61f7_b1da_c668) LowerMiddle Limit 2

-- ---- recheck under a rule set's number

-- 23, 24, then 32 for a number above 1; else what solve says of the record's own quote under that rule set.
pub record RecheckedInOrder (number : ℕ) (book : List ℕ) (used k : ℕ) : Type 0 where
  pub no_record : record_exists book used k ≡ false → checking_number (recheck_of number book used k) ≡ 23
  pub outside_the_layout : record_exists book used k ≡ true → is_ok (filed_quote (record_at k book)) ≡ false → checking_number (recheck_of number book used k) ≡ 24
  pub unknown : record_exists book used k ≡ true → is_ok (filed_quote (record_at k book)) ≡ true → 1 < number → checking_number (recheck_of number book used k) ≡ 32
  pub known : (set : RuleSet) (q : Quote) → record_exists book used k ≡ true → filed_quote (record_at k book) ≡ Ok q → rule_set_of number ≡ Ok set
      → let r = record_at k book in recheck_of number book used k ≡ checking_of r (solve_of set q (filed_steps r)).answer

abbrev pub RecheckOrder : Type 0
RecheckOrder = (number : ℕ) (book : List ℕ) (used k : ℕ) → RecheckedInOrder number book used k
