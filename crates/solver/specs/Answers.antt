-- What an answer says: document 01's number and 02's, 0 where there is none, and its values. Definitions only.
use Rattle.std.specs.Prelude.{Bool, false, ℕ, Float, Result, Ok, Err, Option, None, Some}
use Rattle.std.specs.Float.{nan}
use Rattle.prices.specs.Answers.{number as pricing_number, number_by}
use Rattle.solver.specs.declared.refusal.Refusal.{Refusal}
use Rattle.solver.specs.declared.refusal.Refusal.TheVariants.{Price, Pricing, TrailTooShort, BookFull, NoSuchRecord, OutsideTheLayout, LowAboveHigh, UnknownRuleSet}
use Rattle.solver.specs.declared.refusal.Failure.{Failure}
use Rattle.solver.specs.declared.answers.Branch.{Branch}
use Rattle.solver.specs.declared.answers.Branch.TheVariants.{NoLoop, Lower, LowerMiddle, UpperMiddle, Upper, UpperRest}
use Rattle.solver.specs.declared.answers.Ending.{Ending}
use Rattle.solver.specs.declared.answers.Ending.TheVariants.{NoLoop as Unlooped, StepTest, Limit}
use Rattle.solver.specs.declared.answers.ImpliedVolatility.{ImpliedVolatility}
use Rattle.solver.specs.declared.answers.Ends.{Ends}

-- a refusal's number
abbrev pub number : Refusal → ℕ
number Price = 1
number (Pricing refusal) = pricing_number refusal
number TrailTooShort = 21
number BookFull = 22
number NoSuchRecord = 23
number OutsideTheLayout = 24
number LowAboveHigh = 31
number UnknownRuleSet = 32

-- a branch's
abbrev pub branch_number : Branch → ℕ
branch_number NoLoop = 0
branch_number Lower = 1
branch_number LowerMiddle = 2
branch_number UpperMiddle = 3
branch_number Upper = 4
branch_number UpperRest = 5

-- an ending's
abbrev pub ending_number : Ending → ℕ
ending_number Unlooped = 0
ending_number StepTest = 1
ending_number Limit = 2

-- a failure's number is its refusal's
abbrev pub failure_number : Failure → ℕ
failure_number failure = number failure.refusal

-- refused before a loop
abbrev pub at_once : Refusal → Failure
at_once refusal = record { refusal = refusal; steps = 0 }

-- ---- solve's

abbrev pub Solution : Type 0
Solution = Result ImpliedVolatility Failure

-- 0 where it answers
abbrev pub number_in : Solution → ℕ
number_in = number_by failure_number

-- a refusal has none; NaN stands for it
abbrev pub volatility_in : Solution → Float
volatility_in (Ok a) = a.volatility
volatility_in (Err failure) = nan

-- 0 where it is refused
abbrev pub branch_in : Solution → ℕ
branch_in (Ok a) = branch_number a.branch
branch_in (Err failure) = 0

-- 0 where it is refused
abbrev pub ending_in : Solution → ℕ
ending_in (Ok a) = ending_number a.ending
ending_in (Err failure) = 0

-- the completed steps
abbrev pub steps_in : Solution → ℕ
steps_in (Ok a) = a.steps
steps_in (Err failure) = failure.steps

-- ---- the bid and ask call's

abbrev pub RangeSolution : Type 0
RangeSolution = Result Ends Refusal

-- 0 where both ends have a solution
abbrev pub range_number_in : RangeSolution → ℕ
range_number_in = number_by number

-- each end's solution; what refuses the call refuses both
abbrev pub low_in : RangeSolution → Solution
low_in (Ok ends) = ends.low
low_in (Err refusal) = Err (at_once refusal)

abbrev pub high_in : RangeSolution → Solution
high_in (Ok ends) = ends.high
high_in (Err refusal) = Err (at_once refusal)

-- ---- file's

-- the used count after it
abbrev pub Filing : Type 0
Filing = Result ℕ Failure

-- 0 where it files
abbrev pub filing_number : Filing → ℕ
filing_number = number_by failure_number

-- the used count after it; 0 where it is refused
abbrev pub filing_used : Filing → ℕ
filing_used (Ok used) = used
filing_used (Err failure) = 0

-- the completed steps of a refused solve; 0 where it files
abbrev pub filing_steps : Filing → ℕ
filing_steps (Ok used) = 0
filing_steps (Err failure) = failure.steps

-- ---- recheck's

-- whether what is filed agrees
abbrev pub Checking : Type 0
Checking = Result Bool Failure

-- 0 where it says yes or no
abbrev pub checking_number : Checking → ℕ
checking_number = number_by failure_number

-- it says yes
abbrev pub checking_agrees : Checking → Bool
checking_agrees (Ok agrees) = agrees
checking_agrees (Err failure) = false

-- the completed steps of a refused solve
abbrev pub checking_steps : Checking → ℕ
checking_steps (Ok agrees) = 0
checking_steps (Err failure) = failure.steps

-- ---- target's

-- what a loop seeks, if there is one
abbrev pub Target : Type 0
Target = Result (Option Float) Refusal

-- 0 where there is a target or no loop
abbrev pub target_number : Target → ℕ
target_number = number_by number

-- NaN where there is none
abbrev pub target_value : Target → Float
target_value (Ok (Some beta)) = beta
target_value (Ok None) = nan
target_value (Err refusal) = nan
