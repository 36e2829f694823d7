-- solve: `implied_volatility_from_a_transformed_rational_guess_with_limited_iterations` with document 01's refusals. Definitions only.
use Rattle.std.specs.Prelude.{Bool, false, cond, List, [], ℕ, ◌*◌, length, ltb, ℤ, pos, negsuc, Float, ⊤, Result, Ok, Err, None, Some}
use Rattle.std.specs.Float.{binary64}
use Rattle.std.specs.Float.Ieee.{lt, le}
use Rattle.elementary.specs.Ops.{◌⊖◌, ◌⊗◌, ◌⊘◌, +0, MAX, MIN}
use Rattle.elementary.specs.declared.rule_set.RuleSet.{RuleSet}
use Rattle.elementary.specs.Methods.{max_of}
use Rattle.elementary.specs.Sqrt.{sqrt_of}
use Rattle.elementary.specs.Ln.{ln_of}
use Rattle.prices.specs.declared.inputs.OptionType.{OptionType}
use Rattle.prices.specs.declared.inputs.OptionType.TheVariants.{Call, Put}
use Rattle.prices.specs.Inputs.{negated, times}
use Rattle.prices.specs.declared.refusal.Refusal.{Refusal as Unpriced}
use Rattle.prices.specs.declared.refusal.Refusal.TheVariants.{Forward, Strike, Expiry}
use Rattle.prices.specs.Black.{is_positive_normal, is_finite}
use Rattle.solver.specs.declared.quote.Quote.{Quote}
use Rattle.solver.specs.declared.state.State.{State}
use Rattle.solver.specs.declared.state.Record.{Record}
use Rattle.solver.specs.declared.refusal.Refusal.{Refusal}
use Rattle.solver.specs.declared.refusal.Refusal.TheVariants.{Price, Pricing, TrailTooShort}
use Rattle.solver.specs.declared.answers.Branch.{Branch}
use Rattle.solver.specs.declared.answers.Branch.TheVariants.{NoLoop}
use Rattle.solver.specs.declared.answers.Ending.{Ending as CodeEnding}
use Rattle.solver.specs.declared.answers.Ending.TheVariants.{NoLoop as Unlooped, StepTest, Limit}
use Rattle.solver.specs.Answers.{Solution, Target, at_once}
use Rattle.solver.specs.Loop.{Ending, by_test, by_limit, by_refusal, Run, run}
use Rattle.solver.specs.Step.{next_by}
use Rattle.solver.specs.Guess.{Start, answered, stopped, looping, normalised_start}

-- ---- before the loops

-- a volatility over one unit of time, as one over the expiry
abbrev pub over_expiry : Float → Start → Start
over_expiry expiry (answered v) = answered (v ⊘ sqrt_of binary64 expiry)
over_expiry expiry (stopped refusal) = stopped refusal
over_expiry expiry (looping branch beta step st) = looping branch beta step st

-- the price from which on no volatility is looked for: the strike for a Call and the forward for a Put, as in the Rust, or by the textbook the other one
abbrev pub cap_of : RuleSet → OptionType → Float → Float → Float
cap_of set Call forward strike = cond set.textbook_cap forward strike
cap_of set Put forward strike = cond set.textbook_cap strike forward

-- the price below which no volatility is looked for
abbrev pub intrinsic_in : Quote → Float
intrinsic_in q = max_of (times q.option_type (q.forward ⊖ q.strike)) +0

-- where a run starts from a price that is not below the intrinsic value and below the cap; in the money from what it is above the intrinsic value, as the other kind's
abbrev pub start_between : RuleSet → Quote → Start
start_between set q =
    let kind = q.option_type in
    let x = ln_of (q.forward ⊘ q.strike) in
    let root = sqrt_of binary64 q.forward ⊗ sqrt_of binary64 q.strike in
    let direct = over_expiry q.expiry (normalised_start set (q.price ⊘ root) x kind) in
    let mapped = over_expiry q.expiry (normalised_start set (max_of (q.price ⊖ intrinsic_in q) +0 ⊘ root) x (negated kind)) in
    cond (lt +0 (times kind x)) mapped direct

-- The two sentinels that are found before normalising are reported as they are; what is answered after it is divided by √expiry, an above-maximum sentinel too.
unfoldable pub accepted_start : RuleSet → Quote → Start
accepted_start set q =
    let between = start_between set q in
    cond (lt q.price (intrinsic_in q)) (answered MIN) (cond (le (cap_of set q.option_type q.forward q.strike) q.price) (answered MAX) between)

-- ---- the checks of the input: each passes, or refuses

abbrev pub Check : Type 0
Check = Result ⊤ Refusal

-- the first check that refuses
abbrev pub and_then : Check → Check → Check
and_then (Ok passed) next = next
and_then (Err refusal) next = Err refusal

-- 1
abbrev pub price_check : Float → Check
price_check price = cond (is_finite price) (Ok tt) (Err Price)

-- 2, 3, 4 in this order
unfoldable pub market_check : Float → Float → Float → Result ⊤ Unpriced
market_check forward strike expiry = cond (is_positive_normal forward) (cond (is_positive_normal strike) (cond (is_positive_normal expiry) (Ok tt) (Err Expiry)) (Err Strike)) (Err Forward)

-- as one of this layer's checks
abbrev pub passed_up : Result ⊤ Unpriced → Check
passed_up (Ok passed) = Ok passed
passed_up (Err refusal) = Err (Pricing refusal)

-- 1, 2, 3, 4 in this order
abbrev pub input_check : Quote → Check
input_check q = and_then (price_check q.price) (passed_up (market_check q.forward q.strike q.expiry))

-- what is answered where a check passes, or where it refuses
abbrev pub by_check : {A : Type 0} → Check → A → (Refusal → A) → A
by_check (Ok passed) answer refused = answer
by_check (Err refusal) answer refused = refused refusal

-- 1 to 4, then 21 where the trail is too short
unfoldable pub start_of : RuleSet → Bool → Quote → Start
start_of set short q =
    let accepted = accepted_start set q in
    by_check (input_check q) (cond short (stopped TrailTooShort) accepted) stopped

-- what a loop seeks: the target that its start has
abbrev pub target_in : Start → Target
target_in (answered v) = Ok None
target_in (stopped refusal) = Err refusal
target_in (looping branch beta step st) = Ok (Some beta)

-- of a quote's loop
unfoldable pub target_of : RuleSet → Quote → Target
target_of set q = target_in (start_of set false q)

-- ---- the run

-- a run's records, and what it answers
pub record SolveResult : Type 0 where
  pub records : List Record
  pub answer : Solution

-- a volatility with its branch, ending and steps
abbrev pub solution_of : Float → Branch → CodeEnding → ℕ → Solution
solution_of v branch ending steps = Ok (record { volatility = v; branch = branch; ending = ending; steps = steps })

-- a refusal met inside the loop comes with the completed steps
abbrev pub answer_of : Branch → Float → Ending State → ℕ → Solution
answer_of branch root (by_test st) steps = solution_of (st.s ⊘ root) branch StepTest steps
answer_of branch root (by_limit st) steps = solution_of (st.s ⊘ root) branch Limit steps
answer_of branch root (by_refusal refusal) steps = Err (record { refusal = Pricing refusal; steps = steps })

-- what a loop's run records and answers
abbrev pub result_of_run : Branch → Float → Run State Record → SolveResult
result_of_run branch root w = record { records = w.records; answer = answer_of branch root w.ending (length w.records) }

-- with a limit of n steps
unfoldable pub result_from : Start → Float → ℕ → SolveResult
result_from (answered v) expiry n = record { records = []; answer = solution_of v NoLoop Unlooped 0 }
result_from (stopped refusal) expiry n = record { records = []; answer = Err (at_once refusal) }
result_from (looping branch beta step st) expiry n = result_of_run branch (sqrt_of binary64 expiry) (run (next_by step) n st)

-- solve with no trail; n is max(limit, 0)
unfoldable pub solve_of : RuleSet → Quote → ℕ → SolveResult
solve_of set q n = result_from (start_of set false q) q.expiry n

-- solve with a trail of so many bytes
unfoldable pub solve_with_trail : RuleSet → Quote → ℕ → ℕ → SolveResult
solve_with_trail set q n bytes = result_from (start_of set (ltb bytes (48 * n)) q) q.expiry n

-- the arguments of a ported function as a quote
abbrev pub quote_of : Float → Float → Float → Float → OptionType → Quote
quote_of price forward strike expiry kind = record { price = price; forward = forward; strike = strike; expiry = expiry; option_type = kind }

-- max(limit, 0)
abbrev pub steps_of : ℤ → ℕ
steps_of (pos n) = n
steps_of (negsuc n) = 0
