-- The three steps of so_rational.rs, operation by operation. Definitions only.
use Rattle.std.specs.Prelude.{Bool, cond, ◌&&◌, ◌||◌, Float, Result, Ok, Err}
use Rattle.std.specs.Float.Ieee.{neg, lt, le}
use Rattle.elementary.specs.Ops.{◌⊕◌, ◌⊖◌, ◌⊗◌, ◌⊘◌, float, +0, half, one, two, EPSILON, MIN, quarter}
use Rattle.elementary.specs.declared.rule_set.RuleSet.{RuleSet}
use Rattle.elementary.specs.Methods.{abs_of, max_of, square_of}
use Rattle.elementary.specs.Ln.{ln_of}
use Rattle.prices.specs.declared.refusal.Refusal.{Refusal}
use Rattle.prices.specs.Answers.{Answer}
use Rattle.prices.specs.Vega.{vega_of}
use Rattle.prices.specs.Black.{call_of}
use Rattle.solver.specs.declared.state.State.{State}
use Rattle.solver.specs.declared.state.Bracket.{Bracket}
use Rattle.solver.specs.declared.state.Record.{Record}
use Rattle.solver.specs.declared.state.Step.{Step}
use Rattle.solver.specs.Loop.{Transition, advance, stop, by_test, by_refusal}

-- the factor that a third-order step puts on Newton's
unfoldable pub householder_factor : Float → Float → Float → Float
householder_factor newton halley hh3 = (one ⊕ half ⊗ halley ⊗ newton) ⊘ (one ⊕ newton ⊗ (halley ⊕ hh3 ⊗ newton ⊘ float 6))

-- ---- the bracket

-- The move after a price b at s: the right end becomes s where b lies above the target and s below that end; else the left end, where b lies below and s above it.
abbrev pub bracket_after : Float → Float → Float → Float → Float → Bracket
bracket_after b beta s left right =
    cond (lt beta b && lt s right) (record { left = left; right = s })
    (cond (lt b beta && lt left s) (record { left = s; right = right })
    (record { left = left; right = right }))

-- the middle of the bracket, as a step from s
abbrev pub to_middle : Bracket → Float → Float
to_middle bracket s = half ⊗ (bracket.left ⊕ bracket.right) ⊖ s

-- ---- ds of each loop

-- (x / s)² / s − s / 4
abbrev pub halley_of : Float → Float → Float
halley_of x s = square_of (x ⊘ s) ⊘ s ⊖ s ⊘ float 4

-- halley² − 3 (x / s²)² − 1/4
abbrev pub hh3_of : Float → Float → Float → Float
hh3_of halley x s = halley ⊗ halley ⊖ float 3 ⊗ square_of (x ⊘ (s ⊗ s)) ⊖ quarter

-- the lower loop, in ln b
unfoldable pub lower_ds : Float → Float → Float → Float → Float → Bracket → Float
lower_ds x beta s b bp bracket =
    let ln_b = ln_of b in
    let ln_beta = ln_of beta in
    let bpob = bp ⊘ b in
    let h = x ⊘ s in
    let b_halley = h ⊗ h ⊘ s ⊖ s ⊘ float 4 in
    let newton = (ln_beta ⊖ ln_b) ⊗ ln_b ⊘ ln_beta ⊘ bpob in
    let halley = b_halley ⊖ bpob ⊗ (one ⊕ two ⊘ ln_b) in
    let b_hh3 = b_halley ⊗ b_halley ⊖ float 3 ⊗ square_of (h ⊘ s) ⊖ quarter in
    let hh3 = b_hh3 ⊕ two ⊗ square_of bpob ⊗ (one ⊕ float 3 ⊘ ln_b ⊗ (one ⊕ one ⊘ ln_b)) ⊖ float 3 ⊗ b_halley ⊗ bpob ⊗ (one ⊕ two ⊘ ln_b) in
    let ds = newton ⊗ householder_factor newton halley hh3 in
    let middle = to_middle bracket s in
    cond (le b +0 || le bp +0) middle ds

-- the upper loop, in ln of what is left to the cap
unfoldable pub upper_ds : Float → Float → Float → Float → Float → Float → Bracket → Float
upper_ds b_max x beta s b bp bracket =
    let b_max_minus_b = b_max ⊖ b in
    let g = ln_of ((b_max ⊖ beta) ⊘ b_max_minus_b) in
    let gp = bp ⊘ b_max_minus_b in
    let b_halley = halley_of x s in
    let b_hh3 = hh3_of b_halley x s in
    let newton = neg g ⊘ gp in
    let halley = b_halley ⊕ gp in
    let hh3 = b_hh3 ⊕ gp ⊗ (two ⊗ gp ⊕ float 3 ⊗ b_halley) in
    let ds = newton ⊗ householder_factor newton halley hh3 in
    let middle = to_middle bracket s in
    cond (le b_max b || le bp MIN) middle ds

-- The general loop. Here the half-step's max binds to the factor alone, so that s may fall below its half.
unfoldable pub general_ds : Float → Float → Float → Float → Float → Bracket → Float
general_ds x beta s b bp bracket =
    let newton = (beta ⊖ b) ⊘ bp in
    let halley = halley_of x s in
    let hh3 = hh3_of halley x s in
    newton ⊗ max_of (householder_factor newton halley hh3) (neg half ⊗ s)

-- ---- s after a step

-- lower and upper loop: not below half of s
abbrev pub at_least_half : Float → Float → Float
at_least_half s ds = s ⊕ max_of ds (neg half ⊗ s)

-- general loop: the whole step
abbrev pub whole_step : Float → Float → Float
whole_step s ds = s ⊕ ds

-- ---- a step

-- from the price b and the vega at s: the bracket, ds, the record, and the state after
module _ (ds_of : Float → Float → Float → Bracket → Float) (after_of : Float → Float → Float) (beta : Float) (st : State) (b vega : Float) where
  abbrev pub bracket_of : Bracket
  bracket_of = bracket_after b beta st.s st.left st.right

  -- the step's ds
  abbrev pub ds_at : Float
  ds_at = ds_of st.s b vega bracket_of

  -- the step's record
  abbrev pub record_of : Record
  record_of = record { s = st.s; b = b; vega = vega; left = bracket_of.left; right = bracket_of.right; after = after_of st.s ds_at }

  -- the state after it
  abbrev pub state_after : State
  state_after = record { s = after_of st.s ds_at; ds = ds_at; previous = st.ds; left = bracket_of.left; right = bracket_of.right }

-- a completed step, or a refused one
abbrev pub StepResult : Type 0
StepResult = Result Step Refusal

-- the price at s may be refused
abbrev pub with_price : Answer → (Float → Step) → StepResult
with_price (Ok b) f = Ok (f b)
with_price (Err refusal) f = Err refusal

-- a step with these formulas of ds and of s after
abbrev pub step_by : (Float → Float → Float → Bracket → Float) → (Float → Float → Float) → RuleSet → Float → Float → State → StepResult
step_by ds_of after_of set x beta st = with_price (call_of set x st.s) (λ b. record { state = state_after ds_of after_of beta st b (vega_of x st.s); kept = record_of ds_of after_of beta st b (vega_of x st.s) })

-- branch 1
unfoldable pub lower_step : RuleSet → Float → Float → State → StepResult
lower_step set x beta st = step_by (lower_ds x beta) at_least_half set x beta st

-- branch 4
unfoldable pub upper_step : RuleSet → Float → Float → Float → State → StepResult
upper_step set b_max x beta st = step_by (upper_ds b_max x beta) at_least_half set x beta st

-- branches 2, 3 and 5
unfoldable pub general_step : RuleSet → Float → Float → State → StepResult
general_step set x beta st = step_by (general_ds x beta) whole_step set x beta st

-- ---- what a state leads to

-- the step test: |ds| ≤ f64::EPSILON × s
unfoldable pub is_close : State → Bool
is_close st = le (abs_of st.ds) (EPSILON ⊗ st.s)

-- a completed step goes on, a refused one ends the run
abbrev pub transition_of : StepResult → Transition State Record
transition_of (Ok taken) = advance taken.kept taken.state
transition_of (Err refusal) = stop (by_refusal refusal)

-- The test comes before the step. `iterations` stays 0 in the Rust, so its bisection after three reversals is never taken.
abbrev pub next_by : (State → StepResult) → State → Transition State Record
next_by step st = let taken = transition_of (step st) in cond (is_close st) (stop (by_test st)) taken
