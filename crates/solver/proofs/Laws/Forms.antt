-- Which step each branch's loop takes, for every input: branch 1 the lower one, 4 the upper one, 2, 3 and 5 the general one. And in branches 1 and 4 the first s is a
-- value of binary64. Before a loop there is no refusal but those of Numbers. Assumes nothing.
use mathlib.Core.Path.{refl}
use mathlib.Core.Bool.{Bool, true, false, cond}
use lib.Dec.{T}
use lib.Ieee.{Float, binary64, neg, lt, le, fits}
use lib.Ieee.Fits.{mul-fits, div-fits, cond-fits}
use lib.Ieee.Bits.{of_bits-fits}
use Rattle.elementary.specs.Ops.{◌⊖◌, ◌⊗◌, ◌⊘◌, +0, half, two}
use Rattle.elementary.specs.declared.rule_set.RuleSet.{RuleSet}
use Rattle.elementary.proofs.Laws.Bits.{abs_fits}
use Rattle.elementary.specs.NormalDistribution.{inverse_of, inverse_f_upper_map_of}
use Rattle.prices.specs.Answers.{Answer}
use Rattle.solver.specs.declared.quote.Quote.{Quote}
use Rattle.solver.specs.declared.state.State.{State}
use Rattle.solver.specs.declared.refusal.Refusal.{Refusal}
use Rattle.solver.specs.declared.refusal.Refusal.TheVariants.{TrailTooShort}
use Rattle.solver.specs.declared.answers.Branch.{Branch}
use Rattle.solver.specs.declared.answers.Branch.TheVariants.{Lower, LowerMiddle, UpperMiddle, Upper, UpperRest}
use Rattle.solver.specs.Step.{StepResult, lower_step, upper_step, general_step}
use Rattle.solver.specs.Guess.{is_below_horizon, inverse_f_lower_map, on_value, lower_guess, middle_guess, upper_map, upper_guess, Start, answered, stopped, looping, with_value, lower_start, tail_start, upper_start, mapped_start, normalised_start}
use Rattle.solver.specs.Solve.{Check, by_check, over_expiry, accepted_start, start_of}
use Rattle.solver.proofs.Laws.Numbers.{Passes, value, cubic, region, call_passes, cubic_passes, upper_f_passes, Checked, trail_refused, Refused, by_a_check, cubic_refused, region_refused, CheckForm, passed, refused, input_form}

pub data LoopForm : Branch → Float → (State → StepResult) → State → Type 0 where
  lower : (set : RuleSet) (x : Float) {beta : Float} {st : State} → T (fits binary64 st.s) → LoopForm Lower beta (lower_step set x beta) st
  upper : (set : RuleSet) (b_max x : Float) {beta : Float} {st : State} → T (fits binary64 st.s) → LoopForm Upper beta (upper_step set b_max x beta) st
  lower_middle : (set : RuleSet) (x : Float) {beta : Float} {st : State} → LoopForm LowerMiddle beta (general_step set x beta) st
  upper_middle : (set : RuleSet) (x : Float) {beta : Float} {st : State} → LoopForm UpperMiddle beta (general_step set x beta) st
  upper_tail : (set : RuleSet) (x : Float) {beta : Float} {st : State} → LoopForm UpperRest beta (general_step set x beta) st

-- where a run can start, with the checks that may refuse it
pub data StartForm (Checks : Refusal → Type 0) : Start → Type 0 where
  known : {v : Float} → StartForm Checks (answered v)
  ended : {r : Refusal} → Refused Checks r → StartForm Checks (stopped r)
  loop : {branch : Branch} {beta : Float} {step : State → StepResult} {st : State} → LoopForm branch beta step st → StartForm Checks (looping branch beta step st)

module _ {Checks : Refusal → Type 0} where
  either : (c : Bool) {a b : Start} → StartForm Checks a → StartForm Checks b → StartForm Checks (cond c a b)
  either true h k = h
  either false h k = k

  with_value_lem : {a : Answer} → Passes a → (f : Float → Start) → ((v : Float) → StartForm Checks (f v)) → StartForm Checks (with_value a f)
  unfolding with_value
  with_value_lem (value {v}) f h = h v
  with_value_lem cubic f h = ended cubic_refused
  with_value_lem region f h = ended region_refused

  on_value_lem : {a : Answer} → Passes a → (g : Float → Float) (f : Float → Start) → ((v : Float) → StartForm Checks (f (g v))) → StartForm Checks (with_value (on_value a g) f)
  unfolding with_value on_value
  on_value_lem (value {v}) g f h = h v
  on_value_lem cubic g f h = ended cubic_refused
  on_value_lem region g f h = ended region_refused

lower_fits : (set : RuleSet) (x f : Float) → T (fits binary64 (inverse_f_lower_map set x f))
unfolding inverse_f_lower_map
lower_fits set x f = cond-fits binary64 (is_below_horizon f) +0 _ (of_bits-fits binary64 0) (abs_fits _ (div-fits binary64 x _))

upper_fits : (set : RuleSet) (f : Float) → T (fits binary64 (inverse_f_upper_map_of set f))
unfolding inverse_f_upper_map_of
upper_fits set f = mul-fits binary64 (neg two) (inverse_of set f)

module _ {Checks : Refusal → Type 0} where
  lower_form : (set : RuleSet) (x beta s_c b_c v_c : Float) → StartForm Checks (lower_start set x beta s_c b_c v_c)
  unfolding lower_start lower_guess middle_guess
  lower_form set x beta s_c b_c v_c =
      with_value_lem (call_passes set x (s_c ⊖ b_c ⊘ v_c)) _ (λ b_l.
      either (lt beta b_l)
      (on_value_lem (cubic_passes _ _ _ _ _ _ _ _) _ _ (λ f. loop (lower set x (lower_fits set x _))))
      (with_value_lem (cubic_passes _ _ _ _ _ _ _ _) _ (λ s. loop (lower_middle set x))))

  tail_form : (set : RuleSet) (x beta b_max b_h s_h : Float) → StartForm Checks (tail_start set x beta b_max b_h s_h)
  unfolding tail_start upper_guess
  tail_form set x beta b_max b_h s_h =
      on_value_lem (upper_f_passes beta b_max b_h (upper_map set x s_h)) _ _ (λ f.
      either (lt (half ⊗ b_max) beta) (loop (upper set b_max x (upper_fits set _))) (loop (upper_tail set x)))

  upper_form : (set : RuleSet) (x beta b_max s_c b_c v_c : Float) → StartForm Checks (upper_start set x beta b_max s_c b_c v_c)
  unfolding upper_start middle_guess
  upper_form set x beta b_max s_c b_c v_c =
      with_value_lem (call_passes set x _) _ (λ b_h.
      either (le beta b_h) (with_value_lem (cubic_passes _ _ _ _ _ _ _ _) _ (λ s. loop (upper_middle set x))) (tail_form set x beta b_max b_h _))

  mapped_form : (set : RuleSet) (x beta : Float) → StartForm Checks (mapped_start set x beta)
  unfolding mapped_start
  mapped_form set x beta =
      either (le beta +0) known
      (either (lt beta +0) known
      (either (le _ beta) known (with_value_lem (call_passes set x _) _ (λ b_c. either (lt beta b_c) (lower_form set x beta _ b_c _) (upper_form set x beta _ _ b_c _)))))

  over_form : (expiry : Float) (b : Start) → StartForm Checks b → StartForm Checks (over_expiry expiry b)
  over_form expiry (answered v) h = known
  over_form expiry (stopped r) h = h
  over_form expiry (looping branch beta step st) h = h

  pub accepted_form : (set : RuleSet) (q : Quote) → StartForm Checks (accepted_start set q)
  unfolding accepted_start normalised_start
  accepted_form set q =
      either (lt q.price _) known (either (le _ q.price) known (either (lt +0 _) (over_form q.expiry _ (mapped_form set _ _)) (over_form q.expiry _ (mapped_form set _ _))))

check_form : {short : Bool} {b : Start} {c : Check} → CheckForm short c → StartForm (Checked short) b → StartForm (Checked short) (by_check c b stopped)
check_form passed f = f
check_form (refused r) f = ended (by_a_check r)

short_form : (short : Bool) {b : Start} → StartForm (Checked short) b → StartForm (Checked short) (cond short (stopped TrailTooShort) b)
short_form true f = ended (by_a_check (trail_refused refl))
short_form false f = f

pub start_form : (set : RuleSet) (short : Bool) (q : Quote) → StartForm (Checked short) (start_of set short q)
unfolding start_of
start_form set short q = check_form (input_form short q) (short_form short (accepted_form set q))
