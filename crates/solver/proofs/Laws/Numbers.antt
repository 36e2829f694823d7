-- What passes up into solve: from a price no refusal but 7, from the cubic none but 6, from the input 1 to 4, and 21 where the trail is too short. Assumes nothing.
use mathlib.Core.Path.{◌≡◌, refl}
use mathlib.Core.Bool.{Bool, true, false, cond, ◌&&◌, ◌||◌}
use Prim.Native.Nat.{ℕ}
use lib.Ieee.{Float, neg, lt, le}
use Rattle.std.specs.Prelude.{Ok, Err}
use Rattle.elementary.specs.Ops.{◌⊖◌, EPSILON}
use Rattle.elementary.specs.Methods.{abs_of}
use Rattle.elementary.specs.declared.rule_set.RuleSet.{RuleSet}
use Rattle.prices.specs.declared.refusal.Refusal.{Refusal as Unpriced}
use Rattle.prices.specs.declared.refusal.Refusal.TheVariants.{Forward, Strike, Expiry, InfinitePlace, OutsideAsymptoticRegion}
use Rattle.prices.specs.Answers.{Answer}
use Rattle.prices.specs.Black.{call_of, is_positive_normal, is_finite}
use Rattle.prices.specs.RationalCubic.{is_infinite, interpolation_of}
use Rattle.prices.proofs.Laws.Refusals.{CallAnswer, price as a_price, outside_the_region, call_answer}
use Rattle.solver.specs.declared.quote.Quote.{Quote}
use Rattle.solver.specs.declared.refusal.Refusal.{Refusal}
use Rattle.solver.specs.declared.refusal.Refusal.TheVariants.{Price, Pricing, TrailTooShort}
use Rattle.solver.specs.declared.state.State.{State}
use Rattle.solver.specs.declared.state.Step.{Step}
use Rattle.solver.specs.declared.state.Bracket.{Bracket}
use Rattle.solver.specs.declared.state.MapAndDerivatives.{MapAndDerivatives}
use Rattle.solver.specs.Loop.{Ending, by_test, by_limit, by_refusal, stop, run}
use Rattle.solver.specs.Step.{StepResult, record_of, state_after, with_price, step_by, is_close, transition_of, next_by}
use Rattle.solver.specs.Guess.{SQRT_DBL_MAX, upper_f}
use Rattle.solver.specs.Solve.{Check, and_then, passed_up, input_check, market_check}
use Rattle.prices.specs.Vega.{vega_of}
use Rattle.solver.proofs.Laws.Runs.{ends_as}

-- what layer 2 says: a price is refused with nothing but 7
pub call_refusal : (set : RuleSet) (x s : Float) (r : Unpriced) → call_of set x s ≡ Err r → r ≡ OutsideAsymptoticRegion
call_refusal set x s r = go (call_answer 1 set x s)
  where
    go : {a : Answer} → CallAnswer a → a ≡ Err r → r ≡ OutsideAsymptoticRegion
    go a_price e = cc
    go outside_the_region e = cc

-- an answer with a value, or with a refusal that passes up
pub data Passes : Answer → Type 0 where
  value : {v : Float} → Passes (Ok v)
  cubic : Passes (Err InfinitePlace)
  region : Passes (Err OutsideAsymptoticRegion)

pub call_passes : (set : RuleSet) (x s : Float) → Passes (call_of set x s)
call_passes set x s = go (call_of set x s) refl
  where
    go : (a : Answer) → call_of set x s ≡ a → Passes a
    go (Ok v) e = value
    go (Err r) e = rw (call_refusal set x s r e) region

either : (c : Bool) {a b : Answer} → Passes a → Passes b → Passes (cond c a b)
either true h k = h
either false h k = k

pub cubic_passes : (x x_l x_r y_l y_r d_l d_r r : Float) → Passes (interpolation_of x x_l x_r y_l y_r d_l d_r r)
unfolding interpolation_of
cubic_passes x x_l x_r y_l y_r d_l d_r r = either (is_infinite x || (is_infinite x_l || is_infinite x_r)) cubic (either (le (abs_of (x_r ⊖ x_l)) EPSILON) value value)

pub upper_f_passes : (beta b_max b_h : Float) (m : MapAndDerivatives) → Passes (upper_f beta b_max b_h m)
upper_f_passes beta b_max b_h m = either (lt (neg SQRT_DBL_MAX) m.fpp && lt m.fpp SQRT_DBL_MAX) (cubic_passes _ _ _ _ _ _ _ _) value

-- ---- before a loop: what solve refuses with

-- what the checks refuse; `short` says whether the trail is too short
pub data Checked (short : Bool) : Refusal → Type 0 where
  price_refused : Checked short Price
  forward_refused : Checked short (Pricing Forward)
  strike_refused : Checked short (Pricing Strike)
  expiry_refused : Checked short (Pricing Expiry)
  trail_refused : short ≡ true → Checked short TrailTooShort

-- what some checks refuse, or what comes later
pub data Refused (Checks : Refusal → Type 0) : Refusal → Type 0 where
  by_a_check : {r : Refusal} → Checks r → Refused Checks r
  cubic_refused : Refused Checks (Pricing InfinitePlace)
  region_refused : Refused Checks (Pricing OutsideAsymptoticRegion)

-- no check refuses
abbrev pub NoCheck : Refusal → Type 0
NoCheck r = ⊥

-- a check passes, or refuses as one of the input's
pub data CheckForm (short : Bool) : Check → Type 0 where
  passed : CheckForm short (Ok tt)
  refused : {r : Refusal} → Checked short r → CheckForm short (Err r)

pub input_form : (short : Bool) (q : Quote) → CheckForm short (input_check q)
unfolding market_check
input_form short q = go (is_finite q.price) (is_positive_normal q.forward) (is_positive_normal q.strike) (is_positive_normal q.expiry)
  where
    check : Bool → Bool → Bool → Bool → Check
    check p f k e = and_then (cond p (Ok tt) (Err Price)) (passed_up (cond f (cond k (cond e (Ok tt) (Err Expiry)) (Err Strike)) (Err Forward)))

    go : (p f k e : Bool) → CheckForm short (check p f k e)
    go true true true true = passed
    go true true true false = refused expiry_refused
    go true true false e = refused strike_refused
    go true false k e = refused forward_refused
    go false f k e = refused price_refused

-- ---- in a loop: an ending with no refusal but 7
abbrev pub OnlySeven : Ending State → Type 0
OnlySeven (by_test st) = Unit
OnlySeven (by_limit st) = Unit
OnlySeven (by_refusal r) = r ≡ OutsideAsymptoticRegion

module _ (ds_of : Float → Float → Float → Bracket → Float) (after_of : Float → Float → Float) (set : RuleSet) (x beta : Float) where
  step_refusal : (st : State) (r : Unpriced) → step_by ds_of after_of set x beta st ≡ Err r → r ≡ OutsideAsymptoticRegion
  step_refusal st r = go (call_of set x st.s) refl
    where
      S : Float → Step
      S b = record { state = state_after ds_of after_of beta st b (vega_of x st.s); kept = record_of ds_of after_of beta st b (vega_of x st.s) }

      go : (a : Answer) → call_of set x st.s ≡ a → with_price a S ≡ Err r → r ≡ OutsideAsymptoticRegion
      go (Ok b) q e = cc
      go (Err k) q e = cc (call_refusal set x st.s k q)

  next_ends : (st : State) (e : Ending State) → next_by (step_by ds_of after_of set x beta) st ≡ stop e → OnlySeven e
  next_ends st (by_test q) h = tt
  next_ends st (by_limit q) h = tt
  next_ends st (by_refusal r) h = step_refusal st r (go (is_close st) (step_by ds_of after_of set x beta st) h)
    where
      go : (c : Bool) (w : StepResult) → cond c (stop (by_test st)) (transition_of w) ≡ stop (by_refusal r) → w ≡ Err r
      go true w e = cc
      go false (Ok taken) e = cc
      go false (Err k) e = cc

  pub loop_ends : (n : ℕ) (st : State) → OnlySeven (run (next_by (step_by ds_of after_of set x beta)) n st).ending
  loop_ends n st = ends_as (next_by (step_by ds_of after_of set x beta)) OnlySeven (λ q. tt) next_ends n st
