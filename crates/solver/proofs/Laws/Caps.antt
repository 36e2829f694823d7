-- Only accepted_start looks at where a price is capped, and there only for a price from a cap on: rule sets that differ in that alone have the same runs below
-- both caps. Assumes nothing.
use mathlib.Core.Path.{◌≡◌, refl, ap, fun_ext}
use mathlib.Core.Bool.{Bool, true, false, cond}
use lib.Ieee.{Float, lt, le}
use Rattle.std.specs.Prelude.{Ok, Err}
use Rattle.elementary.specs.Ops.{MIN}
use Rattle.elementary.proofs.Laws.Compare.{not_le_of_lt}
use Rattle.elementary.specs.declared.rule_set.RuleSet.{RuleSet}
use Rattle.elementary.proofs.Laws.Caps.{capped, cdf_alike, inverse_alike, inverse_f_upper_map_alike}
use Rattle.prices.specs.declared.inputs.OptionType.{OptionType}
use Rattle.prices.specs.declared.inputs.OptionType.TheVariants.{Call, Put}
use Rattle.prices.proofs.Laws.Caps.{call_alike}
use Rattle.solver.specs.declared.quote.Quote.{Quote}
use Rattle.solver.specs.declared.refusal.Refusal.TheVariants.{TrailTooShort}
use Rattle.solver.specs.declared.state.State.{State}
use Rattle.solver.specs.Step.{lower_step, upper_step, general_step}
use Rattle.solver.specs.Solve.{cap_of, intrinsic_in, start_between, accepted_start, Check, by_check, input_check, start_of}
use Rattle.solver.specs.Guess.{Start, answered, stopped, on_value, with_value, guessed_start, inverse_f_lower_map, upper_map, lower_map, lower_guess, upper_guess, lower_start, tail_start, upper_start, mapped_start, normalised_start}

module _ (cap : Bool) (set : RuleSet) where
  abbrev other : RuleSet
  other = capped cap set

  -- ---- the steps
  lower_step_alike : (x beta : Float) → lower_step other x beta ≡ lower_step set x beta
  unfolding lower_step
  lower_step_alike x beta = fun_ext (λ (st : State). rw (call_alike cap set x st.s))

  upper_step_alike : (b_max x beta : Float) → upper_step other b_max x beta ≡ upper_step set b_max x beta
  unfolding upper_step
  upper_step_alike b_max x beta = fun_ext (λ (st : State). rw (call_alike cap set x st.s))

  general_step_alike : (x beta : Float) → general_step other x beta ≡ general_step set x beta
  unfolding general_step
  general_step_alike x beta = fun_ext (λ (st : State). rw (call_alike cap set x st.s))

  -- ---- the guesses
  lower_map_alike : (x s : Float) → lower_map other x s ≡ lower_map set x s
  unfolding lower_map
  lower_map_alike x s = rw (cdf_alike cap set _, cdf_alike cap set _)

  upper_map_alike : (x s : Float) → upper_map other x s ≡ upper_map set x s
  unfolding upper_map
  upper_map_alike x s = rw (cdf_alike cap set _)

  inverse_lower_alike : (x f : Float) → inverse_f_lower_map other x f ≡ inverse_f_lower_map set x f
  unfolding inverse_f_lower_map
  inverse_lower_alike x f = rw (inverse_alike cap set _)

  lower_guess_alike : (x beta b_l s_l : Float) → lower_guess other x beta b_l s_l ≡ lower_guess set x beta b_l s_l
  unfolding lower_guess
  lower_guess_alike x beta b_l s_l = rw (lower_map_alike x s_l) (ap (on_value _) (fun_ext (λ (f : Float). inverse_lower_alike x _)))

  upper_guess_alike : (x beta b_max b_h s_h : Float) → upper_guess other x beta b_max b_h s_h ≡ upper_guess set x beta b_max b_h s_h
  unfolding upper_guess
  upper_guess_alike x beta b_max b_h s_h = rw (upper_map_alike x s_h) (ap (on_value _) (fun_ext (λ (f : Float). inverse_f_upper_map_alike cap set _)))

  -- ---- the starts
  lower_start_alike : (x beta s_c b_c v_c : Float) → lower_start other x beta s_c b_c v_c ≡ lower_start set x beta s_c b_c v_c
  unfolding lower_start
  lower_start_alike x beta s_c b_c v_c =
      rw (call_alike cap set x _)
      (ap (with_value _) (fun_ext (λ (b_l : Float). rw (lower_guess_alike x beta b_l _, lower_step_alike x beta, general_step_alike x beta))))

  tail_start_alike : (x beta b_max b_h s_h : Float) → tail_start other x beta b_max b_h s_h ≡ tail_start set x beta b_max b_h s_h
  unfolding tail_start
  tail_start_alike x beta b_max b_h s_h = rw (upper_guess_alike x beta b_max b_h s_h, upper_step_alike b_max x beta, general_step_alike x beta)

  upper_start_alike : (x beta b_max s_c b_c v_c : Float) → upper_start other x beta b_max s_c b_c v_c ≡ upper_start set x beta b_max s_c b_c v_c
  unfolding upper_start
  upper_start_alike x beta b_max s_c b_c v_c =
      rw (call_alike cap set x _)
      (ap (with_value _) (fun_ext (λ (b_h : Float). rw (tail_start_alike x beta b_max b_h _, general_step_alike x beta))))

  guessed_start_alike : (x beta b_max : Float) → guessed_start other x beta b_max ≡ guessed_start set x beta b_max
  guessed_start_alike x beta b_max =
      rw (call_alike cap set x _)
      (ap (with_value _) (fun_ext (λ (b_c : Float). rw (lower_start_alike x beta _ b_c _, upper_start_alike x beta b_max _ b_c _))))

  mapped_start_alike : (x beta : Float) → mapped_start other x beta ≡ mapped_start set x beta
  unfolding mapped_start
  mapped_start_alike x beta = rw (guessed_start_alike x beta _)

  normalised_start_alike : (beta x : Float) (kind : OptionType) → normalised_start other beta x kind ≡ normalised_start set beta x kind
  unfolding normalised_start
  normalised_start_alike beta x kind = mapped_start_alike _ _

-- ---- a run

pub start_between_alike : (textbook : Bool) (set : RuleSet) (q : Quote) → start_between (capped textbook set) q ≡ start_between set q
start_between_alike textbook set q = rw (normalised_start_alike textbook set _ _ _, normalised_start_alike textbook set _ _ _)

-- a price that is below the forward and below the strike is not from a cap on
below_cap : (set : RuleSet) (kind : OptionType) (price forward strike : Float) → lt price forward ≡ true → lt price strike ≡ true → le (cap_of set kind forward strike) price ≡ false
below_cap set kind price forward strike f k = go set.textbook_cap kind
  where
    go : (b : Bool) (kind : OptionType) → le (cap_of (capped b set) kind forward strike) price ≡ false
    go true Call = not_le_of_lt price forward f
    go false Call = not_le_of_lt price strike k
    go true Put = not_le_of_lt price strike k
    go false Put = not_le_of_lt price forward f

pub start_alike : (textbook : Bool) (set : RuleSet) (short : Bool) (q : Quote) → lt q.price q.forward ≡ true → lt q.price q.strike ≡ true → start_of (capped textbook set) short q ≡ start_of set short q
unfolding start_of accepted_start
start_alike textbook set short q f k =
    rw (below_cap (capped textbook set) q.option_type q.price q.forward q.strike f k, below_cap set q.option_type q.price q.forward q.strike f k, start_between_alike textbook set q)

-- where a check refuses, or the price is below the intrinsic value, no cap is looked at
pub uncapped_alike : (textbook : Bool) (set : RuleSet) (short : Bool) (q : Quote) → ((input_check q ≡ Ok tt) × (lt q.price (intrinsic_in q) ≡ false) → ⊥) → start_of (capped textbook set) short q ≡ start_of set short q
unfolding start_of accepted_start
uncapped_alike textbook set short q h = go (input_check q) (lt q.price (intrinsic_in q)) _ _ h
  where
    go : (c : Check) (b : Bool) (s s' : Start) → ((c ≡ Ok tt) × (b ≡ false) → ⊥)
        → by_check c (cond short (stopped TrailTooShort) (cond b (answered MIN) s)) stopped ≡ by_check c (cond short (stopped TrailTooShort) (cond b (answered MIN) s')) stopped
    go (Ok passed) true s s' h = refl
    go (Ok passed) false s s' h = absurd (h (refl, refl))
    go (Err refusal) b s s' h = refl
