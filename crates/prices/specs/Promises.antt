-- What layer 2 promises of its rules: which number comes out and where, and that a depth of 1 is the Rust's own recursion. Statements alone; the proofs stand in
-- proofs/Promised. A number is document 01's, and 0 where there is a price.
use Rattle.std.specs.Prelude.{◌≡◌, ◌⊎◌, true, false, cond, ◌&&◌, ◌||◌, ℕ, Float, is_ok}
use Rattle.std.specs.Float.Ieee.{neg, lt, le}
use Rattle.elementary.specs.Ops.{◌⊖◌, +0}
use Rattle.elementary.specs.declared.rule_set.RuleSet.{RuleSet}
use Rattle.elementary.specs.Methods.{max_of}
use Rattle.prices.specs.declared.inputs.OptionType.{OptionType}
use Rattle.prices.specs.declared.inputs.OptionType.TheVariants.{Call}
use Rattle.prices.specs.Inputs.{negated, times}
use Rattle.prices.specs.Answers.{number_of}
use Rattle.prices.specs.Intrinsic.{intrinsic_of}
use Rattle.prices.specs.Black.{SMALL_T, small_t_of, is_outside_asymptotic_region, asymptotic_of, out_of_the_money, plus, call_of, is_positive_normal, is_finite, price_of, black_of}
use Rattle.prices.specs.RationalCubic.{is_infinite, interpolation_of}

-- ---- which number comes out

-- Small t gives 8 exactly where t ≥ 2 × 0.10566243270259357, and a price elsewhere.
abbrev pub SmallTNumber : Type 0
SmallTNumber = (h t : Float) → number_of (small_t_of h t) ≡ cond (le SMALL_T t) 8 0

-- The asymptotic expansion gives 7 exactly outside of its region, and a price elsewhere.
abbrev pub AsymptoticNumber : Type 0
AsymptoticNumber = (h t : Float) → number_of (asymptotic_of h t) ≡ cond (is_outside_asymptotic_region h t) 7 0

-- The cubic gives 6 exactly for an infinite x, x_l or x_r, and a value elsewhere.
abbrev pub CubicNumber : Type 0
CubicNumber = (x x_l x_r y_l y_r d_l d_r r : Float) → number_of (interpolation_of x x_l x_r y_l y_r d_l d_r r) ≡ cond (is_infinite x || (is_infinite x_l || is_infinite x_r)) 6 0

-- a price, or the asymptotic expansion's refusal
abbrev pub Is0Or7 : ℕ → Type 0
Is0Or7 n = (n ≡ 0) ⊎ (n ≡ 7)

-- normalised_black_call gives a price or 7: small t's 8 never passes up.
abbrev pub CallNumbers : Type 0
CallNumbers = (set : RuleSet) (x s : Float) → Is0Or7 (number_of (call_of set x s))

-- black gives a price, 2, 3, 4, 5 or 7: 6 and 8 never come out.
abbrev pub BlackNumbers : Type 0
BlackNumbers = (set : RuleSet) (forward strike sigma expiry : Float) (kind : OptionType)
    → let n = number_of (black_of set forward strike sigma expiry kind) in Is0Or7 n ⊎ ((n ≡ 2) ⊎ ((n ≡ 3) ⊎ ((n ≡ 4) ⊎ (n ≡ 5))))

-- Where the number is 0 there is a value: nothing is refused with 0.
pub record ZeroIsAValue : Type 0 where
  pub small_t : (h t : Float) → number_of (small_t_of h t) ≡ 0 → is_ok (small_t_of h t) ≡ true
  pub asymptotic : (h t : Float) → number_of (asymptotic_of h t) ≡ 0 → is_ok (asymptotic_of h t) ≡ true
  pub cubic : (x x_l x_r y_l y_r d_l d_r r : Float) → number_of (interpolation_of x x_l x_r y_l y_r d_l d_r r) ≡ 0 → is_ok (interpolation_of x x_l x_r y_l y_r d_l d_r r) ≡ true
  pub call : (set : RuleSet) (x s : Float) → number_of (call_of set x s) ≡ 0 → is_ok (call_of set x s) ≡ true
  pub black : (set : RuleSet) (forward strike sigma expiry : Float) (kind : OptionType)
      → number_of (black_of set forward strike sigma expiry kind) ≡ 0 → is_ok (black_of set forward strike sigma expiry kind) ≡ true

-- ---- which number comes first

-- black looks at its inputs in this order, and at no later one where an earlier one is refused.
pub record BlackOrder : Type 0 where
  -- 2 for a forward that is not a positive normal number
  pub forward_first : (set : RuleSet) (forward strike sigma expiry : Float) (kind : OptionType) → is_positive_normal forward ≡ false
      → number_of (black_of set forward strike sigma expiry kind) ≡ 2
  -- else 3 for such a strike
  pub then_strike : (set : RuleSet) (forward strike sigma expiry : Float) (kind : OptionType) → is_positive_normal forward ≡ true → is_positive_normal strike ≡ false
      → number_of (black_of set forward strike sigma expiry kind) ≡ 3
  -- else 5 for a sigma that is not finite
  pub then_sigma : (set : RuleSet) (forward strike sigma expiry : Float) (kind : OptionType) → is_positive_normal forward ≡ true → is_positive_normal strike ≡ true
      → is_finite sigma ≡ false → number_of (black_of set forward strike sigma expiry kind) ≡ 5
  -- else 4 for an expiry that is not a positive normal number
  pub then_expiry : (set : RuleSet) (forward strike sigma expiry : Float) (kind : OptionType) → is_positive_normal forward ≡ true → is_positive_normal strike ≡ true
      → is_finite sigma ≡ true → is_positive_normal expiry ≡ false → number_of (black_of set forward strike sigma expiry kind) ≡ 4
  -- else a price or 7
  pub else_price : (set : RuleSet) (forward strike sigma expiry : Float) (kind : OptionType) → is_positive_normal forward ≡ true → is_positive_normal strike ≡ true
      → is_finite sigma ≡ true → is_positive_normal expiry ≡ true → Is0Or7 (number_of (black_of set forward strike sigma expiry kind))

-- ---- the Rust's recursion

-- In the money normalised_black_call is the intrinsic value and its own price at −x; elsewhere it is the price out of the money.
abbrev pub CallRecursion : Type 0
CallRecursion = (set : RuleSet) (x s : Float) → call_of set x s ≡ cond (lt +0 x) (plus (intrinsic_of x Call) (call_of set (neg x) s)) (out_of_the_money set x s)

-- Call or Put times the difference of forward and strike, as black computes it
abbrev pub signed_diff : Float → Float → OptionType → Float
signed_diff forward strike kind = times kind (forward ⊖ strike)

-- black calls itself once, for the other kind, which is then out of the money.
pub record BlackRecursion : Type 0 where
  -- in the money it is the intrinsic amount and its own price of the other kind, or that one's refusal
  pub in_the_money : (set : RuleSet) (forward strike sigma expiry : Float) (kind : OptionType) → lt +0 (signed_diff forward strike kind) ≡ true
      → black_of set forward strike sigma expiry kind ≡ plus (max_of (signed_diff forward strike kind) +0) (black_of set forward strike sigma expiry (negated kind))
  -- the other kind is not in the money, so that the recursion ends there
  pub ends : (forward strike : Float) (kind : OptionType) → lt +0 (signed_diff forward strike kind) ≡ true → lt +0 (signed_diff forward strike (negated kind)) ≡ false
  -- elsewhere an accepted input has the price out of the money
  pub elsewhere : (set : RuleSet) (forward strike sigma expiry : Float) (kind : OptionType) → lt +0 (signed_diff forward strike kind) ≡ false
      → (is_positive_normal forward && (is_positive_normal strike && (is_finite sigma && is_positive_normal expiry))) ≡ true
      → black_of set forward strike sigma expiry kind ≡ price_of set forward strike sigma expiry kind
