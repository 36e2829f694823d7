-- The guess of so_rational.rs, operation by operation: both maps with their two derivatives, and for each branch the first s and the starting ends.
-- Definitions only.
use Rattle.std.specs.Prelude.{Bool, true, false, cond, ◌&&◌, Float, Ok, Err}
use Rattle.std.specs.Float.{binary64}
use Rattle.std.specs.Float.Ieee.{neg, lt, le}
use Rattle.elementary.specs.Ops.{◌⊕◌, ◌⊖◌, ◌⊗◌, ◌⊘◌, bits, float, +0, half, one, two, MAX, eighth, MIN, quarter}
use Rattle.elementary.specs.declared.rule_set.RuleSet.{RuleSet}
use Rattle.elementary.specs.Methods.{abs_of, max_of, square_of}
use Rattle.elementary.specs.Sqrt.{sqrt_of}
use Rattle.elementary.specs.Exp.{exp_of}
use Rattle.elementary.specs.Ln.{cube_root_of}
use Rattle.elementary.specs.NormalDistribution.{cdf_of, inverse_of, inverse_f_upper_map_of}
use Rattle.prices.specs.declared.inputs.OptionType.{OptionType}
use Rattle.prices.specs.Answers.{Answer}
use Rattle.prices.specs.declared.rational_cubic.Side.{Side}
use Rattle.prices.specs.declared.rational_cubic.Side.TheVariants.{Left, Right}
use Rattle.prices.specs.Inputs.{times}
use Rattle.prices.specs.Intrinsic.{intrinsic_of}
use Rattle.prices.specs.Vega.{vega_of}
use Rattle.prices.specs.Black.{call_of}
use Rattle.prices.specs.RationalCubic.{interpolation_of, convex_parameter_of}
use Rattle.solver.specs.declared.state.State.{State}
use Rattle.solver.specs.declared.state.MapAndDerivatives.{MapAndDerivatives}
use Rattle.solver.specs.declared.refusal.Refusal.{Refusal}
use Rattle.solver.specs.declared.refusal.Refusal.TheVariants.{Pricing}
use Rattle.solver.specs.declared.answers.Branch.{Branch}
use Rattle.solver.specs.declared.answers.Branch.TheVariants.{Lower, LowerMiddle, UpperMiddle, Upper, UpperRest}
use Rattle.solver.specs.Step.{StepResult, lower_step, upper_step, general_step}

-- The Rust's constants, as it rounds them.
abbrev pub SQRT_DBL_MAX : Float
SQRT_DBL_MAX = bits 0x5fef_ffff_ffff_ffff  -- 1.3407807929942596e+154

abbrev pub SQRT_THREE : Float
SQRT_THREE = bits 0x3ffb_b67a_e858_4caa  -- 1.7320508075688772

abbrev pub TWO_PI_OVER_SQRT_TWENTY_SEVEN : Float
TWO_PI_OVER_SQRT_TWENTY_SEVEN = bits 0x3ff3_58e1_a79e_d7e1  -- 1.2091995761561452

abbrev pub SQRT_PI_OVER_TWO : Float
SQRT_PI_OVER_TWO = bits 0x3ff4_0d93_1ff6_2706  -- 1.2533141373155003

abbrev pub SQRT_ONE_OVER_THREE : Float
SQRT_ONE_OVER_THREE = bits 0x3fe2_79a7_4590_331c  -- 0.5773502691896257

abbrev pub PI : Float
PI = bits 0x4009_21fb_5444_2d18  -- 3.141592653589793

abbrev pub PI_OVER_SIX : Float
PI_OVER_SIX = bits 0x3fe0_c152_382d_7365  -- 0.5235987755982988

-- DENORMALISATION_CUTOFF is 0, so this never holds; it stands where the Rust has it
abbrev pub is_below_horizon : Float → Bool
is_below_horizon x = lt (abs_of x) +0

-- ---- the maps

-- s from the lower map's value
unfoldable pub inverse_f_lower_map : RuleSet → Float → Float → Float
inverse_f_lower_map set x f =
    let s = abs_of (x ⊘ (SQRT_THREE ⊗ inverse_of set (cube_root_of (f ⊘ (TWO_PI_OVER_SQRT_TWENTY_SEVEN ⊗ abs_of x))))) in
    cond (is_below_horizon f) +0 s

-- the upper map at s, and its two derivatives
unfoldable pub upper_map : RuleSet → Float → Float → MapAndDerivatives
upper_map set x s =
    let w = square_of (x ⊘ s) in
    let fp = neg half ⊗ exp_of (half ⊗ w) in
    let fpp = SQRT_PI_OVER_TWO ⊗ exp_of (w ⊕ eighth ⊗ s ⊗ s) ⊗ w ⊘ s in
    let horizon = is_below_horizon x in
    record { f = cdf_of set (neg half ⊗ s); fp = cond horizon (neg half) fp; fpp = cond horizon +0 fpp }

-- The second derivative divides by cdf(z), where the paper has the density.
unfoldable pub lower_map : RuleSet → Float → Float → MapAndDerivatives
lower_map set x s =
    let ax = abs_of x in
    let z = SQRT_ONE_OVER_THREE ⊗ ax ⊘ s in
    let y = z ⊗ z in
    let s2 = s ⊗ s in
    let phi = cdf_of set z in
    let phi' = cdf_of set (neg z) in
    let fpp =
    PI_OVER_SIX ⊗ y ⊘ (s2 ⊗ s) ⊗ phi' ⊗ (float 8 ⊗ SQRT_THREE ⊗ s ⊗ ax ⊕ (float 3 ⊗ s2 ⊗ (s2 ⊖ float 8) ⊖ float 8 ⊗ x ⊗ x) ⊗ phi' ⊘ phi) ⊗ exp_of (two ⊗ y ⊕ quarter ⊗ s2) in
    let phi2 = phi' ⊗ phi' in
    let fp = PI ⊗ two ⊗ y ⊗ phi2 ⊗ exp_of (y ⊕ eighth ⊗ s ⊗ s) in
    let f = cond (is_below_horizon x) +0 (TWO_PI_OVER_SQRT_TWENTY_SEVEN ⊗ ax ⊗ (phi2 ⊗ phi')) in
    let horizon = is_below_horizon s in
    record { f = cond horizon +0 f; fp = cond horizon one fp; fpp = fpp }

-- ---- the first s of each branch, or the cubic's refusal

-- a value goes on, a refusal passes up
unfoldable pub on_value : Answer → (Float → Float) → Answer
on_value (Ok f) g = Ok (g f)
on_value (Err refusal) g = Err refusal

-- branch 1
unfoldable pub lower_guess : RuleSet → Float → Float → Float → Float → Answer
lower_guess set x beta b_l s_l =
    let m = lower_map set x s_l in
    let r = convex_parameter_of +0 b_l +0 m.f one m.fp m.fpp true Right in
    let t = beta ⊘ b_l in
    let instead = (m.f ⊗ t ⊕ b_l ⊗ (one ⊖ t)) ⊗ t in
    on_value (interpolation_of beta +0 b_l +0 m.f one m.fp r) (λ f. inverse_f_lower_map set x (cond (le f +0) instead f))

-- between two places with their prices and vegas
unfoldable pub middle_guess : Float → Float → Float → Float → Float → Float → Float → Side → Answer
middle_guess beta b_1 b_2 s_1 s_2 v_1 v_2 side =
    let r = convex_parameter_of b_1 b_2 s_1 s_2 (one ⊘ v_1) (one ⊘ v_2) +0 false side in
    interpolation_of beta b_1 b_2 s_1 s_2 (one ⊘ v_1) (one ⊘ v_2) r

-- f stays −f64::MAX where the second derivative is too large for the cubic
abbrev pub upper_f : Float → Float → Float → MapAndDerivatives → Answer
upper_f beta b_max b_h m =
    let r = convex_parameter_of b_h b_max m.f +0 m.fp (neg half) m.fpp true Left in
    let interpolated = interpolation_of beta b_h b_max m.f +0 m.fp (neg half) r in
    cond (lt (neg SQRT_DBL_MAX) m.fpp && lt m.fpp SQRT_DBL_MAX) interpolated (Ok MIN)

-- branches 4 and 5
unfoldable pub upper_guess : RuleSet → Float → Float → Float → Float → Float → Answer
upper_guess set x beta b_max b_h s_h =
    let m = upper_map set x s_h in
    let h = b_max ⊖ b_h in
    let t = (beta ⊖ b_h) ⊘ h in
    let instead = (m.f ⊗ (one ⊖ t) ⊕ half ⊗ h ⊗ t) ⊗ (one ⊖ t) in
    on_value (upper_f beta b_max b_h m) (λ f. inverse_f_upper_map_of set (cond (le f +0) instead f))

-- ---- where a run starts

-- where a run starts
pub data Start : Type 0 where
  -- answered before a guess: branch 0, ending 0
  answered : Float → Start
  -- refused before a loop
  stopped : Refusal → Start
  -- the branch, the target, the loop's step and the state before the first one
  looping : Branch → Float → (State → StepResult) → State → Start

-- a value goes on, a refusal ends the run
unfoldable pub with_value : Answer → (Float → Start) → Start
with_value (Ok b) f = f b
with_value (Err refusal) f = stopped (Pricing refusal)

-- ds is −f64::MAX and the previous one 0 before the first step
abbrev pub start_at : Float → Float → Float → State
start_at left right s = record { s = s; ds = MIN; previous = +0; left = left; right = right }

-- below b_c
unfoldable pub lower_start : RuleSet → Float → Float → Float → Float → Float → Start
lower_start set x beta s_c b_c v_c =
    let s_l = s_c ⊖ b_c ⊘ v_c in
    with_value (call_of set x s_l) (λ b_l.
    let loop_1 = with_value (lower_guess set x beta b_l s_l) (λ s. looping Lower beta (lower_step set x beta) (start_at MIN s_l s)) in
    let loop_2 = with_value (middle_guess beta b_l b_c s_l s_c (vega_of x s_l) v_c Right) (λ s. looping LowerMiddle beta (general_step set x beta) (start_at s_l s_c s)) in
    cond (lt beta b_l) loop_1 loop_2)

-- s_h, from b_c on
abbrev pub upper_place : Float → Float → Float → Float → Float
upper_place b_max s_c b_c v_c = cond (lt MIN v_c) (s_c ⊕ (b_max ⊖ b_c) ⊘ v_c) s_c

-- above b_h
unfoldable pub tail_start : RuleSet → Float → Float → Float → Float → Float → Start
tail_start set x beta b_max b_h s_h =
    let loop_4 : Float → Start = λ s. looping Upper beta (upper_step set b_max x beta) (start_at s_h MAX s) in
    let loop_5 : Float → Start = λ s. looping UpperRest beta (general_step set x beta) (start_at s_h MAX s) in
    with_value (upper_guess set x beta b_max b_h s_h) (λ s. cond (lt (half ⊗ b_max) beta) (loop_4 s) (loop_5 s))

-- from b_c on
unfoldable pub upper_start : RuleSet → Float → Float → Float → Float → Float → Float → Start
upper_start set x beta b_max s_c b_c v_c =
    let s_h = upper_place b_max s_c b_c v_c in
    with_value (call_of set x s_h) (λ b_h.
    let loop_3 = with_value (middle_guess beta b_c b_h s_c s_h v_c (vega_of x s_h) Left) (λ s. looping UpperMiddle beta (general_step set x beta) (start_at s_c s_h s)) in
    let tail = tail_start set x beta b_max b_h s_h in
    cond (le beta b_h) loop_3 tail)

-- from the price at √(2 |x|) on
abbrev pub guessed_start : RuleSet → Float → Float → Float → Start
guessed_start set x beta b_max =
    let s_c = sqrt_of binary64 (two ⊗ abs_of x) in
    let v_c = vega_of x s_c in
    with_value (call_of set x s_c) (λ b_c.
    let lower = lower_start set x beta s_c b_c v_c in
    let upper = upper_start set x beta b_max s_c b_c v_c in
    cond (lt beta b_c) lower upper)

-- the target and x after all mapping
unfoldable pub mapped_start : RuleSet → Float → Float → Start
mapped_start set x beta =
    let b_max = exp_of (half ⊗ x) in
    let guessed = guessed_start set x beta b_max in
    cond (le beta +0) (answered +0) (cond (lt beta +0) (answered +0) (cond (le b_max beta) (answered MAX) guessed))

-- unchecked_normalised_implied_volatility_.., up to its loops
unfoldable pub normalised_start : RuleSet → Float → Float → OptionType → Start
normalised_start set beta x kind =
    let mapped = max_of (beta ⊖ intrinsic_of x kind) +0 in
    mapped_start set (times kind x) (cond (lt +0 (times kind x)) mapped beta)
