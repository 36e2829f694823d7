-- black.rs, operation by operation, and `black` of mod.rs. Definitions only.
use Rattle.std.specs.Prelude.{Bool, cond, ◌&&◌, ◌||◌, ℕ, zero, suc, Float, Ok, Err}
use Rattle.std.specs.Float.{binary64}
use Rattle.std.specs.Float.Ieee.{neg, lt, le}
use Rattle.elementary.specs.Ops.{◌⊕◌, ◌⊖◌, ◌⊗◌, ◌⊘◌, bits, float, +0, half, one, two, SQRT_2PI, mul_add, MIN_POSITIVE, MAX, MIN}
use Rattle.elementary.specs.declared.rule_set.RuleSet.{RuleSet}
use Rattle.elementary.specs.Methods.{abs_of, max_of}
use Rattle.elementary.specs.Sqrt.{sqrt_of}
use Rattle.elementary.specs.Exp.{exp_of}
use Rattle.elementary.specs.Ln.{ln_of}
use Rattle.elementary.specs.Cody.{erfc_of, erfcx_of}
use Rattle.prices.specs.declared.inputs.OptionType.{OptionType}
use Rattle.prices.specs.declared.inputs.OptionType.TheVariants.{Call}
use Rattle.prices.specs.Answers.{Answer}
use Rattle.prices.specs.declared.refusal.Refusal.TheVariants.{Forward, Strike, Expiry, Sigma, OutsideAsymptoticRegion, TTooLarge}
use Rattle.prices.specs.Inputs.{negated, times}
use Rattle.prices.specs.Intrinsic.{intrinsic_of}
use Rattle.prices.specs.Vega.{ONE_OVER_SQRT_TWO_PI}

-- for H_LARGE and for ASYMPTOTIC_EXPANSION_ACCURACY_THRESHOLD
abbrev pub H_LARGE : Float
H_LARGE = bits 0xc024_0000_0000_0000  -- −10

-- 2 × 0.10566243270259357, a bound on t
abbrev pub SMALL_T : Float
SMALL_T = bits 0x3fcb_0cb1_74df_99c8  -- 0.21132486540518713

-- from it on erfcx stands for erfc
abbrev pub CODYS_THRESHOLD : Float
CODYS_THRESHOLD = bits 0x3fde_0000_0000_0000  -- 0.46875

-- −FRAC_1_SQRT_2
abbrev pub MINUS_FRAC : Float
MINUS_FRAC = bits 0xbfe6_a09e_667f_3bcd  -- −0.7071067811865476

-- ---- the three regions

-- (−0.5 × (h² + t²)).exp()
abbrev pub bell : Float → Float → Float
bell h t = exp_of (neg half ⊗ (h ⊗ h ⊕ t ⊗ t))

-- optimal use of Cody's functions: erfcx stands for erfc from the threshold on
unfoldable pub codys_of : RuleSet → Float → Float → Float
codys_of set x s =
    let h = x ⊘ s in
    let t = half ⊗ s in
    let q1 = MINUS_FRAC ⊗ (h ⊕ t) in
    let q2 = MINUS_FRAC ⊗ (h ⊖ t) in
    let both_erfc = exp_of (half ⊗ x) ⊗ erfc_of set q1 ⊖ exp_of (neg half ⊗ x) ⊗ erfc_of set q2 in
    let second_erfcx = exp_of (half ⊗ x) ⊗ erfc_of set q1 ⊖ bell h t ⊗ erfcx_of q2 in
    let first_erfcx = bell h t ⊗ erfcx_of q1 ⊖ exp_of (neg half ⊗ x) ⊗ erfc_of set q2 in
    let both_erfcx = bell h t ⊗ (erfcx_of q1 ⊖ erfcx_of q2) in
    let two_b = cond (lt q1 CODYS_THRESHOLD) (cond (lt q2 CODYS_THRESHOLD) both_erfc second_erfcx) (cond (lt q2 CODYS_THRESHOLD) first_erfcx both_erfcx) in
    max_of (half ⊗ two_b) +0

-- The terms of the Taylor sum: each is a Horner sum in h² with coefficients a × p − q, all fused.

-- the innermost bracket of a sum: a × (h² + c) − 1
abbrev pub innermost : Float → Float → ℕ → Float
innermost a h2 c = mul_add a (h2 ⊕ float c) (neg one)

-- one step further out: h² × sum + (a × p − q)
abbrev pub horner_step : Float → Float → Float → ℕ → ℕ → Float
horner_step a h2 sum p q = mul_add h2 sum (mul_add a (float p) (neg (float q)))

-- term1 to term6, with which t², t⁴ .. t¹² are multiplied
unfoldable pub term1 : Float → Float → Float
term1 a h2 = innermost a h2 3 ⊘ float 6

unfoldable pub term2 : Float → Float → Float
term2 a h2 = horner_step a h2 (innermost a h2 10) 15 7 ⊘ float 120

unfoldable pub term3 : Float → Float → Float
term3 a h2 = horner_step a h2 (horner_step a h2 (innermost a h2 21) 105 18) 105 57 ⊘ float 5040

unfoldable pub term4 : Float → Float → Float
term4 a h2 = horner_step a h2 (horner_step a h2 (horner_step a h2 (innermost a h2 36) 378 33) 1260 285) 945 561 ⊘ float 362880

unfoldable pub term5 : Float → Float → Float
term5 a h2 = horner_step a h2 (horner_step a h2 (horner_step a h2 (horner_step a h2 (innermost a h2 55) 990 52) 6930 840) 17325 4680) 10395 6555 ⊘ float 39916800

unfoldable pub term6 : Float → Float → Float
term6 a h2 =
    horner_step a h2 (horner_step a h2 (horner_step a h2 (horner_step a h2 (horner_step a h2 (innermost a h2 78) 2145 75) 25740 1926) 135135 20370) 270270 82845) 135135 89055 ⊘ float 6227020800

-- the sum over the powers of t², from the smallest term
unfoldable pub taylor_of : Float → Float → Float → Float
taylor_of a h2 t2 =
    let t4 = t2 ⊗ t2 in
    let t6 = t4 ⊗ t2 in
    let t8 = t4 ⊗ t4 in
    let t10 = t6 ⊗ t4 in
    let t12 = t6 ⊗ t6 in
    mul_add a one
    (mul_add (term1 a h2) t2 (mul_add (term2 a h2) t4 (mul_add (term3 a h2) t6 (mul_add (term4 a h2) t8 (mul_add (term5 a h2) t10 (term6 a h2 ⊗ t12))))))

-- the expansion for a small t, with no test of t
unfoldable pub small_t_inner : Float → Float → Float
small_t_inner h t =
    let t2 = t ⊗ t in
    let h2 = h ⊗ h in
    let a = one ⊕ h ⊗ (half ⊗ SQRT_2PI) ⊗ erfcx_of (MINUS_FRAC ⊗ h) in
    let y_diff = two ⊗ t ⊗ taylor_of a h2 t2 in
    let exp_term = exp_of (neg half ⊗ (h2 ⊕ t2)) in
    max_of (ONE_OVER_SQRT_TWO_PI ⊗ exp_term ⊗ y_diff) +0

-- small_t_expansion_of_normalised_black_call: 8 from the bound on
unfoldable pub small_t_of : Float → Float → Answer
small_t_of h t = let inner = small_t_inner h t in cond (le SMALL_T t) (Err TTooLarge) (Ok inner)

-- y after n more terms from i on, with the sign of the next term: the sum gets ± the term, which is then multiplied by z² over (2 i + 2) (2 i + 3).
-- The Rust also carries a factorial along, which nothing reads.
unfoldable pub series_terms : ℕ → ℕ → Float → Float → Float → Float → Float
series_terms zero i z2 y sign term = y
series_terms (suc n) i z2 y sign term =
    let factor = (two ⊗ float i ⊕ two) ⊗ (two ⊗ float i ⊕ float 3) in
    series_terms n (suc i) z2 (y ⊕ sign ⊗ term) (neg sign) (term ⊗ (z2 ⊘ factor))

-- Y(z): 1/z − 1/z³ + 3/z⁵ and the 15 terms of i from 3 to 17
unfoldable pub series_of : Float → Float
series_of z =
    let z2 = z ⊗ z in
    let y = one ⊘ z ⊖ one ⊘ (z2 ⊗ z) ⊕ float 3 ⊘ (z2 ⊗ z2 ⊗ z) in
    let term = one ⊘ (float 15 ⊗ z2 ⊗ z2 ⊗ z) in
    series_terms 15 3 z2 y (neg one) term

-- the asymptotic expansion, with no test of its region
unfoldable pub asymptotic_inner : Float → Float → Float
asymptotic_inner h t =
    let exp_term = exp_of (mul_add (neg half) (h ⊗ h) (neg half ⊗ t ⊗ t)) in
    abs_of (exp_term ⊗ (series_of (h ⊕ t) ⊖ series_of (h ⊖ t)) ⊘ SQRT_2PI)

-- outside of the asymptotic expansion's region
abbrev pub is_outside_asymptotic_region : Float → Float → Bool
is_outside_asymptotic_region h t = lt H_LARGE h || le (abs_of h ⊖ abs_of H_LARGE ⊕ SMALL_T) t

-- asymptotic_expansion_of_normalised_black_call: 7 outside of its region
unfoldable pub asymptotic_of : Float → Float → Answer
asymptotic_of h t = let inner = asymptotic_inner h t in cond (is_outside_asymptotic_region h t) (Err OutsideAsymptoticRegion) (Ok inner)

-- normalised_black_call_using_erfcx
unfoldable pub using_erfcx_of : Float → Float → Float
using_erfcx_of h t = max_of (half ⊗ bell h t ⊗ (erfcx_of (MINUS_FRAC ⊗ (h ⊕ t)) ⊖ erfcx_of (MINUS_FRAC ⊗ (h ⊖ t)))) +0

-- ---- the price

-- h below −10 and t small, by a test without a division by s
abbrev pub is_asymptotic : Float → Float → Bool
is_asymptotic x s = lt x (s ⊗ H_LARGE) && lt (half ⊗ s ⊗ s ⊕ x) (s ⊗ (SMALL_T ⊕ H_LARGE))

-- the price in the region of x and s
unfoldable pub region_of : RuleSet → Float → Float → Answer
region_of set x s =
    let asymptotic = asymptotic_of (x ⊘ s) (half ⊗ s) in
    let small_t = small_t_of (x ⊘ s) (half ⊗ s) in
    let codys = Ok (codys_of set x s) in
    cond (is_asymptotic x s) asymptotic (cond (lt (half ⊗ s) SMALL_T) small_t codys)

-- out of the money. DENORMALISATION_CUTOFF is 0, and stands where the Rust has it
unfoldable pub out_of_the_money : RuleSet → Float → Float → Answer
out_of_the_money set x s =
    let intrinsic = Ok (intrinsic_of x Call) in
    let region = region_of set x s in
    cond (le s (abs_of x ⊗ +0)) intrinsic region

-- the sum of an amount and a value; a refusal passes up
abbrev pub plus : Float → Answer → Answer
plus amount (Ok b) = Ok (amount ⊕ b)
plus amount (Err refusal) = Err refusal

-- In the money the price is the intrinsic value and the price at −x, which is out of the money: the rule calls itself once, and the depth falls.
unfoldable pub call_at : ℕ → RuleSet → Float → Float → Answer
call_at zero set x s = out_of_the_money set x s
call_at (suc depth) set x s =
    let mapped = plus (intrinsic_of x Call) (call_at depth set (neg x) s) in
    let direct = out_of_the_money set x s in
    cond (lt +0 x) mapped direct

-- normalised_black_call
abbrev pub call_of : RuleSet → Float → Float → Answer
call_of = call_at 1

-- normalised_black: a put at x is a call at −x
unfoldable pub normalised_black_of : RuleSet → Float → Float → OptionType → Answer
normalised_black_of set x s kind = call_of set (times kind x) s

-- ---- black

-- a positive normal finite number
abbrev pub is_positive_normal : Float → Bool
is_positive_normal x = le MIN_POSITIVE x && le x MAX

-- neither infinite nor NaN
abbrev pub is_finite : Float → Bool
is_finite x = le MIN x && le x MAX

-- the price is the factor times the normalised one, and not below the intrinsic value; a refusal passes up
abbrev pub price_from_normalised : Float → Float → Answer → Answer
price_from_normalised intrinsic factor (Ok b) = Ok (max_of intrinsic (factor ⊗ b))
price_from_normalised intrinsic factor (Err refusal) = Err refusal

-- black's price out of the money, of an accepted input
unfoldable pub price_of : RuleSet → Float → Float → Float → Float → OptionType → Answer
price_of set forward strike sigma expiry kind =
    let intrinsic = max_of (times kind (forward ⊖ strike)) +0 in
    let factor = sqrt_of binary64 forward ⊗ sqrt_of binary64 strike in
    price_from_normalised intrinsic factor (normalised_black_of set (ln_of (forward ⊘ strike)) (sigma ⊗ sqrt_of binary64 expiry) kind)

-- black's price of an accepted input: in the money mapped to out of the money, once
unfoldable pub black_at : ℕ → RuleSet → Float → Float → Float → Float → OptionType → Answer
black_at zero set forward strike sigma expiry kind = price_of set forward strike sigma expiry kind
black_at (suc depth) set forward strike sigma expiry kind =
    let signed_diff = times kind (forward ⊖ strike) in
    let mapped = plus (max_of signed_diff +0) (black_at depth set forward strike sigma expiry (negated kind)) in
    let direct = price_of set forward strike sigma expiry kind in
    cond (lt +0 signed_diff) mapped direct

-- black, with its refusals
unfoldable pub black_of : RuleSet → Float → Float → Float → Float → OptionType → Answer
black_of set forward strike sigma expiry kind =
    let price = black_at 1 set forward strike sigma expiry kind in
    cond (is_positive_normal forward)
    (cond (is_positive_normal strike) (cond (is_finite sigma) (cond (is_positive_normal expiry) price (Err Expiry)) (Err Sigma)) (Err Strike))
    (Err Forward)
