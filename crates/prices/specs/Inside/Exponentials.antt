-- Prices over given exponentials, since the solver computes those of x once for every s: up stands for exp(x / 2), down for exp(−x / 2), exp-term for the bell
-- of h and t. Definitions only.
use Rattle.std.specs.Prelude.{cond, Float, Ok}
use Rattle.std.specs.Float.Ieee.{neg, lt}
use Rattle.elementary.specs.Ops.{◌⊕◌, ◌⊖◌, ◌⊗◌, ◌⊘◌, +0, half}
use Rattle.elementary.specs.declared.rule_set.RuleSet.{RuleSet}
use Rattle.elementary.specs.Methods.{max_of}
use Rattle.elementary.specs.Exp.{exp_of}
use Rattle.elementary.specs.Cody.{erfc_of, erfcx_of}
use Rattle.prices.specs.declared.inputs.OptionType.TheVariants.{Call}
use Rattle.prices.specs.Answers.{Answer}
use Rattle.prices.specs.Intrinsic.{intrinsic_of}
use Rattle.prices.specs.Black.{CODYS_THRESHOLD, MINUS_FRAC, bell, small_t_of, asymptotic_of, call_of}
use Rattle.prices.specs.Inside.Regions.{region_at, in_region}

-- exp(x / 2)
abbrev pub up_of : Float → Float
up_of x = exp_of (half ⊗ x)

-- exp(−x / 2)
abbrev pub down_of : Float → Float
down_of x = exp_of (neg half ⊗ x)

-- two_b of codys_of
unfoldable pub two_b_with : RuleSet → Float → Float → Float → Float → Float → Float
two_b_with set up down exp_term q1 q2 =
    let both_erfc = up ⊗ erfc_of set q1 ⊖ down ⊗ erfc_of set q2 in
    let second_erfcx = up ⊗ erfc_of set q1 ⊖ exp_term ⊗ erfcx_of q2 in
    let first_erfcx = exp_term ⊗ erfcx_of q1 ⊖ down ⊗ erfc_of set q2 in
    let both_erfcx = exp_term ⊗ (erfcx_of q1 ⊖ erfcx_of q2) in
    cond (lt q1 CODYS_THRESHOLD) (cond (lt q2 CODYS_THRESHOLD) both_erfc second_erfcx) (cond (lt q2 CODYS_THRESHOLD) first_erfcx both_erfcx)

-- codys_of
unfoldable pub codys_with : RuleSet → Float → Float → Float → Float → Float
codys_with set up down x s =
    let h = x ⊘ s in
    let t = half ⊗ s in
    max_of (half ⊗ two_b_with set up down (bell h t) (MINUS_FRAC ⊗ (h ⊕ t)) (MINUS_FRAC ⊗ (h ⊖ t))) +0

-- out_of_the_money
unfoldable pub out_of_the_money_with : RuleSet → Float → Float → Float → Float → Answer
out_of_the_money_with set up down x s =
    in_region (region_at x s) (Ok (intrinsic_of x Call)) (asymptotic_of (x ⊘ s) (half ⊗ s)) (small_t_of (x ⊘ s) (half ⊗ s)) (Ok (codys_with set up down x s))

-- call_of; in the money the exponentials of x are not asked for
abbrev pub call_with : RuleSet → Float → Float → Float → Float → Answer
call_with set up down x s =
    let mapped = call_of set x s in
    let direct = out_of_the_money_with set up down x s in
    cond (lt +0 x) mapped direct
