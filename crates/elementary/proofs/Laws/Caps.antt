-- No rule of this layer looks at where a price is capped: rule sets that differ in that alone have the same functions. Assumes nothing.
use mathlib.Core.Path.{◌≡◌, refl, ap, fun_ext}
use mathlib.Core.Bool.{Bool}
use lib.Ieee.{Float}
use Rattle.elementary.specs.declared.rule_set.RuleSet.{RuleSet}
use Rattle.elementary.specs.Cody.{erfc_abs, erfc_of}
use Rattle.elementary.specs.NormalDistribution.{bisection_ends, cdf_of, lowest, highest, ends_of, inverse_of, inverse_f_upper_map_of}

-- a rule set with this cap
abbrev pub capped : Bool → RuleSet → RuleSet
capped cap set = record { textbook_cap = cap; far_factor = set.far_factor }

module _ (cap : Bool) (set : RuleSet) where
  pub erfc_alike : (x : Float) → erfc_of (capped cap set) x ≡ erfc_of set x
  unfolding erfc_of erfc_abs
  erfc_alike x = refl

  pub cdf_alike : (y : Float) → cdf_of (capped cap set) y ≡ cdf_of set y
  unfolding cdf_of
  cdf_alike y = rw (erfc_alike _)

  ends_alike : (p : Float) → ends_of (capped cap set) p ≡ ends_of set p
  unfolding ends_of
  ends_alike p = ap (λ (cdf : Float → Float). bisection_ends cdf 64 p lowest highest) (fun_ext cdf_alike)

  pub inverse_alike : (p : Float) → inverse_of (capped cap set) p ≡ inverse_of set p
  unfolding inverse_of
  inverse_alike p = rw (ends_alike p)

  pub inverse_f_upper_map_alike : (f : Float) → inverse_f_upper_map_of (capped cap set) f ≡ inverse_f_upper_map_of set f
  unfolding inverse_f_upper_map_of
  inverse_f_upper_map_alike f = rw (inverse_alike f)
