-- What holds after i of the 64 steps of the inverse's bisection, with the ends lo and hi. Definitions only.
use Rattle.std.specs.Prelude.{◌≡◌, true, false, ℕ, ◌-◌, ◌≤◌, Float}
use Rattle.std.specs.Float.Ieee.{lt}
use Rattle.elementary.specs.declared.rule_set.RuleSet.{RuleSet}
use Rattle.elementary.specs.NormalDistribution.{cdf_of, bisection_ends, ends_of}

-- the ends stand on both sides of p, and the steps that are left lead to the result
pub record AfterSteps (set : RuleSet) (p lo hi : Float) (i : ℕ) : Type 0 where
  pub bound : i ≤ 64
  pub under : lt (cdf_of set lo) p ≡ true
  pub over : lt (cdf_of set hi) p ≡ false
  pub rest : ends_of set p ≡ bisection_ends (cdf_of set) (64 - i) p lo hi
