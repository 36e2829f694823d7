-- The normal distribution, normal_distribution.rs over document 01's rules. Definitions only.
use Rattle.std.specs.Prelude.{true, false, cond, ℕ, zero, suc, Float}
use Rattle.std.specs.Float.{nan, inf}
use Rattle.std.specs.Float.Ieee.{neg, lt, le, ne}
use Rattle.elementary.specs.Ops.{◌⊕◌, ◌⊗◌, bits, +0, half, one, two}
use Rattle.elementary.specs.declared.rule_set.RuleSet.{RuleSet}
use Rattle.elementary.specs.Cody.{erfc_of}

-- 1 / √2, std's
abbrev pub FRAC_1_SQRT_2 : Float
FRAC_1_SQRT_2 = bits 0x3fe6_a09e_667f_3bcd  -- 0.7071067811865476

-- the cdf
unfoldable pub cdf_of : RuleSet → Float → Float
cdf_of set y = half ⊗ erfc_of set (neg y ⊗ FRAC_1_SQRT_2)

-- ---- the bisection behind the inverse, over any cdf

-- the two ends between which the result lies
pub record Ends : Type 0 where
  pub lo : Float
  pub hi : Float

-- the middle
abbrev pub mid_of : Float → Float → Float
mid_of lo hi = half ⊗ (lo ⊕ hi)

-- n times the middle becomes lo if its cdf is below p, else hi
unfoldable pub bisection_ends : (Float → Float) → ℕ → Float → Float → Float → Ends
bisection_ends cdf zero p lo hi = record { lo = lo; hi = hi }
bisection_ends cdf (suc n) p lo hi =
    let mid = mid_of lo hi in
    let below = lt (cdf mid) p in
    bisection_ends cdf n p (cond below mid lo) (cond below hi mid)

-- the first ends
abbrev pub lowest : Float
lowest = neg (bits 0x4043_8000_0000_0000)  -- −39

abbrev pub highest : Float
highest = bits 0x4043_8000_0000_0000  -- 39

-- the ends after the 64 steps
unfoldable pub ends_of : RuleSet → Float → Ends
ends_of set p = bisection_ends (cdf_of set) 64 p lowest highest

-- the inverse cdf
unfoldable pub inverse_of : RuleSet → Float → Float
inverse_of set p =
    let inside = (ends_of set p).hi in
    cond (ne p p) nan
    (cond (le p +0) (inf true)
    (cond (le one p) (inf false)
    inside))

-- inverse_f_upper_map
unfoldable pub inverse_f_upper_map_of : RuleSet → Float → Float
inverse_f_upper_map_of set f = neg two ⊗ inverse_of set f
