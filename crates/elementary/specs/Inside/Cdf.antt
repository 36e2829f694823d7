-- Where the cdf of eight numbers side by side shares one exponential, and the points of the bisection's first steps. Definitions only.
use Rattle.std.specs.Prelude.{◌≡◌, Bool, true, false, ◌&&◌, ℕ, ◌+◌, ◌≤◌, T, Float}
use Rattle.std.specs.Float.{binary64}
use Rattle.std.specs.Float.Ieee.{neg, lt, le, fits}
use Rattle.elementary.specs.Ops.{◌⊖◌, ◌⊗◌, ◌⊘◌, bits, float, half, four, sixteen}
use Rattle.elementary.specs.declared.eight.Eight.{Eight}
use Rattle.elementary.specs.declared.rule_set.RuleSet.{RuleSet}
use Rattle.elementary.specs.Methods.{abs_of}
use Rattle.elementary.specs.Exp.{exp_of}
use Rattle.elementary.specs.Cody.{THRESHOLD, XBIG, negative_square, erfc_of}
use Rattle.elementary.specs.NormalDistribution.{FRAC_1_SQRT_2}
use Rattle.elementary.specs.Inside.Each.{Each, All}

-- k / 16
abbrev pub sixteenths_of : ℕ → Float
sixteenths_of k = float k ⊘ sixteen

-- exp(−t²)
abbrev pub exp_of_negative_square : Float → Float
exp_of_negative_square t = exp_of (negative_square t)

-- whether y is at least a and below b
abbrev pub is_between : Float → Float → Float → Bool
is_between a b y = le a y && lt y b

-- y lies in the sixteenth from k / 16 on, and is a float
pub record Close (k : ℕ) (y : Float) : Type 0 where
  pub test : is_between (sixteenths_of k) (sixteenths_of (k + 1)) y ≡ true
  pub of_format : T (fits binary64 y)

-- eight sizes y of arguments w that do
pub record CloseCase (k : ℕ) (w y : Eight) : Type 0 where
  pub low : 8 ≤ k
  pub sizes : Each abs_of w y
  pub close : All (Close k) y

-- y is a size of erfc's argument between its threshold and its far arm, and b says whether it is at most 4
pub record Between (b : Bool) (y : Float) : Type 0 where
  pub over : le y THRESHOLD ≡ false
  pub short : le XBIG y ≡ false
  pub side : le y four ≡ b

-- erfc's argument
abbrev pub argument_of : Float → Float
argument_of x = neg x ⊗ FRAC_1_SQRT_2

-- the cdf from it
abbrev pub half_erfc : RuleSet → Float → Float
half_erfc set w = half ⊗ erfc_of set w

-- −39 + i × 78 / 32
abbrev pub point_of : ℕ → Float
point_of i = float i ⊗ bits 0x4003_8000_0000_0000 ⊖ bits 0x4043_8000_0000_0000
