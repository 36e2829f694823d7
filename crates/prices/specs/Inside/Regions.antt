-- Out of the money: which formula gives the price. Definitions only.
use Rattle.std.specs.Prelude.{cond, Float}
use Rattle.std.specs.Float.Ieee.{lt, le}
use Rattle.elementary.specs.Ops.{◌⊗◌, +0, half}
use Rattle.elementary.specs.Methods.{abs_of}
use Rattle.prices.specs.Answers.{Answer}
use Rattle.prices.specs.declared.black.Region.{Region}
use Rattle.prices.specs.declared.black.Region.TheVariants.{Intrinsic, Asymptotic, SmallT, Codys}
use Rattle.prices.specs.Black.{SMALL_T, is_asymptotic}

-- the region of x and s
abbrev pub region_at : Float → Float → Region
region_at x s = cond (le s (abs_of x ⊗ +0)) Intrinsic (cond (is_asymptotic x s) Asymptotic (cond (lt (half ⊗ s) SMALL_T) SmallT Codys))

-- the answer of a region
abbrev pub in_region : Region → Answer → Answer → Answer → Answer → Answer
in_region Intrinsic intrinsic asymptotic small_t codys = intrinsic
in_region Asymptotic intrinsic asymptotic small_t codys = asymptotic
in_region SmallT intrinsic asymptotic small_t codys = small_t
in_region Codys intrinsic asymptotic small_t codys = codys
