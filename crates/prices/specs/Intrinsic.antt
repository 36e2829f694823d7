-- intrinsic.rs, operation by operation. Definitions only.
use Rattle.std.specs.Prelude.{cond, Float}
use Rattle.std.specs.Float.Ieee.{le, lt}
use Rattle.elementary.specs.Ops.{◌⊕◌, ◌⊖◌, ◌⊗◌, ◌⊘◌, bits, float, +0, half, one}
use Rattle.elementary.specs.Methods.{max_of}
use Rattle.elementary.specs.Exp.{exp_of}
use Rattle.prices.specs.declared.inputs.OptionType.{OptionType}
use Rattle.prices.specs.Inputs.{times}

-- 98 × 0.0001220703125
abbrev pub NORMALISED_X2_THRESHOLD : Float
NORMALISED_X2_THRESHOLD = bits 0x3f88_8000_0000_0000  -- 0.011962890625

-- near the money, a Taylor sum in x²
abbrev pub near_intrinsic : Float → OptionType → Float
near_intrinsic x kind =
    let x2 = x ⊗ x in
    max_of (times kind x ⊗ (one ⊕ x2 ⊗ (one ⊘ float 24 ⊕ x2 ⊗ (one ⊘ float 1920 ⊕ x2 ⊗ (one ⊘ float 322560 ⊕ one ⊘ float 92897280 ⊗ x2))))) +0

-- elsewhere, exp(x / 2) less its reciprocal
abbrev pub far_intrinsic : Float → OptionType → Float
far_intrinsic x kind =
    let b_max = exp_of (half ⊗ x) in
    max_of (times kind (b_max ⊖ one ⊘ b_max)) +0

-- normalised_intrinsic: 0 where the kind is not in the money
unfoldable pub intrinsic_of : Float → OptionType → Float
intrinsic_of x kind =
    let near = near_intrinsic x kind in
    let far = far_intrinsic x kind in
    cond (le (times kind x) +0) +0 (cond (lt (x ⊗ x) NORMALISED_X2_THRESHOLD) near far)
