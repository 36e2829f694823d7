-- Document 01's exp, operation by operation. Definitions only.
use Rattle.std.specs.Prelude.{false, cond, ℕ, zero, suc, ◌*◌, ℤ, Float}
use Rattle.std.specs.Float.{nan, inf, fin, Format, binary64}
use Rattle.std.specs.Float.Ieee.{up, down, round, neg, lt, ne, to_signed}
use Rattle.elementary.specs.Ops.{◌⊕◌, ◌⊖◌, ◌⊗◌, ◌⊘◌, bits, float, +0, half, one, H, L}
use Rattle.elementary.specs.Floor.{floor_of}

-- above LARGEST the result is +infinity, below LEAST it is 0
abbrev pub LARGEST : Float
LARGEST = bits 0x4086_2e42_fefa_39ef  -- 709.782712893384

abbrev pub LEAST : Float
LEAST = neg (bits 0x4087_5000_0000_0000)  -- −746

abbrev pub LOG2_E : Float
LOG2_E = bits 0x3ff7_1547_652b_82fe  -- 1 / ln 2, 1.4426950408889634

-- p becomes 1 + (r × p) / i, for i from n down to 1
unfoldable pub exp_sum : ℕ → Float → Float → Float
exp_sum zero r p = p
exp_sum (suc i) r p = exp_sum i r (one ⊕ r ⊗ p ⊘ float (suc i))

-- p × 2^k, rounded once
unfoldable pub scaled : Format → Float → ℤ → Float
unfolding round
scaled f nan k = nan
scaled f (inf s) k = inf s
scaled f (fin s m e) k = round f s (m * up e * up k) (down e * down k)

-- k, the multiple of ln 2 that is taken off
abbrev pub exp_k : Float → Float
exp_k y = floor_of binary64 (y ⊗ LOG2_E ⊕ half)

-- r, what is left
abbrev pub exp_r : Float → Float
exp_r y = (y ⊖ exp_k y ⊗ H) ⊖ exp_k y ⊗ L

-- exp between its two ends
unfoldable pub exp_inner : Float → Float
exp_inner y = scaled binary64 (exp_sum 13 (exp_r y) one) (to_signed 63 (exp_k y))

-- exp
unfoldable pub exp_of : Float → Float
exp_of y =
    let inner = exp_inner y in
    cond (ne y y) nan
    (cond (lt LARGEST y) (inf false)
    (cond (lt y LEAST) +0
    inner))
