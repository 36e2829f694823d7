-- The value of a float that is made from an exponent's field f and digits t. Assumes nothing.
use mathlib.Core.Path.{◌≡◌, ap}
use mathlib.Core.Bool.{false, not}
use Prim.Native.Nat.{ℕ, ◌+◌, ◌-◌, ◌*◌, ◌/◌, ◌%◌, ◌^◌, ◌<◌}
use native.Mathlib.Omega.{arith}
use lib.Arith.{lt→nleb}
use lib.Dec.{T, leb}
use lib.Pow.{pow_pos}
use lib.Ieee.{binary64, of_bits, nan_bits}
use lib.Ieee.Exact.{HasValue}
use lib.Ieee.Bits.{is_false}
use Rattle.elementary.proofs.Laws.Bits.{no_nan_pattern}
use Rattle.elementary.proofs.Laws.Decode.{same_power}
use Rattle.elementary.proofs.Laws.Values.{revalue, recast, value_mid}

-- what is read from a pattern
record Reads (f t b : ℕ) : Type 0 where
  sign : leb (2 ^ 63) b ≡ false
  field : b % 2 ^ 63 / 2 ^ 52 ≡ f
  digits : b % 2 ^ 52 ≡ t

module _ (f t : ℕ) (h : f < 2047) (k : t < 2 ^ 52) where
  -- as the program writes it
  abbrev b : ℕ
  b = f * 2 ^ 52 % 2 ^ 64 + t

  reads : Reads f t b
  reads = record { sign = is_false _ (lt→nleb (2 ^ 63) b (omega arith)); field = omega arith; digits = omega arith }

  pub pattern_no_nan : T (not (nan_bits binary64 b))
  pattern_no_nan = no_nan_pattern b (omega arith)

  pub pattern_value : 0 < f → HasValue (of_bits binary64 b) false ((2 ^ 52 + t) * 2 ^ (f + 1329)) (2 ^ 2404)
  pattern_value p =
      let v = reads in
      revalue (of_bits binary64 b) false ((2 ^ 52 + t) * 2 ^ (f - 1)) (2 ^ 1074) ((2 ^ 52 + t) * 2 ^ (f + 1329)) (2 ^ 2404) (pow_pos 1074)
      (same_power (2 ^ 52 + t) (f - 1) 2404 (f + 1329) 1074 (omega arith))
      (recast (of_bits binary64 b) (2 ^ 1074) v.sign (ap (λ (z : ℕ). (2 ^ 52 + z) * 2 ^ (f - 1)) v.digits) (value_mid b (f - 1) (omega arith) (omega (arith, v.field))))
