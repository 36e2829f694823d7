-- `sqrt_aligned` meets its contract: what is above 0 is told by its bits; a field of 0 has no leading digit and counts as a field of 1. Assumes nothing.
use mathlib.Core.Path.{◌≡◌, refl, sym, ap, ◌∙◌, subst}
use mathlib.Core.Bool.{true, false, not, true≢false}
use Prim.Native.Nat.{ℕ, zero, suc, ◌+◌, ◌-◌, ◌*◌, ◌/◌, ◌%◌, ◌^◌, ◌≤◌, ◌<◌}
use native.Mathlib.Nat.{lt_of_not-le, mul-pos, mul-one}
use native.Mathlib.Omega.{arith}
use native.Mathlib.Decide.{dec_le}
use lib.Dec.{T, lt→ltb, leb}
use lib.Arith.{lt→nleb}
use lib.Pow.{pow_pos}
use lib.Ieee.{Float, nan, inf, fin, binary64, up, down, lt, fits, of_bits, to_bits, is_nan}
use lib.Ieee.Exact.{HasValue}
use lib.Ieee.Positive.{positive, positive_of_value}
use lib.Ieee.Fits.{up_pos}
use lib.Ieee.Bits.{of_bits-to_bits, is_false}
use Rattle.elementary.specs.Sqrt.{aligned_units, aligned_of}
use Rattle.elementary.specs.Methods.{sign_of}
use Rattle.elementary.proofs.Laws.Bits.{lt_ordered, no_nan, no_sign, nan_pattern, fits_by}
use Rattle.elementary.proofs.Laws.Places.{whole_units}
use Rattle.elementary.proofs.Laws.Values.{recast, value_low, value_mid, value_inf}
use Rattle.elementary.proofs.sqrt.Alignment.{aligned_above, aligned_none}
use Rattle.elementary.proofs.sqrt.sqrt_aligned.Goals as goal

-- ---- what the tests say
above : (x : Float) → lt (of_bits binary64 0) x ≡ true → sign_of x ≡ false
unfolding lt of_bits sign_of
above nan h = cc
above (inf true) h = cc
above (inf false) h = refl
above (fin true m e) h = cc
above (fin false m e) h = refl

not_above : (x : Float) → lt (of_bits binary64 0) x ≡ false → positive x ≡ false
unfolding lt of_bits
not_above nan h = refl
not_above (inf s) h = refl
not_above (fin true m e) h = refl
not_above (fin false zero e) h = refl
not_above (fin false (suc m) e) h = absurd (subst T h (lt→ltb (0 * down e) (suc m * up e * 1) (omega (arith, mul-pos {m = suc m} (omega arith) (up_pos e)))))

-- ---- above 0
of_value : (x : Float) (a : ℕ) → HasValue x false a (2 ^ 1074) → 0 < a → aligned_of x ≡ aligned_units a
of_value x a h p = aligned_above x (positive_of_value x a (2 ^ 1074) h p) ∙ ap aligned_units (whole_units binary64 x false a h)

module _ (b : ℕ) (plus : b < 2 ^ 63) where
  no_minus : leb (2 ^ 63) b ≡ false
  no_minus = is_false (leb (2 ^ 63) b) (lt→nleb (2 ^ 63) b plus)

  aligned_low : 0 < b → b < 2 ^ 52 → aligned_of (of_bits binary64 b) ≡ aligned_units b
  aligned_low p l =
      let same : b % 2 ^ 63 ≡ b = omega arith in
      of_value (of_bits binary64 b) b (recast (of_bits binary64 b) (2 ^ 1074) no_minus same (value_low b (omega arith))) p

  aligned_mid : 2 ^ 52 ≤ b → b < 2047 * 2 ^ 52 → aligned_of (of_bits binary64 b) ≡ aligned_units ((b % 2 ^ 52 + 2 ^ 52) * 2 ^ (b / 2 ^ 52 - 1))
  aligned_mid l u =
      let k = b / 2 ^ 52 - 1 in
      let m = b % 2 ^ 52 + 2 ^ 52 in
      let same : 2 ^ 52 + b % 2 ^ 52 ≡ m = omega arith in
      let v = value_mid b k (omega arith) (omega arith) in
      of_value (of_bits binary64 b) (m * 2 ^ k) (recast (of_bits binary64 b) (2 ^ 1074) no_minus (ap (λ (z : ℕ). z * 2 ^ k) same) v) (mul-pos {m = m} {n = 2 ^ k} (omega arith) (pow_pos k))

module _ (x : Float) (f : T (fits binary64 x)) (h : lt (of_bits binary64 0) x ≡ true) where
  number : T (not (is_nan x))
  number = no_nan x (lt_ordered (of_bits binary64 0) x h).1

  back : of_bits binary64 (to_bits binary64 x) ≡ x
  back = of_bits-to_bits binary64 x f

  bits_lt : to_bits binary64 x < 2 ^ 63
  bits_lt = no_sign x f number (above x h)

  bits_pos : 0 < to_bits binary64 x
  unfolding lt of_bits
  bits_pos = lt_of_not-le (λ (g : to_bits binary64 x ≤ 0). at_zero (omega arith))
    where
      at_zero : to_bits binary64 x ≡ 0 → ⊥
      at_zero e = true≢false (sym h ∙ ap (lt (of_bits binary64 0)) (sym back ∙ ap (of_bits binary64) e))

  -- of an infinity's field
  top : 2047 * 2 ^ 52 ≤ to_bits binary64 x → positive x ≡ false
  top u = subst (λ y. positive y ≡ false) back (go (dec_le (to_bits binary64 x) (2047 * 2 ^ 52)))
    where
      go : Dec (to_bits binary64 x ≤ 2047 * 2 ^ 52) → positive (of_bits binary64 (to_bits binary64 x)) ≡ false
      go (yes l) = rw (value_inf (to_bits binary64 x) (omega (arith, bits_lt))) refl
      go (no g) = rw (nan_pattern (to_bits binary64 x) (omega (arith, bits_lt))) refl

pub float_to_bits-b : goal.float_to_bits-b
float_to_bits-b c = number c.args.x (fits_by c.args.x c.well_formed.0.1) c.if-x.true

-- of x by its bits
module _ (x : Float) (f : T (fits binary64 x)) (h : lt (of_bits binary64 0) x ≡ true) where
  abbrev b : ℕ
  b = to_bits binary64 x

  low : b / 2 ^ 52 ≡ 0 → aligned_of x ≡ aligned_units b
  low e = ap aligned_of (sym (back x f h)) ∙ aligned_low b (bits_lt x f h) (bits_pos x f h) (omega arith)

  mid : (b / 2 ^ 52 ≡ 0 → ⊥) → b / 2 ^ 52 < 2047 → aligned_of x ≡ aligned_units ((b % 2 ^ 52 + 2 ^ 52) * 2 ^ (b / 2 ^ 52 - 1))
  mid n l = ap aligned_of (sym (back x f h)) ∙ aligned_mid b (bits_lt x f h) (omega (arith, n)) (omega arith)

pub returns-then-e-eq0 : goal.returns-then-e-eq0
returns-then-e-eq0 c =
    let x = c.args.x in
    c.aligned_significand.ensures ∙ ap aligned_units (mul-one (to_bits binary64 x)) ∙ sym (low x (fits_by x c.well_formed.0.1) c.if-x.true c.if-e-eq0.true)

pub returns-then-e-lt2047 : goal.returns-then-e-lt2047
returns-then-e-lt2047 c =
    let x = c.args.x in
    c.aligned_significand-then-e-lt2047.ensures ∙ sym (mid x (fits_by x c.well_formed.0.1) c.if-x.true c.if-e-eq0.false c.if-e-lt2047.true)

pub aligned_significand-requires : goal.aligned_significand-requires
aligned_significand-requires c =
    let x = c.args.x in
    (bits_pos x (fits_by x c.well_formed.0.1) c.if-x.true, omega (arith, c.if-e-eq0.true), omega arith, omega arith)

pub returns-else-e-lt2047 : goal.returns-else-e-lt2047
returns-else-e-lt2047 c =
    let x = c.args.x in
    sym (aligned_none x (top x (fits_by x c.well_formed.0.1) c.if-x.true (omega (arith, c.if-e-lt2047.false))))

pub returns-else-x : goal.returns-else-x
returns-else-x c = sym (aligned_none c.args.x (not_above c.args.x c.if-x.false))
