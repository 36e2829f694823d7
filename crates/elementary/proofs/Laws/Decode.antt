-- A finite float's bit pattern gives its sign, its significand and its exponent. Assumes nothing.
use mathlib.Core.Path.{◌≡◌, refl, sym, ap, ◌∙◌}
use mathlib.Core.Logic.{inl, inr}
use mathlib.Core.Bool.{Bool, not}
use Prim.Native.Nat.{ℕ, suc, ◌+◌, ◌-◌, ◌*◌, ◌/◌, ◌%◌, ◌^◌, ◌≤◌, ◌<◌}
use native.Mathlib.Nat.{le_trans, le_of_eq, lt_of_lt_of_le, not-le_of_lt, lt_of_not-le, eq-or-lt_of_le, mul_assoc, mul-le-mul_right, mul-lt-mul_of_pos_right, mul-mod_left}
use native.Mathlib.Omega.{arith}
use lib.Dec.{T, leb}
use lib.Count.{count_leading_zeros, leading_top}
use lib.Pow.{pow-add, pow_pos, pow_mono}
use lib.Ieee.{Float, nan, inf, fin, binary64, to_bits, fits, is_nan}
use Rattle.std.specs.Float.{float_is_finite}
use lib.Ieee.Exact.{HasValue}
use lib.Ieee.Bits.{of_bits-to_bits}
use lib.Ieee.Scale.{finite}
use Rattle.elementary.specs.Inside.Round.{Digits, PartsOf}
use Rattle.elementary.proofs.Laws.Bits.{nan_pattern}
use Rattle.elementary.proofs.Laws.Values.{revalue, value_low, value_mid, value_inf}

-- ---- finite
pub finite_no_nan : (x : Float) → T (finite x) → T (not (is_nan x))
unfolding is_nan
finite_no_nan nan h = absurd h
finite_no_nan (inf s) h = absurd h
finite_no_nan (fin s m e) h = tt

-- std's word for it
pub std_finite : (x : Float) → float_is_finite x ≡ finite x
unfolding float_is_finite
std_finite nan = refl
std_finite (inf s) = refl
std_finite (fin s m e) = refl

-- ---- powers of 2 in a value's fraction
pub split_power : (q i k l : ℕ) → i ≡ k + l → q * 2 ^ i ≡ q * 2 ^ k * 2 ^ l
split_power q i k l e = ap (λ (z : ℕ). q * z) (ap (λ (z : ℕ). 2 ^ z) e ∙ pow-add 2 k l) ∙ sym (mul_assoc q (2 ^ k) (2 ^ l))

pub same_power : (q i j k l : ℕ) → i + j ≡ k + l → q * 2 ^ i * 2 ^ j ≡ q * 2 ^ k * 2 ^ l
same_power q i j k l e = sym (split_power q (i + j) i j refl) ∙ split_power q (i + j) k l e

-- ---- the fields
module _ (x : Float) (F : T (fits binary64 x)) where
  abbrev b : ℕ
  b = to_bits binary64 x

  abbrev s : Bool
  s = leb (2 ^ 63) b

  abbrev f : ℕ
  f = b % 2 ^ 63 / 2 ^ 52

  abbrev t : ℕ
  t = b % 2 ^ 52

  pub low_value : f ≡ 0 → (m e : ℕ) → m * 2 ^ e ≡ t * 2 ^ 64 → PartsOf x s m e
  low_value z m e L =
      let v : HasValue x s (b % 2 ^ 63) (2 ^ 1074) = rw (of_bits-to_bits binary64 x F) at (value_low b (omega arith)) in
      record {
        value = revalue x s (b % 2 ^ 63) (2 ^ 1074) (m * 2 ^ e) (2 ^ 1138) (pow_pos 1074)
            (ap (λ (w : ℕ). w * 2 ^ 1138) (omega arith) ∙ split_power t 1138 64 1074 refl ∙ ap (λ (w : ℕ). w * 2 ^ 1074) (sym L)) v;
        whole = ap (λ (w : ℕ). w % 2 ^ 64) L ∙ mul-mod_left t (2 ^ 64);
      }

  pub normal_value : 0 < f → f < 2047 → PartsOf x s (2 ^ 52 + t) (f + 63)
  normal_value p h =
      let v : HasValue x s ((2 ^ 52 + t) * 2 ^ (f - 1)) (2 ^ 1074) = rw (of_bits-to_bits binary64 x F) at (value_mid b (f - 1) (omega arith) (omega arith)) in
      record {
        value = revalue x s ((2 ^ 52 + t) * 2 ^ (f - 1)) (2 ^ 1074) ((2 ^ 52 + t) * 2 ^ (f + 63)) (2 ^ 1138) (pow_pos 1074) (same_power (2 ^ 52 + t) (f - 1) 1138 (f + 63) 1074 (omega arith)) v;
        whole = ap (λ (w : ℕ). w % 2 ^ 64) (split_power (2 ^ 52 + t) (f + 63) (f - 1) 64 (omega arith)) ∙ mul-mod_left ((2 ^ 52 + t) * 2 ^ (f - 1)) (2 ^ 64);
      }

  -- the field of an infinity or a NaN is not a finite value's
  pub finite_field : T (finite x) → f < 2047
  finite_field fit = lt_of_not-le (λ (g : 2047 ≤ f). elim (eq-or-lt_of_le {n = 2047 * 2 ^ 52} {m = b % 2 ^ 63} (omega arith)) [
    | inl e ↦ rw (← of_bits-to_bits binary64 x F, value_inf b (sym e)) at fit
    | inr l ↦ rw (← of_bits-to_bits binary64 x F, nan_pattern b l) at fit
  ])

-- ---- the digits of a subnormal value
module _ (t : ℕ) (h : t < 2 ^ 52) (p : (t ≡ 0 → ⊥)) where
  abbrev z : ℕ
  z = count_leading_zeros 64 t

  leads : (j : ℕ) × (z + suc j ≡ 64) × (2 ^ j ≤ t) × (t < 2 ^ suc j)
  leads = leading_top 64 t (omega arith) (omega arith)

  pub far_up : 12 ≤ z
  far_up = lt_of_not-le (λ (g : z ≤ 11). not-le_of_lt h (le_trans (pow_mono {i = 52} {j = leads.0} (omega (arith, leads.1))) leads.2))

  up : (i : ℕ) → 2 ^ i * 2 ^ (z - 11) ≡ 2 ^ (i + (z - 11))
  up i = sym (pow-add 2 i (z - 11))

  pub up_low : 2 ^ 52 ≤ t * 2 ^ (z - 11)
  up_low = le_trans (le_of_eq (ap (λ (i : ℕ). 2 ^ i) {x = 52} {y = leads.0 + (z - 11)} (omega (arith, leads.1, far_up)) ∙ sym (up leads.0))) (mul-le-mul_right (2 ^ (z - 11)) leads.2)

  pub up_top : t * 2 ^ (z - 11) < 2 ^ 53
  up_top = lt_of_lt_of_le (mul-lt-mul_of_pos_right leads.3 (pow_pos (z - 11))) (le_of_eq (up (suc leads.0) ∙ ap (λ (i : ℕ). 2 ^ i) {x = suc leads.0 + (z - 11)} {y = 53} (omega (arith, leads.1, far_up))))

  pub up_digits : Digits (t * 2 ^ (z - 11)) (64 - (z - 11))
  up_digits = record { lead = up_low; top = up_top; least = omega (arith, leads.1); room = omega arith }

  pub up_same : t * 2 ^ (z - 11) * 2 ^ (64 - (z - 11)) ≡ t * 2 ^ 64
  up_same = sym (split_power t 64 (z - 11) (64 - (z - 11)) (omega (arith, leads.1)))
