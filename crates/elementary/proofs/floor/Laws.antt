-- The floor of a bit pattern's value, by the size of the value: below 1, from 1 to 2 ^ 52, and from there on, where every number is whole. Assumes nothing.
use mathlib.Core.Path.{◌≡◌, refl, sym, ap, ◌∙◌}
use mathlib.Core.Logic.{◌⊎◌, inl, inr}
use mathlib.Core.Bool.{Bool, true, false, not}
use Prim.Native.Nat.{ℕ, suc, ◌+◌, ◌-◌, ◌*◌, ◌/◌, ◌%◌, ◌^◌, ◌≤◌, ◌<◌}
use native.Mathlib.Nat.{lt_of_lt_of_le, eq-or-lt_of_le, mul_assoc, mul_comm, mul-one, one-mul, suc-mul, add-mul, mul-pos, mul-le-mul_right, lt_of_mul-lt-mul_right, div-add-mod', mul-add-mod_self_right}
use native.Mathlib.Decide.{dec_le}
use native.Mathlib.Omega.{arith}
use lib.Dec.{T, leb, le→leb, leb→le, nleb→lt}
use lib.Arith.{lt→nleb}
use lib.Pow.{pow-add, pow_pos, pow_mono, shl_lt, shl_exact}
use lib.Ieee.{Float, binary64, fits, neg, of_bits, nan_bits}
use lib.Ieee.Fits.{neg-fits}
use lib.Ieee.Exact.{HasValue}
use lib.Ieee.Back.{whole_unique}
use lib.Ieee.Bits.{is_true, is_false, of_bits-fits}
use Rattle.elementary.proofs.Laws.Powers.{pow_split}
use Rattle.elementary.specs.Floor.{floor_size, floor_of}
use Rattle.elementary.proofs.Laws.Greatest.{IsFloor, size_floor, whole_floor, floor_value, floor_fits}
use Rattle.elementary.proofs.Laws.Bits.{nan_pattern, no_nan_pattern}
use Rattle.elementary.proofs.Laws.Values.{recast, revalue, value_low, value_mid, value_inf, sign_parts, bit_pattern, value_of_pattern}

-- what has the value is the floor
floor_is : (b : ℕ) (r : Float) (s : Bool) (a c n : ℕ) → T (fits binary64 r) → 0 < c → HasValue (of_bits binary64 b) s a c → IsFloor s a c n → HasValue r s n 1
    → r ≡ floor_of binary64 (of_bits binary64 b)
floor_is b r s a c n f p v k w =
    let x = of_bits binary64 b in
    whole_unique binary64 r (floor_of binary64 x) s n f (floor_fits binary64 x) w (floor_value binary64 x s a c n (of_bits-fits binary64 b) p v k)

-- ---- from 2 ^ 52 on
pub floor_large : (b : ℕ) → 1075 ≤ b % 2 ^ 63 / 2 ^ 52 → of_bits binary64 b ≡ floor_of binary64 (of_bits binary64 b)
unfolding floor_of
floor_large b l =
    elim (dec_le (2047 * 2 ^ 52) (b % 2 ^ 63)) [
      | yes h ↦ elim (eq-or-lt_of_le h) [ inl e ↦ rw (value_inf b (sym e)) refl | inr g ↦ rw (nan_pattern b g) refl ]
      | no h ↦
          let x = of_bits binary64 b in
          let s = leb (2 ^ 63) b in
          let j = b % 2 ^ 63 / 2 ^ 52 - 1075 in
          let m = 2 ^ 52 + b % 2 ^ 52 in
          let w = revalue x s (m * 2 ^ (j + 1074)) (2 ^ 1074) (m * 2 ^ j) 1 (pow_pos 1074) (rw (pow-add 2 j 1074, mul-one) (sym (mul_assoc m (2 ^ j) (2 ^ 1074)))) (value_mid b (j + 1074) (omega arith) (omega arith)) in
          floor_is b x s (m * 2 ^ j) 1 (m * 2 ^ j) (of_bits-fits binary64 b) (omega arith) w (whole_floor s (m * 2 ^ j)) w
    ]

-- ---- below 1
size_below : (b : ℕ) → b % 2 ^ 63 < 1023 * 2 ^ 52 → (a : ℕ) × (a < 2 ^ 1074) × (0 < b % 2 ^ 63 → 0 < a) × HasValue (of_bits binary64 b) (leb (2 ^ 63) b) a (2 ^ 1074)
size_below b l =
    elim (dec_le (2 ^ 52) (b % 2 ^ 63)) [
      | no h ↦ (b % 2 ^ 63, lt_of_lt_of_le (omega arith) (pow_mono {i = 52} {j = 1074} (omega arith)), (λ p. p), value_low b (omega arith))
      | yes h ↦
          let k = b % 2 ^ 63 / 2 ^ 52 - 1 in
          let m = 2 ^ 52 + b % 2 ^ 52 in
          (m * 2 ^ k, lt_of_lt_of_le (shl_lt {a = m} 53 k (omega arith)) (pow_mono {i = 53 + k} {j = 1074} (omega arith)), (λ p. mul-pos {m = m} (omega arith) (pow_pos k)), value_mid b k (omega arith) (omega arith))
    ]

floor_none : (a c : ℕ) → a < c → IsFloor false a c 0
floor_none a c l = (omega arith, omega arith)

floor_one : (a c : ℕ) → 0 < a → a < c → IsFloor true a c 1
floor_one a c p l = (omega arith, omega arith)

pub floor_small : (b : ℕ) → b < 2 ^ 63 → b % 2 ^ 63 < 1023 * 2 ^ 52 → of_bits binary64 0 ≡ floor_of binary64 (of_bits binary64 b)
unfolding of_bits
floor_small b plus l =
    let z = size_below b l in
    let v = recast (of_bits binary64 b) (2 ^ 1074) (is_false _ (lt→nleb (2 ^ 63) b plus)) refl z.3 in
    floor_is b (of_bits binary64 0) false z.0 (2 ^ 1074) 0 (of_bits-fits binary64 0) (pow_pos 1074) v (floor_none z.0 (2 ^ 1074) z.1) (refl, refl)

pub floor_small_negative : (b : ℕ) → 2 ^ 63 < b → b < 2 ^ 64 → b % 2 ^ 63 < 1023 * 2 ^ 52 → neg (of_bits binary64 0x3ff0_0000_0000_0000) ≡ floor_of binary64 (of_bits binary64 b)
unfolding neg of_bits
floor_small_negative b minus w l =
    let z = size_below b l in
    let v = recast (of_bits binary64 b) (2 ^ 1074) (is_true _ (le→leb (2 ^ 63) b (omega arith))) refl z.3 in
    floor_is b _ true z.0 (2 ^ 1074) 1 (neg-fits binary64 _ (of_bits-fits binary64 0x3ff0_0000_0000_0000)) (pow_pos 1074) v
    (floor_one z.0 (2 ^ 1074) (z.2 (omega arith)) z.1) (refl, refl)

-- ---- from 1 to 2 ^ 52: the last digits are cut off
cut_off : (P Q q u c : ℕ) → P ≡ Q * u → c ≡ P + q → c - c % u ≡ P + q / u * u
cut_off P Q q u c e h =
    let r : c % u ≡ q % u = ap (λ (z : ℕ). z % u) (h ∙ ap (λ (z : ℕ). z + q) e) ∙ mul-add-mod_self_right Q u q in
    omega (arith, div-add-mod' q u)

-- cut or brought up, the digits stay between 2 ^ 52 and 2 ^ 53, which are both multiples of the unit
digits_range : (s : Bool) (m u Q n : ℕ) → 2 ^ 52 ≤ m → m < 2 ^ 53 → 2 ^ 52 ≡ Q * u → IsFloor s m u n → (2 ^ 52 ≤ n * u) × (n * u ≤ 2 ^ 53)
digits_range false m u Q n lo hi e k =
    let l = lt_of_mul-lt-mul_right u {m = Q} {n = suc n} (omega arith) in
    (omega (arith, mul-le-mul_right {m = Q} {n = n} u (omega arith)), omega arith)
digits_range true m u Q n lo hi e k =
    let l = lt_of_mul-lt-mul_right u {m = n} {n = suc (2 * Q)} (omega (arith, suc-mul (2 * Q) u, mul_assoc 2 Q u)) in
    (omega arith, omega (arith, mul-le-mul_right {m = n} {n = 2 * Q} u (omega arith), mul_assoc 2 Q u))

-- a number below 0 has got all but the last of a unit u
abbrev pub AddUnit : (b u c : ℕ) → Type 0
AddUnit b u c = ((2 ^ 63 ≤ b) × (c ≡ b + (u - 1))) ⊎ ((b < 2 ^ 63) × (c ≡ b))

pub unit_is : (d : ℕ) → d ≤ 52 → 1 * 2 ^ d % 2 ^ 64 ≡ 2 ^ d
unit_is d h = shl_exact {a = 1} 1 d 64 (omega arith) (omega arith) ∙ one-mul (2 ^ d)

module _ (b d : ℕ) (lo : 1 ≤ d) (hi : d ≤ 52) (width : b < 2 ^ 64) (field : b % 2 ^ 63 / 2 ^ 52 + d ≡ 1075) where
  abbrev s : Bool
  s = leb (2 ^ 63) b

  abbrev m : ℕ
  m = 2 ^ 52 + b % 2 ^ 52

  abbrev k : ℕ
  k = 1074 - d

  abbrev n : ℕ
  n = floor_size s m (2 ^ d)

  exponents : k + d ≡ 1074
  exponents = omega arith

  range : (2 ^ 52 ≤ n * 2 ^ d) × (n * 2 ^ d ≤ 2 ^ 53)
  range = digits_range s m (2 ^ d) (2 ^ (52 - d)) n (omega arith) (omega arith) (pow_split d 52 hi) (size_floor s m (2 ^ d) (pow_pos d))

  value : HasValue (of_bits binary64 b) s m (2 ^ d)
  value =
      revalue (of_bits binary64 b) s (m * 2 ^ k) (2 ^ 1074) m (2 ^ d) (pow_pos 1074) (mul_assoc m (2 ^ k) (2 ^ d) ∙ rw (← pow-add 2 k d, exponents) refl)
      (value_mid b k (omega arith) (omega arith))

  high : k * 2 ^ 52 ≡ k * 2 ^ (52 - d) * 2 ^ d
  high = ap (λ (z : ℕ). k * z) (pow_split d 52 hi) ∙ sym (mul_assoc k (2 ^ (52 - d)) (2 ^ d))

  pattern_by : (t : Bool) (c : ℕ) → (T t → 2 ^ 63 ≤ b) → (T (not t) → b < 2 ^ 63) → AddUnit b (2 ^ d) c
      → c - c % 2 ^ d ≡ bit_pattern t k (floor_size t m (2 ^ d) * 2 ^ d)
  pattern_by false c y z (inl r) = absurd (omega (arith, z tt))
  pattern_by false c y z (inr r) = cut_off (k * 2 ^ 52) (k * 2 ^ (52 - d)) m (2 ^ d) c high (omega arith)
  pattern_by true c y z (inr r) = absurd (omega (arith, y tt))
  pattern_by true c y z (inl r) =
      let e : 2 ^ 63 + k * 2 ^ 52 ≡ (2 ^ (63 - d) + k * 2 ^ (52 - d)) * 2 ^ d = rw (add-mul (2 ^ (63 - d)) (k * 2 ^ (52 - d)) (2 ^ d)) (omega (arith, high, pow_split d 63 (omega arith))) in
      omega (arith, cut_off (2 ^ 63 + k * 2 ^ 52) (2 ^ (63 - d) + k * 2 ^ (52 - d)) (m + (2 ^ d - 1)) (2 ^ d) c e (omega (arith, pow_pos d)))

  module _ (c : ℕ) (r : AddUnit b (2 ^ d) c) where
    pattern : c - c % 2 ^ d ≡ bit_pattern s k (n * 2 ^ d)
    pattern = pattern_by s c (leb→le (2 ^ 63) b) (nleb→lt (2 ^ 63) b) r

    pub floor_cut : of_bits binary64 (c - c % 2 ^ d) ≡ floor_of binary64 (of_bits binary64 b)
    floor_cut =
        let r = of_bits binary64 (bit_pattern s k (n * 2 ^ d)) in
        let v = value_of_pattern s k (n * 2 ^ d) (λ _. range.0) range.1 (omega (arith, range)) in
        let e : n * 2 ^ d * 2 ^ k * 1 ≡ n * 2 ^ 1074 = rw (mul-one, mul_assoc n (2 ^ d) (2 ^ k), mul_comm (2 ^ d) (2 ^ k), ← pow-add 2 k d, exponents) refl in
        ap (of_bits binary64) pattern
        ∙ floor_is b r s m (2 ^ d) n (of_bits-fits binary64 (bit_pattern s k (n * 2 ^ d))) (pow_pos d) value (size_floor s m (2 ^ d) (pow_pos d))
        (revalue r s (n * 2 ^ d * 2 ^ k) (2 ^ 1074) n 1 (pow_pos 1074) e v)

    pub floor_cut_no_nan : T (not (nan_bits binary64 (c - c % 2 ^ d)))
    floor_cut_no_nan =
        rw pattern (no_nan_pattern (bit_pattern s k (n * 2 ^ d)) (omega (arith, range, (sign_parts s (k * 2 ^ 52 + n * 2 ^ d) (omega (arith, range))).1)))
