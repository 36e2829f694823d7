-- A bit pattern's value, as a number of units of the smallest value, 2 ^ -1074, and that a float is known by its value. Assumes nothing.
use mathlib.Core.Path.{◌≡◌, refl, sym, ap, ◌∙◌}
use mathlib.Core.Logic.{inl, inr}
use mathlib.Core.Bool.{Bool, true, false, cond}
use Prim.Native.Nat.{ℕ, suc, ◌+◌, ◌-◌, ◌*◌, ◌/◌, ◌%◌, ◌^◌, ◌≤◌, ◌<◌}
use native.Mathlib.Nat.{mul-one, eq_of_mul-eq-mul_right, eq-or-lt_of_le, eq-zero-or-pos}
use native.Mathlib.Omega.{arith}
use lib.Dec.{T, leb, le→leb}
use borrow.Author.Tests.{ne_eqb}
use lib.IntN.{pos}
use lib.Arith.{lt→nleb}
use lib.Ieee.{Float, inf, binary64, up, down, fits, of_fields, of_bits, of_int, in_float}
use lib.Ieee.Back.{round_whole}
use lib.Ieee.Exact.{HasValue, odd_sign}
use lib.Ieee.Bits.{is_true, is_false}
use Rattle.elementary.specs.Ops.{float}
use Rattle.elementary.proofs.Laws.Order.{valued, finite_by}
use Rattle.elementary.proofs.Laws.Places.{place_of, sign_of_lem, is_number, same_value}

-- the same value said otherwise
pub recast : (x : Float) (c : ℕ) {s t : Bool} {a b : ℕ} → s ≡ t → a ≡ b → HasValue x s a c → HasValue x t b c
recast x c p q h = rw (← p, ← q) h

pub revalue : (x : Float) (s : Bool) (a c b d : ℕ) → 0 < c → a * d ≡ b * c → HasValue x s a c → HasValue x s b d
revalue x s a c b d p e h =
    let to = eq_of_mul-eq-mul_right c p in
    elim (finite_by x h) as (λ y _. HasValue y s b d) [ valued m k i ↦ (refl, to (m * up k * d) (b * down k) (omega (arith, ap (λ (z : ℕ). z * d) i, ap (λ (z : ℕ). z * down k) e))) ]

pub whole_value : (n : ℕ) → n ≤ 2 ^ 53 → HasValue (float n) false n 1
unfolding of_int
whole_value n h = round_whole binary64 false n h

pub in_float_lem : (n : ℕ) → n ≤ 2 ^ 53 → T (in_float binary64 (pos n))
unfolding in_float
in_float_lem n h = le→leb n (2 ^ 53) h

-- ---- reading a pattern: its sign, its exponent's field, its digits
fields : (b x t : ℕ) → b % 2 ^ 63 / 2 ^ 52 ≡ x → b % 2 ^ 52 ≡ t → of_bits binary64 b ≡ of_fields binary64 (leb (2 ^ 63) b) x t
unfolding of_bits
fields b x t q r = rw (q, r)

-- a subnormal's: no leading digit
pub value_low : (b : ℕ) → b % 2 ^ 63 < 2 ^ 52 → HasValue (of_bits binary64 b) (leb (2 ^ 63) b) (b % 2 ^ 63) (2 ^ 1074)
unfolding of_fields
value_low b l =
    rw (fields b 0 (b % 2 ^ 63) (omega arith) (omega arith))
    (rw mul-one at (odd_sign 53 (leb (2 ^ 63) b) (b % 2 ^ 63) 0 1074))

-- a normal number's: k is one less than the field
pub value_mid : (b k : ℕ) → b % 2 ^ 63 / 2 ^ 52 ≡ suc k → k < 2046 → HasValue (of_bits binary64 b) (leb (2 ^ 63) b) ((2 ^ 52 + b % 2 ^ 52) * 2 ^ k) (2 ^ 1074)
unfolding of_fields
value_mid b k e l =
    let s = leb (2 ^ 63) b in
    rw (fields b (suc k) (b % 2 ^ 52) e refl, ne_eqb (suc k) 2047 (λ (i : suc k ≡ 2047). omega arith)) (odd_sign 53 s (2 ^ 52 + b % 2 ^ 52) k 1074)

-- an infinity's
pub value_inf : (b : ℕ) → b % 2 ^ 63 ≡ 2047 * 2 ^ 52 → of_bits binary64 b ≡ inf (leb (2 ^ 63) b)
unfolding of_fields
value_inf b e = rw (fields b 2047 0 (omega arith) (omega arith))

-- ---- writing one: k * 2 ^ 52 + q is q * 2 ^ k units, and a carry of q to 54 digits runs into the field by itself
abbrev pub add_sign : Bool → ℕ → ℕ
add_sign s n = cond s (2 ^ 63 + n) n

abbrev pub bit_pattern : Bool → ℕ → ℕ → ℕ
bit_pattern s k q = add_sign s (k * 2 ^ 52 + q)

pub sign_parts : (s : Bool) (n : ℕ) → n < 2 ^ 63 → (leb (2 ^ 63) (add_sign s n) ≡ s) × (add_sign s n % 2 ^ 63 ≡ n) × (add_sign s n % 2 ^ 52 ≡ n % 2 ^ 52)
sign_parts true n l = (is_true _ (le→leb (2 ^ 63) (2 ^ 63 + n) (omega arith)), omega arith, omega arith)
sign_parts false n l = (is_false _ (lt→nleb (2 ^ 63) n (omega arith)), omega arith, omega arith)

pub value_of_pattern : (s : Bool) (k q : ℕ) → (0 < k → 2 ^ 52 ≤ q) → q ≤ 2 ^ 53 → k * 2 ^ 52 + q < 2047 * 2 ^ 52 → HasValue (of_bits binary64 (bit_pattern s k q)) s (q * 2 ^ k) (2 ^ 1074)
value_of_pattern s k q lo hi small =
    let b = bit_pattern s k q in
    let parts = sign_parts s (k * 2 ^ 52 + q) (omega arith) in
    elim (eq-zero-or-pos (2 ^ 52 - q)) [
      | inl l ↦ elim (eq-or-lt_of_le hi) [
        | inl e ↦
            let zero : b % 2 ^ 52 ≡ 0 = omega (arith, parts.2) in
            let twice : (2 ^ 52 + b % 2 ^ 52) * 2 ^ suc k ≡ q * 2 ^ k = rw (zero, e) (omega arith) in
            recast (of_bits binary64 b) (2 ^ 1074) parts.0 twice (value_mid b (suc k) (omega (arith, parts.1)) (omega arith))
        | inr h ↦
            let same : 2 ^ 52 + b % 2 ^ 52 ≡ q = omega (arith, parts.2) in
            recast (of_bits binary64 b) (2 ^ 1074) parts.0 (rw same) (value_mid b k (omega (arith, parts.1)) (omega arith))
      ]
      -- a subnormal's digits have no field
      | inr l ↦
          let zero : k ≡ 0 = elim (eq-zero-or-pos k) [ inl e ↦ e | inr p ↦ absurd (omega (arith, lo p)) ] in
          recast (of_bits binary64 b) (2 ^ 1074) parts.0 (parts.1 ∙ rw (zero, mul-one) (omega arith)) (value_low b (omega (arith, parts.1)))
    ]

-- ---- a float by its value
pub value_unique : (x y : Float) (s : Bool) (a : ℕ) → T (fits binary64 x) → T (fits binary64 y) → HasValue x s a (2 ^ 1074) → HasValue y s a (2 ^ 1074) → x ≡ y
value_unique x y s a f g h i =
    same_value binary64 x y f g (is_number x s _ _ h) (is_number y s _ _ i) (sign_of_lem x s _ _ h ∙ sym (sign_of_lem y s _ _ i)) (place_of binary64 x s a h ∙ sym (place_of binary64 y s a i))
