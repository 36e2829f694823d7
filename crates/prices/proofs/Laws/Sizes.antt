-- Powers of two as bounds: what operations and bits keep of them, and how large the parts of a fused step by errors are. Assumes nothing.
use mathlib.Core.Path.{refl, sym, subst}
use mathlib.Core.Bool.{Bool, not}
use mathlib.Core.Logic.{inl, inr}
use Prim.Native.Nat.{ℕ, zero, suc, ◌+◌, ◌-◌, ◌*◌, ◌/◌, ◌%◌, ◌^◌, ◌≤◌, ◌<◌}
use native.Mathlib.Nat.{le_trans, le_of_eq, le_of_lt, lt_irrefl, lt_of_not-le, lt_of_lt_of_le, eq-zero-or-pos, mul-one, mul_right_comm, mul-le-mul_right, le_of_mul-le-mul_right, pow-suc}
use native.Mathlib.Decide.{dec_le}
use native.Mathlib.Omega.{arith}
use lib.Arith.{lt→nleb}
use lib.Dec.{T, leb, lit<, lit≤}
use lib.Pow.{pow-add, pow_pos, pow_mono, pow-lt, shl_lt}
use lib.Ieee.{Float, binary64, down, is_nan, nan_bits, fits, neg, to_bits}
use lib.Ieee.Fits.{down_pos}
use lib.Ieee.Exact.{HasValue}
use lib.Ieee.Scale.{finite}
use lib.Ieee.Bits.{is_false, of_bits-to_bits, to_bits-lt}
use Rattle.elementary.specs.Ops.{◌⊕◌, ◌⊖◌, ◌⊗◌, ◌⊘◌, bits, float}
use Rattle.elementary.specs.Inside.Bounds.{Side, sized, Over}
use Rattle.elementary.specs.Inside.Errors.{CanSplit, product_error, sum_error, ordered_sum_error, rounded_high, cut_high, outward, inward}
use Rattle.elementary.proofs.Laws.Bits.{no_nan_pattern}
use Rattle.elementary.proofs.Laws.Decode.{finite_no_nan, finite_field}
use Rattle.elementary.proofs.Laws.Values.{recast, value_low, value_mid, whole_value}
use Rattle.elementary.proofs.Laws.Bounds.{pow_exact, unsigned, wider, side_finite, value_side, value_over, neg_side, mul_side, add_at_most, sub_at_most, div_side}
use Rattle.prices.specs.Inside.SmallT.{Within}

-- ---- the operations
pub looser : {x : Float} {a : ℕ} (b : ℕ) → a ≤ b → Within x a → Within x b
looser b l h = record { size = unsigned (wider (2 ^ b) (pow_mono l) h.size.side) }

pub is_finite : {x : Float} {n : ℕ} → Within x n → T (finite x)
is_finite h = side_finite h.size.side

pub is_number : {x : Float} {n : ℕ} → Within x n → T (not (is_nan x))
is_number {x} h = finite_no_nan x (is_finite h)

two_powers : (a b c : ℕ) → a < c → b < c → 2 ^ a + 2 ^ b ≤ 2 ^ c
two_powers a b zero p q = absurd (omega arith)
two_powers a b (suc c) p q = omega (arith, pow-suc 2 c, pow_mono {i = a} {j = c} (omega arith), pow_mono {i = b} {j = c} (omega arith))

pub plus : {x y : Float} {a b : ℕ} (c : ℕ) → a < c → b < c → c < 1024 → Within x a → Within y b → Within (x ⊕ y) c
plus {a} {b} c p q t h k = record { size = add_at_most (2 ^ c) (pow_exact c t) (two_powers a b c p q) h.size.side k.size.side }

pub minus : {x y : Float} {a b : ℕ} (c : ℕ) → a < c → b < c → c < 1024 → Within x a → Within y b → Within (x ⊖ y) c
minus {a} {b} c p q t h k = record { size = sub_at_most (2 ^ c) (pow_exact c t) (two_powers a b c p q) h.size.side k.size.side }

pub times : {x y : Float} {a b : ℕ} (c : ℕ) → a + b ≤ c → c < 1024 → Within x a → Within y b → Within (x ⊗ y) c
times {a} {b} c l t h k = record { size = unsigned (mul_side (2 ^ c) (pow_exact c t) (le_trans (le_of_eq (sym (pow-add 2 a b))) (pow_mono l)) h.size.side k.size.side) }

-- by a number of 1 or more
pub over : {x y : Float} {a : ℕ} → a < 1024 → Within x a → Over y 0 → Within (x ⊘ y) a
over {a} t h k = record { size = unsigned (div_side (2 ^ a) (pow_exact a t) (le_of_eq (mul-one (2 ^ a))) h.size.side k) }

pub opposite : {x : Float} {a : ℕ} → Within x a → Within (neg x) a
opposite h = record { size = unsigned (neg_side h.size.side) }

pub whole : (m n : ℕ) → m ≤ 2 ^ n → n ≤ 53 → Within (float m) n
whole m n l t = record { size = unsigned (value_side m 1 (2 ^ n) (lit< tt) (whole_value m (le_trans l (pow_mono {i = n} {j = 53} t))) (le_trans l (le_of_eq (sym (mul-one (2 ^ n)))))) }

-- ---- bits
-- a pattern whose exponent is below that of 2 ^ n
pub of_pattern : (b n : ℕ) → n ≤ 1023 → b % 2 ^ 63 < (1023 + n) * 2 ^ 52 → Within (bits b) n
of_pattern b n t h = record {
  size = elim (eq-zero-or-pos (b % 2 ^ 63 / 2 ^ 52)) [
    | inl z ↦
        let small : b % 2 ^ 63 < 2 ^ 52 = omega arith in
        unsigned (value_side (b % 2 ^ 63) (2 ^ 1074) (2 ^ n) (pow_pos 1074) (value_low b small)
        (le_trans (le_of_lt small) (le_trans (pow_mono {i = 52} {j = n + 1074} (omega arith)) (le_of_eq (pow-add 2 n 1074)))))
    | inr p ↦
        let k = b % 2 ^ 63 / 2 ^ 52 - 1 in
        unsigned (value_side ((2 ^ 52 + b % 2 ^ 52) * 2 ^ k) (2 ^ 1074) (2 ^ n) (pow_pos 1074) (value_mid b k (omega arith) (omega arith))
        (le_trans (le_of_lt (shl_lt 53 k (full b))) (le_trans (pow_mono {i = 53 + k} {j = n + 1074} (omega arith)) (le_of_eq (pow-add 2 n 1074)))))
  ];
}
  where
    full : (b : ℕ) → 2 ^ 52 + b % 2 ^ 52 < 2 ^ 53
    full b = omega arith

-- a pattern from that of 1 on
pub one_or_more : (b : ℕ) → 1023 * 2 ^ 52 ≤ b → b < 2047 * 2 ^ 52 → Over (bits b) 0
one_or_more b l h =
    let k = b / 2 ^ 52 - 1 in
    value_over ((2 ^ 52 + b % 2 ^ 52) * 2 ^ k) (2 ^ 1074) 0 (pow_pos 1074)
    (recast (bits b) (2 ^ 1074) (is_false (leb (2 ^ 63) b) (lt→nleb (2 ^ 63) b (omega arith))) refl (value_mid b k (omega arith) (omega arith)))
    (le_trans (pow_mono {i = 1074} {j = 52 + k} (omega arith)) (le_trans (le_of_eq (pow-add 2 52 k)) (le_trans (mul-le-mul_right (2 ^ k) (lead b)) (le_of_eq (sym (mul-one ((2 ^ 52 + b % 2 ^ 52) * 2 ^ k)))))))
  where
    lead : (b : ℕ) → 2 ^ 52 ≤ 2 ^ 52 + b % 2 ^ 52
    lead b = omega arith

value_at_most : {x : Float} {t : Bool} (s : Bool) (v c b : ℕ) → Side x t b → HasValue x s v c → v ≤ b * c
value_at_most s v c b (sized m e h) k =
    le_of_mul-le-mul_right {k = down e} (le_trans (le_of_eq (sym k.1)) (le_trans (mul-le-mul_right c h) (le_of_eq (mul_right_comm b (down e) c)))) (down_pos e)

-- the exponent of what is at most 2 ^ n
module _ (x : Float) {n : ℕ} (F : T (fits binary64 x)) (h : Within x n) where
  abbrev b : ℕ
  b = to_bits binary64 x

  abbrev k : ℕ
  k = b % 2 ^ 63 / 2 ^ 52 - 1

  not_larger : (1024 + n) * 2 ^ 52 ≤ b % 2 ^ 63 → ⊥
  not_larger l =
      lt_irrefl (2 ^ (n + 1074))
      (lt_of_lt_of_le (pow-lt {i = n + 1074} {j = 52 + k} (omega arith))
      (le_trans (le_of_eq (pow-add 2 52 k))
      (le_trans (mul-le-mul_right (2 ^ k) (lead b))
      (le_trans
      (value_at_most (leb (2 ^ 63) b) ((2 ^ 52 + b % 2 ^ 52) * 2 ^ k) (2 ^ 1074) (2 ^ n) h.size.side
      (rw (of_bits-to_bits binary64 x F) at (value_mid b k (omega arith) (omega (arith, finite_field x F (is_finite h))))))
      (le_of_eq (sym (pow-add 2 n 1074)))))))
    where
      lead : (b : ℕ) → 2 ^ 52 ≤ 2 ^ 52 + b % 2 ^ 52
      lead b = omega arith

  pub pattern : to_bits binary64 x % 2 ^ 63 < (1024 + n) * 2 ^ 52
  pattern = go (dec_le ((1024 + n) * 2 ^ 52) (b % 2 ^ 63))
    where
      go : Dec ((1024 + n) * 2 ^ 52 ≤ b % 2 ^ 63) → b % 2 ^ 63 < (1024 + n) * 2 ^ 52
      go (no f) = lt_of_not-le f
      go (yes l) = absurd (not_larger l)

pub nearby : (x : Float) (c : ℕ) {n : ℕ} → T (fits binary64 x) → n ≤ 1021 → c % 2 ^ 63 ≤ to_bits binary64 x % 2 ^ 63 + 2 ^ 26 → Within x n → Within (bits c) (n + 2)
nearby x c {n} F t l h = of_pattern c (n + 2) (omega arith) (omega (arith, pattern x F h))

rounded_near : (b : ℕ) → b % 2 ^ 63 < 2047 * 2 ^ 52 → (b + 2 ^ 26) / 2 ^ 27 * 2 ^ 27 % 2 ^ 63 ≤ b % 2 ^ 63 + 2 ^ 26
rounded_near b h = omega arith

cut_near : (b : ℕ) → (b - b % 2 ^ 27) % 2 ^ 63 ≤ b % 2 ^ 63
cut_near b = omega arith

-- what is below the pattern of 2 ^ n
pub below : (x : Float) (n : ℕ) → T (fits binary64 x) → n ≤ 1023 → to_bits binary64 x < (1023 + n) * 2 ^ 52 → Within x n
below x n F t h = subst (λ (z : Float). Within z n) (of_bits-to_bits binary64 x F) (of_pattern (to_bits binary64 x) n t (omega arith))

-- a finite float's bits can be rounded, cut and increased, and those of its size are of a number
module _ (x : Float) (F : T (fits binary64 x)) (h : T (finite x)) where
  pub rounded_room : to_bits binary64 x + 2 ^ 26 < 2 ^ 64
  rounded_room = omega (arith, finite_field x F h, to_bits-lt binary64 x F)

  pub rounded_number : T (not (nan_bits binary64 ((to_bits binary64 x + 2 ^ 26) / 2 ^ 27 * 2 ^ 27)))
  rounded_number = no_nan_pattern _ (omega (arith, finite_field x F h))

  pub cut_number : T (not (nan_bits binary64 (to_bits binary64 x - to_bits binary64 x % 2 ^ 27)))
  cut_number = no_nan_pattern _ (omega (arith, finite_field x F h))

  pub next_number : T (not (nan_bits binary64 (to_bits binary64 x + 1)))
  next_number = no_nan_pattern _ (omega (arith, finite_field x F h))

  pub size_number : T (not (nan_bits binary64 (to_bits binary64 x % 2 ^ 63)))
  size_number = no_nan_pattern _ (omega (arith, finite_field x F h))

-- ---- a fused step by errors
module _ {x y z : Float} {i j n : ℕ} (F : T (fits binary64 x)) (G : T (fits binary64 y)) (room : i + j ≤ n) (top : n ≤ 600) (X : Within x i) (Y : Within y j) (Z : Within z n) where
  xh : Within (rounded_high x) (i + 2)
  xh = nearby x _ F (omega arith) (rounded_near (to_bits binary64 x) (omega (arith, pattern x F X))) X

  yh : Within (cut_high y) (j + 2)
  yh = nearby y _ G (omega arith) (omega (arith, cut_near (to_bits binary64 y))) Y

  xl : Within (x ⊖ rounded_high x) (i + 3)
  xl = minus (i + 3) (omega arith) (omega arith) (omega arith) X xh

  yl : Within (y ⊖ cut_high y) (j + 3)
  yl = minus (j + 3) (omega arith) (omega arith) (omega arith) Y yh

  pub product_within : Within (x ⊗ y) n
  product_within = times n room (omega arith) X Y

  pub product_error_within : Within (product_error x y) (n + 8)
  product_error_within =
      plus (n + 8) (omega arith) (omega arith) (omega arith)
      (plus (n + 7) (omega arith) (omega arith) (omega arith)
      (plus (n + 6) (omega arith) (omega arith) (omega arith)
      (minus (n + 5) (omega arith) (omega arith) (omega arith) (times (n + 4) (omega arith) (omega arith) xh yh) product_within)
      (times (n + 5) (omega arith) (omega arith) xh yl)) (times (n + 5) (omega arith) (omega arith) xl yh)) (times (n + 6) (omega arith) (omega arith) xl yl)

  pub total_within : Within (x ⊗ y ⊕ z) (n + 1)
  total_within = plus (n + 1) (omega arith) (omega arith) (omega arith) product_within Z

  back : Within (x ⊗ y ⊕ z ⊖ x ⊗ y) (n + 2)
  back = minus (n + 2) (omega arith) (omega arith) (omega arith) total_within product_within

  pub ordered_within : Within (ordered_sum_error (x ⊗ y) z ⊕ product_error x y) (n + 9)
  ordered_within = plus (n + 9) (omega arith) (omega arith) (omega arith) (minus (n + 3) (omega arith) (omega arith) (omega arith) Z back) product_error_within

  pub error_within : Within (sum_error (x ⊗ y) z ⊕ product_error x y) (n + 9)
  error_within =
      plus (n + 9) (omega arith) (omega arith) (omega arith)
      (plus (n + 5) (omega arith) (omega arith) (omega arith)
      (minus (n + 4) (omega arith) (omega arith) (omega arith) product_within (minus (n + 3) (omega arith) (omega arith) (omega arith) total_within back))
      (minus (n + 3) (omega arith) (omega arith) (omega arith) Z back)) product_error_within

  pub grown : {w : Float} → Within w (n + 9) → Within (x ⊗ y ⊕ z ⊕ w) (n + 10)
  grown h = plus (n + 10) (omega arith) (omega arith) (omega arith) total_within h

-- ---- what lies beside a float, and its sum with another
module _ {s w : Float} (F : T (fits binary64 w)) (S : Within s 1000) (W : Within w 1000) where
  outward_within : Within (outward w) 1002
  outward_within = nearby w _ F (lit≤ tt) (omega (arith, pattern w F W)) W

  pub outward_sum : Within (s ⊕ outward w) 1003
  outward_sum = plus 1003 (lit< tt) (lit< tt) (lit< tt) S outward_within

  pub inward_sum : Within (s ⊕ inward w) 1004
  inward_sum = plus 1004 (lit< tt) (lit< tt) (lit< tt) S (minus 1003 (lit< tt) (lit< tt) (lit< tt) (plus 1001 (lit< tt) (lit< tt) (lit< tt) W W) outward_within)

-- ---- a coefficient
module _ (x : Float) (F : T (fits binary64 x)) (p q : ℕ) (S : CanSplit x p q) where
  high : Within (bits (to_bits binary64 x - to_bits binary64 x % 2 ^ 31)) 1
  high = of_pattern (to_bits binary64 x - to_bits binary64 x % 2 ^ 31) 1 (lit≤ tt) (omega (arith, S.high))

  factor : Within (float p) 19
  factor = whole p 19 (le_of_lt S.factor) (lit≤ tt)

  pub split_within : Within (bits (to_bits binary64 x - to_bits binary64 x % 2 ^ 31) ⊗ float p ⊖ float q ⊕ (x ⊖ bits (to_bits binary64 x - to_bits binary64 x % 2 ^ 31)) ⊗ float p) 22
  split_within =
      plus 22 (lit< tt) (lit< tt) (lit< tt) (minus 21 (lit< tt) (lit< tt) (lit< tt) (times 20 (lit≤ tt) (lit< tt) high factor) (whole q 19 (le_of_lt S.addend) (lit≤ tt)))
      (times 21 (lit≤ tt) (lit< tt) (minus 2 (lit< tt) (lit< tt) (lit< tt) (below x 1 F (lit≤ tt) S.high) high) factor)
