-- `split`: a float cut in two, so that both products and their first sum with the addend are exact. Assumes nothing.
use mathlib.Core.Path.{◌≡◌, refl, sym, ap, ◌∙◌}
use mathlib.Core.Bool.{Bool, true, false, not}
use Prim.Native.Nat.{ℕ, ◌+◌, ◌-◌, ◌*◌, ◌/◌, ◌%◌, ◌^◌, ◌≤◌, ◌<◌}
use native.Mathlib.Nat.{lt_of_lt_of_le, mul_assoc, mul_comm, mul_left_comm, mul-one, zero-lt-suc}
use native.Mathlib.Decide.{dec_le}
use native.Mathlib.Omega.{arith}
use lib.Dec.{T, leb}
use lib.Arith.{lt→nleb}
use lib.Pow.{pow-add, pow_pos, pow_mono, shl_lt}
use lib.Ieee.{Float, binary64, round, neg, sum, add, sub, mul, fits, of_bits, to_bits, nan_bits}
use lib.Ieee.Exact.{HasValue, round_exact}
use lib.Ieee.Bits.{is_false, of_bits-to_bits}
use Rattle.elementary.specs.Ops.{float}
use Rattle.elementary.specs.MulAdd.{fma}
use Rattle.elementary.specs.Inside.Errors.{CanSplit}
use Rattle.elementary.proofs.Laws.Bits.{no_nan_pattern}
use Rattle.elementary.proofs.Laws.Values.{recast, revalue, value_mid, whole_value}
use Rattle.elementary.proofs.Laws.Decode.{same_power}
use Rattle.elementary.proofs.Laws.Adding.{add_at, sub_at, mul_value, neg_value}
use Rattle.elementary.proofs.mul_add.Sums.{sum_same, sum_comm}
use Rattle.std.proofs.lemmas.Nat.{mul-lt}
use Rattle.elementary.proofs.Laws.Errors.Pairs.{Signed, minus_more, minus_less, fma_value}

-- a - b, whose sign and size are s and v, and c
sum_after : (s : Bool) (a b v c d : ℕ) → Signed s a b v → sum binary64 s v false c d ≡ sum binary64 false (a + c) true b d
sum_after false a b v c d e = sum_same binary64 false false v c d refl ∙ ap (λ (w : ℕ). round binary64 false w d) (omega arith) ∙ sym (minus_more (a + c) b d (omega arith))
sum_after true a b v c d e = sum_comm binary64 true false v c d ∙ elim (dec_le v c) [
  | yes h ↦ minus_more c v d h ∙ ap (λ (w : ℕ). round binary64 false w d) (omega arith) ∙ sym (minus_more (a + c) b d (omega arith))
  | no h ↦ minus_less c v d (omega arith) ∙ ap (λ (w : ℕ). round binary64 true w d) (omega arith) ∙ sym (minus_less (a + c) b d (omega arith))
]

whole : (x : Float) (n : ℕ) → HasValue x false n 1 → HasValue x false (n * 2 ^ 64) (2 ^ 64)
whole x n v = revalue x false n 1 (n * 2 ^ 64) (2 ^ 64) (zero-lt-suc 0) (sym (mul-one (n * 2 ^ 64))) v

-- at most 53 digits, by the unit 2 ^ k / 2 ^ 64
exact : {x : Float} (s : Bool) (n k v : ℕ) → n < 2 ^ 53 → k ≤ 64 → v ≡ n * 2 ^ k → x ≡ round binary64 s v (2 ^ 64) → HasValue x s v (2 ^ 64)
exact s n k v N K e i =
    rw i
    (round_exact binary64 s v (2 ^ 64) n (k + 1010) (pow_pos 64) N (lt_of_lt_of_le (shl_lt 53 (k + 1010) N) (pow_mono {i = 53 + (k + 1010)} {j = 2098} (omega arith)))
    (ap (λ (z : ℕ). z * 2 ^ 1074) e ∙ same_power n k 1074 (k + 1010) 64 (omega arith)))

-- ---- x is high and the rest, h * 2 ^ 31 and l by the unit 2 ^ g / 2 ^ 64
module _ (x high y z : Float) (h l p q g : ℕ) (H : h < 2 ^ 22) (L : l < 2 ^ 31) (P : p < 2 ^ 19) (Q : q < 2 ^ 19) (G : g ≤ 12)
    (X : HasValue x false ((h * 2 ^ 31 + l) * 2 ^ g) (2 ^ 64)) (U : HasValue high false (h * 2 ^ 31 * 2 ^ g) (2 ^ 64)) (Y : HasValue y false p 1) (Z : HasValue z false q 1) where
  abbrev d : ℕ
  d = 2 ^ 64

  abbrev u : ℕ
  u = h * 2 ^ 31 * 2 ^ g

  abbrev v : ℕ
  v = l * 2 ^ g

  abbrev w : Float
  w = sub binary64 (mul binary64 high y) z

  rest : HasValue (sub binary64 x high) false v d
  rest =
      exact false l g v (omega arith) (omega arith) refl
      (sub_at x high false false ((h * 2 ^ 31 + l) * 2 ^ g) u d (pow_pos 64) X U ∙ minus_more ((h * 2 ^ 31 + l) * 2 ^ g) u d (omega arith) ∙ ap (λ (w : ℕ). round binary64 false w d) (omega arith))

  product : HasValue (mul binary64 high y) false (u * p) d
  product =
      exact false (h * p) (31 + g) (u * p) (lt_of_lt_of_le (mul-lt h p (2 ^ 22) (2 ^ 19) H P) (pow_mono {i = 41} {j = 53} (omega arith))) (omega arith)
      (rw (pow-add 2 31 g) (simp (mul_assoc, mul_comm, mul_left_comm))) (mul_value high y false false u p d 1 (pow_pos 64) (zero-lt-suc 0) U Y)

  rest_product : HasValue (mul binary64 (sub binary64 x high) y) false (v * p) d
  rest_product =
      exact false (l * p) g (v * p) (lt_of_lt_of_le (mul-lt l p (2 ^ 31) (2 ^ 19) L P) (pow_mono {i = 50} {j = 53} (omega arith))) (omega arith)
      (omega arith) (mul_value (sub binary64 x high) y false false v p d 1 (pow_pos 64) (zero-lt-suc 0) rest Y)

  -- the first sum, by the unit 2 ^ 31
  first : (s : Bool) × (a : ℕ) × (HasValue w s a d) × (Signed s (u * p) (q * d) a)
  first =
      let n = h * p * 2 ^ g in
      let e : u * p ≡ n * 2 ^ 31 = omega arith in
      let small : n < 2 ^ 53 = lt_of_lt_of_le (shl_lt 41 g (mul-lt h p (2 ^ 22) (2 ^ 19) H P)) (pow_mono {i = 41 + g} {j = 53} (omega arith)) in
      let by_sum = sub_at (mul binary64 high y) z false false (u * p) (q * d) d (pow_pos 64) product (whole z q Z) in
      elim (dec_le (q * d) (u * p)) [
        | yes k ↦ (false, u * p - q * d, exact false (n - q * 2 ^ 33) 31 (u * p - q * d) (omega arith) (omega arith) (omega arith) (by_sum ∙ minus_more (u * p) (q * d) d k), omega arith)
        | no k ↦ (true, q * d - u * p, exact true (q * 2 ^ 33 - n) 31 (q * d - u * p) (omega arith) (omega arith) (omega arith) (by_sum ∙ minus_less (u * p) (q * d) d (omega arith)), omega arith)
      ]

  parts_is : add binary64 w (mul binary64 (sub binary64 x high) y) ≡ fma binary64 x y (neg z)
  parts_is =
      add_at w (mul binary64 (sub binary64 x high) y) first.0 false first.1 (v * p) d (pow_pos 64) first.2 rest_product
      ∙ sum_after first.0 (u * p) (q * d) first.1 (v * p) d first.3
      ∙ ap (λ (w : ℕ). sum binary64 false w true (q * d) d) (omega arith)
      ∙ sym (fma_value x y (neg z) false false true ((h * 2 ^ 31 + l) * 2 ^ g) (p * d) (q * d) d ((h * 2 ^ 31 + l) * 2 ^ g * p) (pow_pos 64) X (whole y p Y) (neg_value z false (q * d) d (whole z q Z)) (omega arith))

-- ---- the parts of a float by its bits: n digits by the unit 2 ^ g / 2 ^ 64
by_unit : (b n g : ℕ) → 2 ^ 52 + b % 2 ^ 52 ≡ n → b / 2 ^ 52 ≡ 1011 + g → g ≤ 12 → HasValue (of_bits binary64 b) false (n * 2 ^ g) (2 ^ 64)
by_unit b n g e f l =
    recast (of_bits binary64 b) (2 ^ 64) (is_false (leb (2 ^ 63) b) (lt→nleb (2 ^ 63) b (omega arith))) refl
    (revalue (of_bits binary64 b) (leb (2 ^ 63) b) (n * 2 ^ (g + 1010)) (2 ^ 1074) (n * 2 ^ g) (2 ^ 64) (pow_pos 1074) (same_power n (g + 1010) 64 g 1074 (omega arith))
    (rw e at (value_mid b (g + 1010) (omega arith) (omega arith))))

module _ (x : Float) (F : T (fits binary64 x)) (p q : ℕ) (S : CanSplit x p q) where
  abbrev b : ℕ
  b = to_bits binary64 x

  abbrev c : ℕ
  c = b - b % 2 ^ 31

  pub high_number : T (not (nan_bits binary64 c))
  high_number = no_nan_pattern c (omega (arith, S.high))

  pub split_is : add binary64 (sub binary64 (mul binary64 (of_bits binary64 c) (float p)) (float q)) (mul binary64 (sub binary64 x (of_bits binary64 c)) (float p)) ≡ fma binary64 x (float p) (neg (float q))
  split_is =
      let g = b / 2 ^ 52 - 1011 in
      let h = (2 ^ 52 + b % 2 ^ 52) / 2 ^ 31 in
      let l = b % 2 ^ 31 in
      let lo = S.low in
      let hi = S.high in
      parts_is x (of_bits binary64 c) (float p) (float q) h l p q g (omega arith) (omega arith) S.factor S.addend (omega arith)
      (rw (of_bits-to_bits binary64 x F) at (by_unit b (h * 2 ^ 31 + l) g (omega arith) (omega arith) (omega arith))) (by_unit c (h * 2 ^ 31) g (omega arith) (omega arith) (omega arith))
      (whole_value p (omega (arith, S.factor))) (whole_value q (omega (arith, S.addend)))
