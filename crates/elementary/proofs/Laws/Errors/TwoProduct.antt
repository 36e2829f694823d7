-- A product's rounding error as a float: four exact products and their exact sums. Assumes nothing.
use mathlib.Core.Path.{◌≡◌, refl, sym, ap, ◌∙◌, subst}
use Prim.Native.Nat.{ℕ, ◌+◌, ◌-◌, ◌*◌, ◌^◌, ◌≤◌, ◌<◌}
use native.Mathlib.Nat.{le_trans, le_of_eq, le_of_lt, lt_of_lt_of_le, lt_of_le_of_lt, not-le_of_lt, le_of_mul-le-mul_right, mul-le-mul, mul-le-mul_right, mul_assoc, add-mul}
use native.Mathlib.Decide.{dec_le}
use native.Mathlib.Omega.{arith}
use lib.Pow.{pow-add, pow_pos, pow_mono, shl_lt}
use lib.Ieee.{Float, binary64, mul, add, sub}
use lib.Ieee.Digits.{size-le}
use Rattle.elementary.specs.MulAdd.{fma}
use Rattle.elementary.proofs.Laws.Decode.{split_power}
use Rattle.elementary.proofs.Laws.Errors.Digits.{ex, ex_lt, dist, dist_mul, Mult, mult_down, Short, turned, short_times, near, near_mult, near_half, near_sides, near_dist}
use Rattle.elementary.proofs.Laws.Errors.Pairs.{bound, in_bound, Is, NearPair, near_is, exact_is, add_exact, sub_exact, mul_rounds, fma_rounds, dist_product}
use Rattle.std.proofs.lemmas.Nat.{mul-lt}

-- ---- differences by the unit 2 ^ (k + g)
unit_dist : (u v k g : ℕ) → dist (u * 2 ^ k * 2 ^ g) (v * 2 ^ k * 2 ^ g) ≡ dist u v * 2 ^ (k + g)
unit_dist u v k g = sym (dist_mul u v (2 ^ (k + g)) ∙ rw (split_power u (k + g) k g refl, split_power v (k + g) k g refl))

short_unit : (u v k g : ℕ) → dist u v ≤ 2 ^ 53 → Short (dist (u * 2 ^ k * 2 ^ g) (v * 2 ^ k * 2 ^ g))
short_unit u v k g h = rw (← split_power u (k + g) k g refl, ← split_power v (k + g) k g refl) (short_times u v (k + g) h)

-- ---- products by the units of the factors
module _ {x y : Float} {k l : ℕ} (a b c d i j g : ℕ) (E : i + j ≡ g + 1074) (X : Is x (a * 2 ^ i) (b * 2 ^ i) k) (Y : Is y (c * 2 ^ j) (d * 2 ^ j) l) where
  scale : (a c b d : ℕ) → a * 2 ^ i * (c * 2 ^ j) + b * 2 ^ i * (d * 2 ^ j) ≡ (a * c + b * d) * 2 ^ g * 2 ^ 1074
  scale a c b d =
      omega arith
      ∙ ap (λ (z : ℕ). (a * c + b * d) * z) (sym (pow-add 2 i j) ∙ ap (λ (z : ℕ). 2 ^ z) E ∙ pow-add 2 g 1074)
      ∙ sym (mul_assoc (a * c + b * d) (2 ^ g) (2 ^ 1074))

  product_rounds : NearPair (mul binary64 x y) ((a * c + b * d) * 2 ^ g) ((a * d + b * c) * 2 ^ g)
  product_rounds = mul_rounds X Y ((a * c + b * d) * 2 ^ g) ((a * d + b * c) * 2 ^ g) (scale a c b d) (scale a d b c)

  fused_rounds : {w : Float} {m n h : ℕ} → Is w m n h → NearPair (fma binary64 x y w) ((a * c + b * d) * 2 ^ g + m) ((a * d + b * c) * 2 ^ g + n)
  fused_rounds W = fma_rounds X Y ((a * c + b * d) * 2 ^ g) ((a * d + b * c) * 2 ^ g) (scale a c b d) (scale a d b c) W

  product_exact : (u v e : ℕ) → a * c + b * d ≡ u * 2 ^ e → a * d + b * c ≡ v * 2 ^ e → dist u v ≤ 2 ^ 53 → e + g ≤ 2000 → Is (mul binary64 x y) (u * 2 ^ e * 2 ^ g) (v * 2 ^ e * 2 ^ g) 1
  product_exact u v e p q h r =
      exact_is (rw (p, q) at product_rounds) (short_unit u v e g h) 1
      (le_trans (le_of_eq (unit_dist u v e g)) (in_bound (dist u v) 53 (e + g) h (omega arith))) (omega arith)

product_top : (i j a b c d : ℕ) → dist a b ≤ 2 ^ i → dist c d ≤ 2 ^ j → dist (a * c + b * d) (a * d + b * c) ≤ 2 ^ (i + j)
product_top i j a b c d h k = le_trans (le_of_eq (sym (dist_product a b c d))) (le_trans (mul-le-mul h k) (le_of_eq (sym (pow-add 2 i j))))

-- ---- a rounded product of 105 or 106 digits
module _ (z z' g : ℕ) (Z : (2 ^ 104 ≤ dist z z') × (dist z z' < 2 ^ 106)) where
  abbrev n : ℕ
  n = z * 2 ^ g

  abbrev m : ℕ
  m = z' * 2 ^ g

  size_is : dist n m ≡ dist z z' * 2 ^ g
  size_is = sym (dist_mul z z' (2 ^ g))

  reached : 2 ^ (104 + g) ≤ dist n m
  reached = le_trans (le_of_eq (pow-add 2 104 g)) (le_trans (mul-le-mul_right (2 ^ g) Z.0) (le_of_eq (sym size_is)))

  nearest : Mult (near (dist n m)) (52 + g)
  nearest = elim (dec_le (52 + g) (ex (dist n m))) [
    | yes h ↦ mult_down (near (dist n m)) (52 + g) (ex (dist n m)) h (near_mult (dist n m))
    | no h ↦ absurd (not-le_of_lt (lt_of_lt_of_le (ex_lt (dist n m)) (pow_mono {i = 53 + ex (dist n m)} {j = 104 + g} (omega arith))) reached)
  ]

  -- the rounded product by the unit 2 ^ (52 + g)
  sides : (p : ℕ) × (p' : ℕ) × (near (n - m) ≡ p * 2 ^ 52 * 2 ^ g) × (near (m - n) ≡ p' * 2 ^ 52 * 2 ^ g)
  sides =
      let q = nearest.0 in
      let e = nearest.1 ∙ split_power q (52 + g) 52 g refl in
      elim (dec_le n m) [
        | yes h ↦ let s = near_sides n m (dist n m) (omega arith) in (0, q, omega (arith, s.0), s.1 ∙ e)
        | no h ↦ let s = near_sides m n (dist n m) (omega arith) in (q, 0, s.1 ∙ e, omega (arith, s.0))
      ]

  close : dist (sides.0 * 2 ^ 52 + z') (sides.1 * 2 ^ 52 + z) ≤ 2 ^ 53
  close =
      let x = sides.0 * 2 ^ 52 in
      let y = sides.1 * 2 ^ 52 in
      let e : dist (near (n - m) + m) (near (m - n) + n) ≡ dist (x + z') (y + z) * 2 ^ g = rw (sides.2, sides.3, ← add-mul x z' (2 ^ g), ← add-mul y z (2 ^ g)) (sym (dist_mul (x + z') (y + z) (2 ^ g))) in
      let h : 2 ^ ex (dist n m) ≤ 2 ^ (53 + g) = pow_mono (omega (arith, size-le (dist n m) (106 + g) (lt_of_le_of_lt (le_of_eq size_is) (shl_lt 106 g Z.1)))) in
      le_of_mul-le-mul_right {k = 2 ^ g} (le_trans (le_of_eq (sym e ∙ (near_dist n m).1)) (le_trans (omega (arith, near_half (dist n m))) (le_of_eq (pow-add 2 53 g)))) (pow_pos g)

-- ---- a factor x, cut: h - h' by the unit 2 ^ (27 + i) and l - l' by the unit 2 ^ i
pub record Factor (x xh : Float) (i h h' l l' t : ℕ) : Type 0 where
  pub whole : Is x ((h * 2 ^ 27 + l) * 2 ^ i) ((h' * 2 ^ 27 + l') * 2 ^ i) 1
  pub high : Is xh (h * 2 ^ 27 * 2 ^ i) (h' * 2 ^ 27 * 2 ^ i) 1
  pub h_top : dist h h' ≤ 2 ^ 26
  pub l_top : dist l l' ≤ 2 ^ t
  pub span : (2 ^ 52 ≤ dist (h * 2 ^ 27 + l) (h' * 2 ^ 27 + l')) × (dist (h * 2 ^ 27 + l) (h' * 2 ^ 27 + l') < 2 ^ 53)

low_is : {x xh : Float} (i h h' l l' t : ℕ) → t ≤ 27 → Factor x xh i h h' l l' t → Is (sub binary64 x xh) (l * 2 ^ 0 * 2 ^ i) (l' * 2 ^ 0 * 2 ^ i) 2
low_is i h h' l l' t T X = sub_exact X.whole X.high (l * 2 ^ 0 * 2 ^ i) (l' * 2 ^ 0 * 2 ^ i) (omega arith) (short_unit l l' 0 i (le_trans X.l_top (pow_mono {i = t} {j = 53} (omega arith)))) (omega arith)

both : (x y k : ℕ) → dist x y ≤ k → (x ≤ y + k) × (y ≤ x + k)
both x y k h = omega arith

-- a, b, c, d are the products of the parts, q the rounded product, z the product: the partial sums have at most 53 digits, and the last one is z less the rounded product
sums : (a a' b b' c c' d d' q q' z z' : ℕ) → z ≡ a * 2 ^ 54 + b * 2 ^ 27 + c * 2 ^ 27 + d → z' ≡ a' * 2 ^ 54 + b' * 2 ^ 27 + c' * 2 ^ 27 + d'
    → (b ≤ b' + 2 ^ 53) × (b' ≤ b + 2 ^ 53) → (c ≤ c' + 2 ^ 52) × (c' ≤ c + 2 ^ 52) → (d ≤ d' + 2 ^ 53) × (d' ≤ d + 2 ^ 53) → (q * 2 ^ 52 + z' ≤ q' * 2 ^ 52 + z + 2 ^ 53) × (q' * 2 ^ 52 + z ≤ q * 2 ^ 52 + z' + 2 ^ 53)
    → (dist (a * 4 + q') (a' * 4 + q) ≤ 2 ^ 53) × (dist (a * 2 ^ 27 + q' * 2 ^ 25 + b) (a' * 2 ^ 27 + q * 2 ^ 25 + b') ≤ 2 ^ 53) × (dist (a * 2 ^ 27 + q' * 2 ^ 25 + b + c) (a' * 2 ^ 27 + q * 2 ^ 25 + b' + c') ≤ 2 ^ 53)
sums a a' b b' c c' d d' q q' z z' e e' B C D Q = omega arith

last : (a a' b b' c c' d d' q q' z z' p : ℕ) → z ≡ a * 2 ^ 54 + b * 2 ^ 27 + c * 2 ^ 27 + d → z' ≡ a' * 2 ^ 54 + b' * 2 ^ 27 + c' * 2 ^ 27 + d'
    → (a * 2 ^ 27 + q' * 2 ^ 25 + b + c) * 2 ^ 27 * p + d * 2 ^ 0 * p + (z' * p + q * 2 ^ 52 * p) ≡ z * p + q' * 2 ^ 52 * p + ((a' * 2 ^ 27 + q * 2 ^ 25 + b' + c') * 2 ^ 27 * p + d' * 2 ^ 0 * p)
last a a' b b' c c' d d' q q' z z' p e e' = omega (arith, ap (λ (w : ℕ). w * p) e, ap (λ (w : ℕ). w * p) e')

module _ {x xh y yh : Float} {h h' l l' s s' k k' i j : ℕ} (g : ℕ) (E : (i + j ≡ g + 1074) × (g ≤ 1900)) (X : Factor x xh i h h' l l' 26) (Y : Factor y yh j s s' k k' 27) where
  abbrev pub z : ℕ
  z = (h * 2 ^ 27 + l) * (s * 2 ^ 27 + k) + (h' * 2 ^ 27 + l') * (s' * 2 ^ 27 + k')

  abbrev pub z' : ℕ
  z' = (h * 2 ^ 27 + l) * (s' * 2 ^ 27 + k') + (h' * 2 ^ 27 + l') * (s * 2 ^ 27 + k)

  z_span : (2 ^ 104 ≤ dist z z') × (dist z z' < 2 ^ 106)
  z_span = subst (λ (w : ℕ). (2 ^ 104 ≤ w) × (w < 2 ^ 106)) (dist_product (h * 2 ^ 27 + l) (h' * 2 ^ 27 + l') (s * 2 ^ 27 + k) (s' * 2 ^ 27 + k')) (mul-le-mul X.span.0 Y.span.0, mul-lt _ _ (2 ^ 53) (2 ^ 53) X.span.1 Y.span.1)

  pub z_bound : dist (z * 2 ^ g) (z' * 2 ^ g) ≤ 1 * bound
  z_bound = le_trans (le_of_eq (size_is z z' g z_span)) (in_bound (dist z z') 106 g (le_of_lt z_span.1) (omega arith))

  pub rounded : Is (mul binary64 x y) (near (z * 2 ^ g - z' * 2 ^ g)) (near (z' * 2 ^ g - z * 2 ^ g)) 2
  rounded = near_is (product_rounds (h * 2 ^ 27 + l) (h' * 2 ^ 27 + l') (s * 2 ^ 27 + k) (s' * 2 ^ 27 + k') i j g E.0 X.whole Y.whole) 1 z_bound (omega arith)

  pub fused : {w : Float} {m n h : ℕ} → Is w m n h → NearPair (fma binary64 x y w) (z * 2 ^ g + m) (z' * 2 ^ g + n)
  fused W = fused_rounds (h * 2 ^ 27 + l) (h' * 2 ^ 27 + l') (s * 2 ^ 27 + k) (s' * 2 ^ 27 + k') i j g E.0 X.whole Y.whole W

  pub error_is : Is (add binary64 (add binary64 (add binary64 (sub binary64 (mul binary64 xh yh) (mul binary64 x y)) (mul binary64 xh (sub binary64 y yh))) (mul binary64 (sub binary64 x xh) yh)) (mul binary64 (sub binary64 x xh) (sub binary64 y yh)))
      (z * 2 ^ g + near (z' * 2 ^ g - z * 2 ^ g)) (z' * 2 ^ g + near (z * 2 ^ g - z' * 2 ^ g)) 6
  error_is =
      let a = h * s + h' * s' in
      let a' = h * s' + h' * s in
      let b = h * k + h' * k' in
      let b' = h * k' + h' * k in
      let c = l * s + l' * s' in
      let c' = l * s' + l' * s in
      let d = l * k + l' * k' in
      let d' = l * k' + l' * k in
      let e : z ≡ a * 2 ^ 54 + b * 2 ^ 27 + c * 2 ^ 27 + d = omega arith in
      let e' : z' ≡ a' * 2 ^ 54 + b' * 2 ^ 27 + c' * 2 ^ 27 + d' = omega arith in
      let r = sides z z' g z_span in
      let q = r.0 in
      let q' = r.1 in
      let near_z = close z z' g z_span in
      let yl = low_is j s s' k k' 27 (omega arith) Y in
      let xl = low_is i h h' l l' 26 (omega arith) X in
      let a_top = product_top 26 26 h h' s s' X.h_top Y.h_top in
      let b_top = product_top 26 27 h h' k k' X.h_top Y.l_top in
      let c_top = product_top 26 26 l l' s s' X.l_top Y.h_top in
      let d_top = product_top 26 27 l l' k k' X.l_top Y.l_top in
      let top = sums a a' b b' c c' d d' q q' z z' e e' (both b b' (2 ^ 53) b_top) (both c c' (2 ^ 52) c_top) (both d d' (2 ^ 53) d_top) (both (q * 2 ^ 52 + z') (q' * 2 ^ 52 + z) (2 ^ 53) near_z) in
      let A = product_exact (h * 2 ^ 27) (h' * 2 ^ 27) (s * 2 ^ 27) (s' * 2 ^ 27) i j g E.0 X.high Y.high a a' 54 (omega arith) (omega arith) (le_trans a_top (pow_mono {i = 52} {j = 53} (omega arith))) (omega arith) in
      let B = product_exact (h * 2 ^ 27) (h' * 2 ^ 27) (k * 2 ^ 0) (k' * 2 ^ 0) i j g E.0 X.high yl b b' 27 (omega arith) (omega arith) b_top (omega arith) in
      let C = product_exact (l * 2 ^ 0) (l' * 2 ^ 0) (s * 2 ^ 27) (s' * 2 ^ 27) i j g E.0 xl Y.high c c' 27 (omega arith) (omega arith) (le_trans c_top (pow_mono {i = 52} {j = 53} (omega arith))) (omega arith) in
      let D = product_exact (l * 2 ^ 0) (l' * 2 ^ 0) (k * 2 ^ 0) (k' * 2 ^ 0) i j g E.0 xl yl d d' 0 (omega arith) (omega arith) d_top (omega arith) in
      let P : Is (mul binary64 x y) (q * 2 ^ 52 * 2 ^ g) (q' * 2 ^ 52 * 2 ^ g) 2 = rw (r.2, r.3) at rounded in
      let u = a * 4 + q' in
      let u' = a' * 4 + q in
      let v = a * 2 ^ 27 + q' * 2 ^ 25 + b in
      let v' = a' * 2 ^ 27 + q * 2 ^ 25 + b' in
      let S1 = sub_exact A P (u * 2 ^ 52 * 2 ^ g) (u' * 2 ^ 52 * 2 ^ g) (omega arith) (short_unit u u' 52 g top.0) (omega arith) in
      let S2 = add_exact S1 B (v * 2 ^ 27 * 2 ^ g) (v' * 2 ^ 27 * 2 ^ g) (omega arith) (short_unit v v' 27 g top.1) (omega arith) in
      let S3 = add_exact S2 C ((v + c) * 2 ^ 27 * 2 ^ g) ((v' + c') * 2 ^ 27 * 2 ^ g) (omega arith) (short_unit (v + c) (v' + c') 27 g top.2) (omega arith) in
      let w = q * 2 ^ 52 + z' in
      let w' = q' * 2 ^ 52 + z in
      let N = z * 2 ^ g + q' * 2 ^ 52 * 2 ^ g in
      let M = z' * 2 ^ g + q * 2 ^ 52 * 2 ^ g in
      rw (r.2, r.3)
      (add_exact S3 D N M (last a a' b b' c c' d d' q q' z z' (2 ^ g) e e') (turned (w * 2 ^ 0 * 2 ^ g) (w' * 2 ^ 0 * 2 ^ g) N M (swap (q * 2 ^ 52) (q' * 2 ^ 52) z z' (2 ^ g)) (short_unit w w' 0 g near_z)) (omega arith))
    where
      swap : (q q' z z' p : ℕ) → (q + z') * 2 ^ 0 * p + (z * p + q' * p) ≡ (q' + z) * 2 ^ 0 * p + (z' * p + q * p)
      swap q q' z z' p = omega arith
