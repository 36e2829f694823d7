-- Where the definitions give finite numbers: exp of a number that is not above 0, and the cdf from -39 to 39. So the bisection behind the inverse
-- meets no NaN. The bounds are coarse: most are powers of two. Assumes nothing.
use mathlib.Core.Path.{◌≡◌, refl, sym}
use mathlib.Core.Bool.{Bool, true, false, ◌&&◌, cond}
use mathlib.Core.List.{List, [], ◌∷◌}
use mathlib.Core.Logic.{◌⊎◌, inl, inr, ⊎_elim}
use Prim.Native.Nat.{ℕ, zero, suc, ◌+◌, ◌-◌, ◌*◌, ◌/◌, ◌^◌, ◌≤◌, ◌<◌, min}
use native.Mathlib.Nat.{le_refl, le_trans, le_of_eq, lt_of_not-le, mul_comm, mul-one, mul-zero, mul-suc, add-zero, zero-add, mul-le-mul, mul-le-mul_left, mul-le-mul_right, le-mul_of_pos_right, mul-pos, div-le_of_le-mul, div-mul-le_self, div-lt_iff_lt-mul, le-div_iff_mul-le, le_of_mul-le-mul_right, min-le_left}
use native.Mathlib.Numerals.{add-one}
use native.Mathlib.Omega.{arith}
use lib.Dec.{T, leb, leb→le, lt→ltb, lit<, lit≤}
use lib.ListN.{length}
use lib.Pow.{pow-add, pow_pos, pow_mono}
use lib.IntN.{ℤ, pos, neg_ℤ}
use borrow.Author.Tests.{le-ltb}
use lib.Ieee.{Float, nan, inf, fin, binary64, up, down, fits, sum, neg, lt, le, eq, of_bits, of_int, to_signed}
use lib.Ieee.Fits.{down_pos, and_l, and_r, mul-fits}
use lib.Ieee.Exact.{HasValue}
use lib.Ieee.Scale.{finite}
use lib.Ieee.Order.{le_of_values}
use lib.Ieee.Positive.{num, den, positive, den_pos, own_value, first_pos}
use lib.Ieee.Back.{round_whole}
use Rattle.elementary.specs.Ops.{◌⊕◌, ◌⊖◌, ◌⊗◌, ◌⊘◌, float, +0, one, two, four}
use Rattle.elementary.specs.Floor.{floor_size}
use Rattle.elementary.specs.Exp.{LARGEST, LEAST, exp_sum, scaled, exp_k, exp_r, exp_inner, exp_of}
use Rattle.elementary.specs.Cody.{THRESHOLD, FRAC_1_SQRT_PI, XBIG, erfcx_above_threshold, erfc_abs, erfc_of, A, B, C, D, P, Q, tilde_of, smoothened_exponential_of_negative_square, ab_of, cd_of, pq_of}
use Rattle.elementary.specs.declared.rule_set.RuleSet.{RuleSet}
use Rattle.elementary.specs.Methods.{abs_of}
use Rattle.elementary.specs.NormalDistribution.{FRAC_1_SQRT_2, cdf_of, lowest, highest}
use Rattle.elementary.specs.Inside.Bounds.{AtMost, Side, sized, Over, reaches}
use Rattle.elementary.proofs.Laws.Compare.{equal_itself}
use Rattle.elementary.proofs.Laws.Order.{le→fractions}
use Rattle.elementary.proofs.Laws.Bits.{abs_fits}
use Rattle.elementary.proofs.Laws.Values.{revalue}
use Rattle.elementary.proofs.Laws.Adding.{sub_at}
use Rattle.elementary.proofs.Laws.Close.{Values, tilde_at, sixteenths_value}
use Rattle.elementary.proofs.Laws.Bounds.{side_finite, Exact, pow_exact, small_exact, unsigned, wider, value_side, value_over, neg_side, round_side, mul_side, square_over, add_at_most, sub_at_most, add_side, add_over, div_side, floor_side, sum_low, either}

whole_over : (n : ℕ) → suc n ≤ 2 ^ 53 → Over (float (suc n)) 0
unfolding of_int
whole_over n h = value_over (suc n) 1 0 (lit< tt) (round_whole binary64 false (suc n) h) (omega arith)

-- ---- the sum inside exp: each step multiplies the bound by 2 ^ 17
step_at_most : (i j : ℕ) (r p : Float) → i < 13 → j < 900 → AtMost r (2 ^ 16) → AtMost p (2 ^ j) → AtMost (one ⊕ r ⊗ p ⊘ float (suc i)) (2 ^ suc (16 + j))
unfolding of_bits
step_at_most i j r p a b h k =
    let E = pow_exact (16 + j) (omega arith) in
    let product = mul_side (2 ^ (16 + j)) E (le_of_eq (sym (pow-add 2 16 j))) h.side k.side in
    add_at_most {a = 1} (2 ^ suc (16 + j)) (pow_exact (suc (16 + j)) (omega arith)) (omega (arith, pow_pos (16 + j))) (sized _ _ (lit≤ tt))
    (div_side {j = 0} (2 ^ (16 + j)) E (le_of_eq (mul-one (2 ^ (16 + j)))) product (whole_over i (omega arith)))

sum_at_most : (n j : ℕ) (r p : Float) → n ≤ 13 → 17 * n + j < 917 → AtMost r (2 ^ 16) → AtMost p (2 ^ j) → AtMost (exp_sum n r p) (2 ^ (17 * n + j))
unfolding exp_sum
sum_at_most zero j r p a b h k = rw zero-add k
sum_at_most (suc i) j r p a b h k =
    let e : 17 * suc i + j ≡ 17 * i + suc (16 + j) = omega arith in
    rw e (sum_at_most i (suc (16 + j)) r _ (omega arith) (omega arith) h (step_at_most i j r p (omega arith) (omega arith) h k))

-- ---- k and r, for a y that is not above 0
module _ {y : Float} (h : Side y true (2 ^ 12)) where
  k_side : Side (exp_k y) true (2 ^ 13) ⊎ Side (exp_k y) false 1
  unfolding of_bits
  k_side =
      ⊎_elim (λ w. inl (floor_side (pow_exact 13 (lit< tt)) w)) (λ w. inr (floor_side (small_exact 1 (lit≤ tt)) w))
      (sum_low (pow_exact 13 (lit< tt)) (mul_side {b = 2} (2 ^ 13) (pow_exact 13 (lit< tt)) (lit≤ tt) h (sized _ _ (lit≤ tt))) (sized _ _ (lit≤ tt)))

  k_at_most : AtMost (exp_k y) (2 ^ 13)
  k_at_most = ⊎_elim unsigned (λ w. unsigned (wider (2 ^ 13) (lit≤ tt) w)) k_side

  part : {c : Float} → Side c false 1 → AtMost (exp_k y ⊗ c) (2 ^ 13)
  part k = unsigned (mul_side (2 ^ 13) (pow_exact 13 (lit< tt)) (lit≤ tt) k_at_most.side k)

  r_at_most : AtMost (exp_r y) (2 ^ 16)
  unfolding of_bits
  r_at_most =
      sub_at_most (2 ^ 16) (pow_exact 16 (lit< tt)) (lit≤ tt)
      (sub_at_most (2 ^ 15) (pow_exact 15 (lit< tt)) (lit≤ tt) h (part (sized _ _ (lit≤ tt))).side).side
      (part (sized _ _ (lit≤ tt))).side

-- 2 ^ k is at most 2
up_neg : (n : ℕ) → up (neg_ℤ (pos n)) ≤ 2
up_neg zero = lit≤ tt
up_neg (suc n) = lit≤ tt

power_low : {x : Float} {b : ℕ} → Side x true b ⊎ Side x false 1 → up (to_signed 63 x) ≤ 2
unfolding to_signed
power_low (inl (sized m e h)) = up_neg (min (m * up e / down e) (2 ^ 63))
power_low (inr (sized m e h)) =
    le_trans (pow_mono (le_trans (min-le_left (m * up e / down e) (2 ^ 63 - 1)) (div-le_of_le-mul (down e) (le_trans h (le_of_eq (mul_comm 1 (down e))))))) (lit≤ {m = 2 ^ 1} {n = 2} tt)

scaled_at_most : {p : Float} {s : Bool} {b : ℕ} (k : ℤ) (c : ℕ) → Exact c → b * 2 ≤ c → up k ≤ 2 → Side p s b → AtMost (scaled binary64 p k) c
unfolding scaled
scaled_at_most {s} k c C l u (sized m e h) =
    unsigned (round_side (m * up e * up k) (down e * down k) c (mul-pos (down_pos e) (down_pos k)) C
    (omega (arith, mul-le-mul h u, mul-le-mul_right (down e) l, mul-le-mul_left c (le-mul_of_pos_right (down e) (down_pos k)))) s)

-- ---- exp of a y that is not above 0
not_large : {y : Float} {b : ℕ} → Side y true b → lt LARGEST y ≡ false
unfolding lt of_bits
not_large (sized m e h) = refl

exp_at_most : {y : Float} → Side y true (2 ^ 12) → AtMost (exp_of y) (2 ^ 222)
unfolding exp_of exp_inner of_bits
exp_at_most {y} h =
    rw (equal_itself y (side_finite h), not_large h)
    (either (lt y LEAST) (unsigned (sized _ _ (lit≤ tt)))
    (scaled_at_most (to_signed 63 (exp_k y)) (2 ^ 222) (pow_exact 222 (lit< tt)) (lit≤ {m = 2 ^ 221 * 2} tt) (power_low (k_side h))
    (sum_at_most 13 0 (exp_r y) one (lit≤ tt) (lit< tt) (r_at_most h) (unsigned (sized _ _ (lit≤ tt)))).side))

-- ---- Cody's rationals. None of their numbers is negative
abbrev below : ℕ → Float → Bool
below b x = positive x && leb (num x) (b * den x)

by_test : {x : Float} {b : ℕ} → T (below b x) → Side x false b
by_test {x} {b} t =
    let small = leb (num x) (b * den x) in
    value_side (num x) (den x) b (den_pos x) (own_value x (and_l (positive x) small t)) (leb→le (num x) (b * den x) (and_r (positive x) small t))

-- every number of the six tables is below this
abbrev TOP : ℕ
TOP = 2 ^ 13

horner : {w y c : Float} (i j : ℕ) → i + j < 1023 → 13 ≤ i + j → Side w false (2 ^ i) → Side y false (2 ^ j) → Side c false TOP → Side (w ⊗ y ⊕ c) false (2 ^ suc (i + j))
horner i j l k h y c =
    add_side (2 ^ suc (i + j)) (pow_exact (suc (i + j)) (omega arith)) (omega (arith, pow_mono {i = 13} {j = i + j} k))
    (mul_side (2 ^ (i + j)) (pow_exact (i + j) (omega arith)) (le_of_eq (sym (pow-add 2 i j))) h y) c

-- the Horner steps from w over a list of coefficients
poly : Float → List Float → Float → Float
poly w [] y = w
poly w (c ∷ cs) y = poly (w ⊗ y ⊕ c) cs y

all_below : List Float → Bool
all_below [] = true
all_below (c ∷ cs) = below TOP c && all_below cs

poly_side : (cs : List Float) {w y : Float} (i j : ℕ) → i + suc j * length cs < 1000 → 13 ≤ i → Side w false (2 ^ i) → Side y false (2 ^ j) → T (all_below cs)
    → Side (poly w cs y) false (2 ^ (i + suc j * length cs))
unfolding poly all_below
poly_side [] i j l k h y t = rw (mul-zero, add-zero) h
poly_side (c ∷ cs) i j l k h y t =
    let e : i + suc j * suc (length cs) ≡ suc (i + j) + suc j * length cs = rw mul-suc (omega arith) in
    rw e
    (poly_side cs (suc (i + j)) j (rw e at l) (omega arith)
    (horner i j (omega (arith, rw e at l)) (omega arith) h y (by_test (and_l (below TOP c) (all_below cs) t))) y (and_r (below TOP c) (all_below cs) t))

-- n / (v × y + c), for a c of 2 ^ -q at least
rational : {n v y c : Float} (i k j q : ℕ) → i + q < 1024 → k + j < 1023 → 13 ≤ k + j → q ≤ 1074
    → Side n false (2 ^ i) → Side v false (2 ^ k) → Side y false (2 ^ j) → Side c false TOP → Over c q → Side (n ⊘ (v ⊗ y ⊕ c)) false (2 ^ (i + q))
rational i k j q a b d e hn hv hy hc ho =
    div_side (2 ^ (i + q)) (pow_exact (i + q) a) (le_of_eq (sym (pow-add 2 i q))) hn
    (add_over e (mul_side (2 ^ (k + j)) (pow_exact (k + j) (omega arith)) (le_of_eq (sym (pow-add 2 k j))) hv hy) ho (horner k j b d hv hy hc))

module _ {z : Float} (h : Side z false (2 ^ 0)) where
  ab_side : Side (ab_of z) false (2 ^ 17)
  unfolding of_bits poly all_below
  ab_side =
      rational 17 16 0 0 (lit< tt) (lit< tt) (lit≤ tt) (lit≤ tt)
      (poly_side (A 0 ∷ A 1 ∷ A 2 ∷ A 3 ∷ []) {w = A 4} 13 0 (lit< tt) (lit≤ tt) (by_test tt) h tt)
      (poly_side (B 1 ∷ B 2 ∷ []) 14 0 (lit< tt) (lit≤ tt) (add_side (2 ^ 14) (pow_exact 14 (lit< tt)) (lit≤ tt) h (by_test {x = B 0} {b = TOP} tt)) h tt)
      h (by_test {x = B 3} tt) (reaches _ _ (lit≤ tt))

  pq_side : Side (pq_of z) false (2 ^ 27)
  unfolding of_bits poly all_below
  pq_side =
      rational 18 17 0 9 (lit< tt) (lit< tt) (lit≤ tt) (lit≤ tt)
      (mul_side (2 ^ 18) (pow_exact 18 (lit< tt)) (lit≤ tt) h (poly_side (P 0 ∷ P 1 ∷ P 2 ∷ P 3 ∷ P 4 ∷ []) {w = P 5} 13 0 (lit< tt) (lit≤ tt) (by_test tt) h tt))
      (poly_side (Q 1 ∷ Q 2 ∷ Q 3 ∷ []) 14 0 (lit< tt) (lit≤ tt) (add_side (2 ^ 14) (pow_exact 14 (lit< tt)) (lit≤ tt) h (by_test {x = Q 0} {b = TOP} tt)) h tt)
      h (by_test {x = Q 4} tt) (reaches _ _ (lit≤ tt))

cd_side : {y : Float} → Side y false (2 ^ 2) → Side (cd_of y) false (2 ^ 37)
unfolding of_bits poly all_below
cd_side h =
    rational 37 32 2 0 (lit< tt) (lit< tt) (lit≤ tt) (lit≤ tt)
    (poly_side (C 0 ∷ C 1 ∷ C 2 ∷ C 3 ∷ C 4 ∷ C 5 ∷ C 6 ∷ C 7 ∷ []) {w = C 8} 13 2 (lit< tt) (lit≤ tt) (by_test tt) h tt)
    (poly_side (D 1 ∷ D 2 ∷ D 3 ∷ D 4 ∷ D 5 ∷ D 6 ∷ []) 14 2 (lit< tt) (lit≤ tt) (add_side (2 ^ 14) (pow_exact 14 (lit< tt)) (lit≤ tt) h (by_test {x = D 0} {b = TOP} tt)) h tt)
    h (by_test {x = D 7} tt) (reaches _ _ (lit≤ tt))

-- ---- a y that is not negative, tested against the fraction v / d, the value of c
module _ (m : ℕ) (e : ℤ) (c : Float) (v d : ℕ) (D : 0 < d) (k : HasValue c false v d) where
  not_more : le (fin false m e) c ≡ true → m * up e * d ≤ v * down e
  not_more t = le→fractions false false (m * up e) v (down e) d (down_pos e) D (fin false m e) c (refl, refl) k (rw t tt)

  more : le (fin false m e) c ≡ false → v * down e < m * up e * d
  more t = lt_of_not-le (λ (l : m * up e * d ≤ v * down e). rw t at (le_of_values (fin false m e) c (m * up e) (down e) v d (down_pos e) D (refl, refl) k l))

-- ---- a y from the threshold to 39: both exponents of its factor are not above 0
module _ (m : ℕ) (e : ℤ) (f : T (fits binary64 (fin false m e))) (l : m * up e ≤ 39 * down e) (g : 15 * down e < m * up e * 32) where
  -- y to a multiple of 1/16 toward zero
  tilde : (k : ℕ) × HasValue (tilde_of (fin false m e)) false k 16 × (k * down e ≤ m * up e * 16) × (k ≤ 624)
  tilde =
      let k = floor_size false (m * up e * 16) (down e) in
      let low : k * down e ≤ m * up e * 16 = div-mul-le_self (m * up e * 16) (down e) in
      let high : m * up e * 16 < suc k * down e = (div-lt_iff_lt-mul (down_pos e)).0 (le_refl (suc k)) in
      let small : k ≤ 624 = le_of_mul-le-mul_right {k = down e} (omega arith) (down_pos e) in
      let one : 1 ≤ k = (le-div_iff_mul-le (down_pos e)).1 (omega arith) in
      let v : Values k (fin false m e) = record { plus = lt→ltb 0 m (first_pos m (up e) (omega arith)); low = low; high = rw add-one high } in
      (k, rw (tilde_at one (omega arith) f v) (sixteenths_value k (omega arith)), low, small)

  -- y less its tilde
  difference_side : Side (fin false m e ⊖ tilde_of (fin false m e)) false 39
  unfolding sum
  difference_side =
      let k = tilde.0 in
      let t = revalue (tilde_of (fin false m e)) false k 16 (k * down e) (down e * 16) (lit< tt) (omega arith) tilde.1 in
      rw (sub_at (fin false m e) (tilde_of (fin false m e)) false false (m * up e * 16) (k * down e) (down e * 16) (omega (arith, down_pos e)) (refl, omega arith) t, le-ltb (m * up e * 16) (k * down e) tilde.2)
      (round_side (m * up e * 16 - k * down e) (down e * 16) 39 (omega (arith, down_pos e)) (small_exact 39 (lit≤ tt)) (omega arith) false)

  factor_at_most : AtMost (smoothened_exponential_of_negative_square (fin false m e)) (2 ^ 444)
  unfolding smoothened_exponential_of_negative_square
  factor_at_most =
      let t = value_side tilde.0 16 39 (lit< tt) tilde.1 tilde.3 in
      let sum = add_side 78 (small_exact 78 (lit≤ tt)) (lit≤ tt) (sized m e l) t in
      unsigned (mul_side (2 ^ 444) (pow_exact 444 (lit< tt)) (lit≤ tt)
      (exp_at_most (mul_side (2 ^ 12) (pow_exact 12 (lit< tt)) (lit≤ tt) (neg_side t) t)).side
      (exp_at_most (mul_side (2 ^ 12) (pow_exact 12 (lit< tt)) (lit≤ tt) (neg_side difference_side) sum)).side)

-- ---- erfc and the cdf
above_threshold : (m : ℕ) (e : ℤ) → m * up e ≤ 39 * down e → AtMost (erfcx_above_threshold (fin false m e)) (2 ^ 37)
unfolding erfcx_above_threshold of_bits
above_threshold m e l = go (le y four) refl
  where
    y : Float
    y = fin false m e

    go : (b : Bool) → le y four ≡ b → AtMost (cond b (cd_of y) ((FRAC_1_SQRT_PI ⊖ pq_of (one ⊘ (y ⊗ y))) ⊘ y)) (2 ^ 37)
    go true t = unsigned (cd_side (sized m e (omega (arith, not_more m e four 4 1 (lit< tt) (refl, refl) t))))
    go false t =
        let over = reaches {j = 0} m e (omega (arith, more m e four 4 1 (lit< tt) (refl, refl) t)) in
        let z = div_side {a = 1} {j = 0} (2 ^ 0) (pow_exact 0 (lit< tt)) (lit≤ tt) (sized _ _ (lit≤ tt)) (square_over over (small_exact 1521 (lit≤ tt)) (sized m e l)) in
        let top = sub_at_most {a = 1} (2 ^ 28) (pow_exact 28 (lit< tt)) (lit≤ tt) (sized _ _ (lit≤ tt)) (pq_side z) in
        unsigned (div_side {j = 0} (2 ^ 37) (pow_exact 37 (lit< tt)) (lit≤ tt) top.side over)

outside_at_most : (set : RuleSet) (m : ℕ) (e : ℤ) → T (fits binary64 (fin false m e)) → m * up e ≤ 39 * down e → 15 * down e < m * up e * 32 → AtMost (erfc_abs set (fin false m e)) (2 ^ 481)
unfolding erfc_abs of_bits
outside_at_most set m e f l g =
    let factor = (factor_at_most m e f l g).side in
    let E = pow_exact 481 (lit< tt) in
    either (le XBIG (fin false m e)) (either set.far_factor (unsigned (mul_side {a = 1} (2 ^ 481) E (lit≤ tt) (sized _ _ (lit≤ tt)) factor)) (unsigned (sized _ _ (lit≤ tt))))
    (unsigned (mul_side (2 ^ 481) E (lit≤ tt) (above_threshold m e l).side factor))

erfc_at_most : (set : RuleSet) {x : Float} {s : Bool} → T (fits binary64 x) → Side x s 39 → AtMost (erfc_of set x) (2 ^ 482)
unfolding erfc_of abs_of of_bits
erfc_at_most set {s} f (sized m e l) = go (le y THRESHOLD) refl
  where
    x : Float
    x = fin s m e

    y : Float
    y = fin false m e

    go : (t : Bool) → le y THRESHOLD ≡ t → AtMost (cond t (one ⊖ x ⊗ ab_of (y ⊗ y)) (cond (lt x +0) (two ⊖ erfc_abs set y) (erfc_abs set y))) (2 ^ 482)
    go true t =
        let small = sized {s = false} {b = 1} m e (omega (arith, not_more m e THRESHOLD 15 32 (lit< tt) (refl, refl) t)) in
        let z = mul_side (2 ^ 0) (pow_exact 0 (lit< tt)) (lit≤ tt) small small in
        sub_at_most {a = 1} (2 ^ 482) (pow_exact 482 (lit< tt)) (lit≤ tt) (sized _ _ (lit≤ tt)) (mul_side (2 ^ 23) (pow_exact 23 (lit< tt)) (lit≤ tt) (sized {s = s} m e l) (ab_side z))
    go false t =
        let outside = (outside_at_most set m e (abs_fits x f) l (more m e THRESHOLD 15 32 (lit< tt) (refl, refl) t)).side in
        either (lt x +0) (sub_at_most {a = 2} (2 ^ 482) (pow_exact 482 (lit< tt)) (lit≤ tt) (sized _ _ (lit≤ tt)) outside) (unsigned (wider (2 ^ 482) (lit≤ tt) outside))

pub cdf_at_most : (set : RuleSet) {y : Float} → AtMost y 39 → AtMost (cdf_of set y) (2 ^ 482)
unfolding cdf_of of_bits
cdf_at_most set {y} h =
    let argument = mul_side {b = 1} 39 (small_exact 39 (lit≤ tt)) (lit≤ tt) (neg_side h.side) (sized _ _ (lit≤ tt)) in
    unsigned (mul_side {a = 1} (2 ^ 482) (pow_exact 482 (lit< tt)) (lit≤ tt) (sized _ _ (lit≤ tt)) (erfc_at_most set (mul-fits binary64 (neg y) FRAC_1_SQRT_2) argument).side)

-- from −39 to 39
range_39 : (y : Float) → T (le lowest y) → T (le y highest) → AtMost y 39
unfolding le lt eq neg of_bits
range_39 nan a b = absurd a
range_39 (inf true) a b = absurd a
range_39 (inf false) a b = absurd b
range_39 (fin true m e) a b =
    let l = le→fractions true true 39 (m * up e) 1 (down e) (lit< tt) (down_pos e) lowest (fin true m e) (refl, refl) (refl, refl) a in
    unsigned (sized m e (omega arith))
range_39 (fin false m e) a b =
    let l = le→fractions false false (m * up e) 39 (down e) 1 (down_pos e) (lit< tt) (fin false m e) highest (refl, refl) (refl, refl) b in
    unsigned (sized m e (omega arith))

pub cdf_finite : (set : RuleSet) (y : Float) → T (le lowest y) → T (le y highest) → T (finite (cdf_of set y))
cdf_finite set y a b = side_finite (cdf_at_most set (range_39 y a b)).side
