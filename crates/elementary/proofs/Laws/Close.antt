-- Numbers that lie in one sixteenth: their tilde, and where they stand among the borders of erfc's regions. Assumes nothing.
use mathlib.Core.Path.{◌≡◌, refl, sym, ◌∙◌}
use mathlib.Core.Bool.{true, false, ◌&&◌}
use Prim.Native.Nat.{ℕ, zero, suc, ◌+◌, ◌*◌, ◌^◌, ◌≤◌, ◌<◌}
use native.Mathlib.Nat.{mul_assoc, mul-one, mul-pos, mul-le-mul_right, le_trans, lt_of_lt_of_le, lt_of_le_of_lt, lt_of_not-le, not-le_of_lt}
use native.Mathlib.Omega.{arith}
use borrow.Author.Tests.{lt-ltb}
use lib.IntN.{pos}
use lib.Dec.{T, lit<, lit≤, not_T}
use lib.Ieee.{Float, nan, inf, fin, binary64, up, down, round, div, lt, le, fits, of_bits}
use lib.Ieee.Bits.{is_true, is_false}
use lib.Ieee.Fits.{and_l, and_r, down_pos, mul-fits, of_int-fits}
use lib.Ieee.Exact.{HasValue}
use lib.Ieee.Back.{whole_unique}
use lib.Ieee.Scale.{round_same}
use lib.Ieee.Order.{le_of_values}
use lib.Ieee.Positive.{num, den, positive, first_pos, den_pos, own_value, positive_of_value, values_of_le, between, mul_at}
use Rattle.elementary.specs.Ops.{◌⊗◌, ◌⊘◌, float, +0, four, sixteen}
use Rattle.elementary.specs.Floor.{floor_of}
use Rattle.elementary.specs.Cody.{THRESHOLD, XBIG, tilde_of}
use Rattle.elementary.specs.Inside.Cdf.{sixteenths_of, Close, Between}
use Rattle.elementary.proofs.Laws.Held.{holds}
use Rattle.elementary.proofs.Laws.Order.{valued, finite_by, le→fractions}
use Rattle.elementary.proofs.Laws.Places.{in_units_lem, exact_under}
use Rattle.elementary.proofs.Laws.Values.{whole_value}
use Rattle.elementary.proofs.Laws.Compare as compare
use Rattle.elementary.proofs.Laws.Greatest.{floor_value, floor_fits}

-- ---- k / 16 is exact
over_sixteen : (x : Float) (k : ℕ) → HasValue x false k 1 → x ⊘ sixteen ≡ round binary64 false k 16
unfolding div of_bits
over_sixteen x k v =
    elim (finite_by x v) as (λ y _. y ⊘ sixteen ≡ round binary64 false k 16) [ valued m e i ↦ round_same binary64 false (m * up e * 1) (1 * 16 * down e) k 16 (omega (arith, down_pos e)) (omega arith) (omega (arith, i)) ]

pub sixteenths_value : (k : ℕ) → k ≤ 1024 → HasValue (sixteenths_of k) false k 16
sixteenths_value k l =
    rw (over_sixteen (float k) k (whole_value k (omega arith)))
    (exact_under binary64 false k 16 k 1070 (omega arith) (omega arith) (lt_of_le_of_lt l (lit< tt)) (sym (mul_assoc k (2 ^ 1070) 16)))

-- ---- what it says of a number's value
pub record Values (k : ℕ) (y : Float) : Type 0 where
  pub plus : T (positive y)
  pub low : k * den y ≤ num y * 16
  pub high : num y * 16 < (k + 1) * den y

values : {k : ℕ} {y : Float} → 1 ≤ k → k < 1024 → Close k y → Values k y
unfolding le
values {k} {y} one small h =
    let a = sixteenths_of k in
    let b = sixteenths_of (k + 1) in
    let test : T (le a y && lt y b) = rw h.test tt in
    let under = is_true (lt y b) (and_r (le a y) (lt y b) test) in
    let va = sixteenths_value k (omega arith) in
    let vb = sixteenths_value (k + 1) (omega arith) in
    let pa = positive_of_value a k 16 va (omega arith) in
    let from = and_l (le a y) (lt y b) test in
    let py = between a y b pa (positive_of_value b (k + 1) 16 vb (omega arith)) from (rw under tt) in
    record {
      plus = py;
      low = values_of_le a y k 16 (num y) (den y) pa py va (own_value y py) from;
      high = lt_of_not-le (λ (g : (k + 1) * den y ≤ num y * 16). rw (compare.not_le_of_lt y b under) at (le_of_values b y (k + 1) 16 (num y) (den y) (omega arith) (den_pos y) vb (own_value y py) g));
    }

-- ---- y × 16 is exact
exact : (y : Float) → T (fits binary64 y) → T (positive y) → num y * 16 < 1024 * den y → HasValue (round binary64 false (num y * 16) (den y * 1)) false (num y * 16) (den y * 1)
exact nan f p l = absurd p
exact (inf s) f p l = absurd p
exact (fin true m e) f p l = absurd p
exact (fin false zero e) f p l = absurd p
exact (fin false (suc m) e) f p l =
    let h = holds binary64 false m e f in
    let j = in_units_lem 1078 e (le_trans h.1 (lit≤ tt)) in
    exact_under binary64 false (suc m * up e * 16) (down e * 1) (suc m) j.0 (omega (arith, down_pos e)) h.0
    (rw mul-one (lt_of_lt_of_le l (mul-le-mul_right (down e) (lit≤ tt))))
    (rw (mul-one (down e), mul_assoc (suc m) (2 ^ j.0) (down e), ← j.1) (mul_assoc (suc m * up e) 16 (2 ^ 1074) ∙ mul_assoc (suc m) (up e) (2 ^ 1078)))

-- ---- the tilde
above_zero : (z : Float) (a c : ℕ) → 0 < a → HasValue z false a c → lt +0 z ≡ true
unfolding lt of_bits
above_zero z a c p v = elim (finite_by z v) as (λ y _. lt +0 y ≡ true) [ valued m e i ↦ lt-ltb (0 * 1 * down e) (m * up e * 1) (omega (arith, first_pos (m * up e) c (rw i (mul-pos p (down_pos e))))) ]

pub tilde_at : {k : ℕ} {y : Float} → 1 ≤ k → k < 1024 → T (fits binary64 y) → Values k y → tilde_of y ≡ sixteenths_of k
unfolding tilde_of of_bits
tilde_at {k} {y} one small f h =
    let z = y ⊗ sixteen in
    let v : HasValue z false (num y * 16) (den y * 1) =
    rw (mul_at binary64 y sixteen (num y) (den y) 16 1 h.plus tt (den_pos y) (omega arith) (own_value y h.plus) (refl, refl))
    (exact y f h.plus (lt_of_lt_of_le h.high (mul-le-mul_right (den y) (omega arith)))) in
    let p : 0 < num y * 16 = omega (arith, h.low, mul-pos one (den_pos y)) in
    let w = floor_value binary64 z false (num y * 16) (den y * 1) k (mul-fits binary64 y sixteen) (omega (arith, den_pos y)) v (rw (mul-one (den y)) (h.low, omega (arith, h.high))) in
    rw (above_zero z (num y * 16) (den y * 1) p v, whole_unique binary64 (floor_of binary64 z) (float k) false k (floor_fits binary64 z) (of_int-fits binary64 (pos k)) w (whole_value k (omega arith)))

pub tilde_close : {k : ℕ} {y : Float} → 1 ≤ k → k < 1024 → Close k y → tilde_of y ≡ sixteenths_of k
tilde_close one small c = tilde_at one small c.of_format (values one small c)

-- ---- the regions
not_at_most : (x y : Float) (a c b d : ℕ) → 0 < c → 0 < d → HasValue x false a c → HasValue y false b d → b * c < a * d → le x y ≡ false
not_at_most x y a c b d C D v w l = is_false (le x y) (not_T (le x y) (λ t. not-le_of_lt l (le→fractions false false a b c d C D x y v w t)))

module _ {k : ℕ} {y : Float} (eight : 8 ≤ k) (small : k < 416) (c : Close k y) where
  h : Values k y
  h = values (omega arith) (omega arith) c

  own : HasValue y false (num y) (den y)
  own = own_value y h.plus

  over : le y THRESHOLD ≡ false
  unfolding of_bits
  over = not_at_most y THRESHOLD (num y) (den y) 15 32 (den_pos y) (omega arith) own (refl, refl) (omega (arith, h.low, den_pos y, mul-le-mul_right (den y) eight))

  short : le XBIG y ≡ false
  unfolding of_bits
  short = not_at_most XBIG y 0xd45810624dd2f 0x800000000000 (num y) (den y) (omega arith) (den_pos y) (refl, refl) own (omega (arith, h.high, den_pos y, mul-le-mul_right (den y) small))

  pub up_to_four : k < 64 → Between true y
  unfolding of_bits
  up_to_four l = record {
    over = over;
    short = short;
    side = is_true (le y four) (le_of_values y four (num y) (den y) 4 1 (den_pos y) (omega arith) own (refl, refl) (omega (arith, h.high, mul-le-mul_right (den y) l)));
  }

  pub above_four : 64 < k → Between false y
  unfolding of_bits
  above_four l = record {
    over = over;
    short = short;
    side = not_at_most y four (num y) (den y) 4 1 (den_pos y) (omega arith) own (refl, refl) (omega (arith, h.low, den_pos y, mul-le-mul_right (den y) l));
  }
