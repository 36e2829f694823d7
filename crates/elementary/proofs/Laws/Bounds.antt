-- How large the results of binary64's operations can be. A bound b that the format holds is kept by rounding: what is at most b in size is so after it.
-- From these laws it follows that a computation never meets an infinity, and so no NaN. Assumes nothing.
use mathlib.Core.Path.{◌≡◌, refl, sym, ap, ◌∙◌, subst}
use mathlib.Core.Bool.{Bool, true, false, not, ◌&&◌, beq, cond}
use mathlib.Core.Logic.{◌⊎◌, inl, inr}
use Prim.Native.Nat.{ℕ, zero, suc, ◌+◌, ◌-◌, ◌*◌, ◌^◌, ◌≤◌, ◌<◌}
use native.Mathlib.Nat.{eq-or-lt_of_le, le_refl, le_trans, le_of_eq, lt_of_not-le, zero-lt-suc, mul_comm, mul-one, one-mul, mul-le-mul, mul-le-mul_right, le_of_mul-le-mul_right, mul-pos, suc-mul, le_of_suc-le-suc, div-le_of_le-mul, div-lt_iff_lt-mul}
use native.Mathlib.Omega.{arith}
use lib.Dec.{T, ltb, eqb-suc-zero, lit<, lit≤}
use lib.Pow.{pow-add, pow_pos, pow-lt}
use native.Mathlib.Decide.{dec_le}
use borrow.Author.Tests.{lt-ltb, le-ltb}
use lib.Ieee.{fin, Float, inf, binary64, up, down, unlike, units, round, sum, add, sub, mul, div, neg, le, of_bits}
use lib.Ieee.Fits.{up_pos, down_pos, round_is}
use lib.Ieee.Exact.{HasValue, round_exact, units_val}
use lib.Ieee.Back.{round_whole}
use lib.Ieee.Order.{round_mono, kept, drop}
use lib.Ieee.Scale.{finite, grid, overflow, round_val, round_under}
use Rattle.elementary.specs.Inside.Bounds.{Side, sized, AtMost, Over, reaches}
use Rattle.elementary.specs.Ops.{◌⊕◌, ◌⊖◌, ◌⊗◌, ◌⊘◌, half}
use Rattle.elementary.proofs.Laws.Order.{valued, finite_by, le→fractions}
use Rattle.elementary.proofs.Laws.Powers.{pow_split}
use Rattle.elementary.specs.Floor.{floor_size, floor_of}

-- the whole number b is a value of the format
abbrev pub Exact : ℕ → Type 0
Exact b = HasValue (round binary64 false b 1) false b 1

pub pow_exact : (i : ℕ) → i < 1024 → Exact (2 ^ i)
pow_exact i h =
    round_exact binary64 false (2 ^ i) 1 1 (i + 1074) (lit< tt) (lit< tt)
    (rw one-mul (pow-lt {i = i + 1074} {j = 2098} (omega arith)))
    (rw (one-mul, mul-one) (sym (pow-add 2 i 1074)))

pub small_exact : (b : ℕ) → b ≤ 2 ^ 53 → Exact b
small_exact b h = round_whole binary64 false b h

pub unsigned : {x : Float} {s : Bool} {b : ℕ} → Side x s b → AtMost x b
unsigned {x} {s} {b} h = record { sign = s; side = h }

pub wider : {x : Float} {s : Bool} {b : ℕ} (c : ℕ) → b ≤ c → Side x s b → Side x s c
wider c l (sized m e h) = sized m e (le_trans h (mul-le-mul_right (down e) l))

pub side_finite : {x : Float} {s : Bool} {b : ℕ} → Side x s b → T (finite x)
side_finite (sized m e h) = tt

-- ---- values and fractions
pub value_side : {x : Float} {s : Bool} (v c b : ℕ) → 0 < c → HasValue x s v c → v ≤ b * c → Side x s b
value_side {x} {s} v c b p h l = elim (finite_by x h) as (λ y _. Side y s b) [ valued m e i ↦ sized {b = b} m e (le_of_mul-le-mul_right {k = c} (omega (arith, mul-le-mul_right (down e) l)) p) ]

pub value_over : {x : Float} (v c j : ℕ) → 0 < c → HasValue x false v c → c ≤ v * 2 ^ j → Over x j
value_over {x} v c j p h l =
    elim (finite_by x h) as (λ y _. Over y j) [ valued m e i ↦ reaches {j = j} m e (le_of_mul-le-mul_right {k = c} (omega (arith, mul-le-mul_right (down e) l, ap (λ (z : ℕ). z * 2 ^ j) i)) p) ]

-- ---- rounding
units_inf : (q k : ℕ) → overflow binary64 ≤ q * 2 ^ k → units binary64 false q k ≡ inf false
unfolding units
units_inf q k l = rw (le-ltb (q * 2 ^ k) (overflow binary64) l)

inf_not_below : (y : Float) (b d : ℕ) → HasValue y false b d → T (le (inf false) y) → ⊥
unfolding le
inf_not_below y b d v = elim (finite_by y v) as (λ z _. T (le (inf false) z) → ⊥) [ valued n g i ↦ λ h. h ]

-- a / c in units of the smallest value, rounded, is no infinity and at most b
module _ (a c b : ℕ) (C : 0 < c) (B : Exact b) (h : a ≤ b * c) where
  in_order : T (le (round binary64 false a c) (round binary64 false b 1))
  in_order = round_mono binary64 a c b 1 C (lit< tt) (rw mul-one h)

  no_overflow : grid binary64 a c < overflow binary64
  no_overflow = lt_of_not-le (λ l. inf_not_below (round binary64 false b 1) b 1 B (subst (λ z. T (le z (round binary64 false b 1))) (round_is binary64 false a c ∙ units_inf (kept 53 (a * 2 ^ 1074) c) (drop 53 (a * 2 ^ 1074) c) l) in_order))

  pub round_side : (s : Bool) → Side (round binary64 s a c) s b
  round_side s =
      value_side (grid binary64 a c) (2 ^ 1074) b (pow_pos 1074)
      (rw round_is (units_val binary64 s (kept 53 (a * 2 ^ 1074) c) (drop 53 (a * 2 ^ 1074) c) no_overflow))
      (rw mul-one at (le→fractions false false (grid binary64 a c) b (2 ^ 1074) 1 (pow_pos 1074) (lit< tt) (round binary64 false a c) (round binary64 false b 1) (round_val binary64 a c no_overflow) B in_order))

-- 2 ^ -j is a value of the format
least_exact : (j : ℕ) → j ≤ 1074 → HasValue (round binary64 false 1 (2 ^ j)) false 1 (2 ^ j)
least_exact j h =
    round_exact binary64 false 1 (2 ^ j) 1 (1074 - j) (pow_pos j) (lit< tt) (rw one-mul (pow-lt {i = 1074 - j} {j = 2098} (omega arith)))
    (rw (one-mul (2 ^ 1074), one-mul (2 ^ (1074 - j))) (pow_split j 1074 h))

round_over : (a c j : ℕ) → 0 < c → j ≤ 1074 → c ≤ a * 2 ^ j → T (finite (round binary64 false a c)) → Over (round binary64 false a c) j
round_over a c j C J h f =
    let v = round_val binary64 a c (round_under binary64 a c f) in
    value_over (grid binary64 a c) (2 ^ 1074) j (pow_pos 1074) v
    (rw one-mul at (le→fractions false false 1 (grid binary64 a c) (2 ^ j) (2 ^ 1074) (pow_pos j) (pow_pos 1074) (round binary64 false 1 (2 ^ j)) (round binary64 false a c)
    (least_exact j J) v (round_mono binary64 1 (2 ^ j) a c (pow_pos j) C (rw one-mul h))))

-- ---- the operations
pub neg_side : {x : Float} {s : Bool} {b : ℕ} → Side x s b → Side (neg x) (not s) b
unfolding neg
neg_side (sized m e h) = sized m e h

pub mul_side : {x y : Float} {s t : Bool} {a b : ℕ} (c : ℕ) → Exact c → a * b ≤ c → Side x s a → Side y t b → Side (x ⊗ y) (unlike s t) c
unfolding mul
mul_side {s} {t} c C l (sized m e h) (sized n d k) =
    round_side (m * up e * (n * up d)) (down e * down d) c (mul-pos (down_pos e) (down_pos d)) C
    (omega (arith, mul-le-mul h k, mul-le-mul_right (down e * down d) l)) (unlike s t)

-- by a constant that is the fraction v / d
pub mul_by : {x : Float} {s : Bool} {a : ℕ} (c : Float) (v d b : ℕ) → 0 < d → HasValue c false v d → Exact b → a * v ≤ b * d → Side x s a → AtMost (x ⊗ c) b
unfolding mul
mul_by {s} {a} c v d b D k B l (sized m e h) =
    elim (finite_by c k) as (λ z _. AtMost (fin s m e ⊗ z) b) [
      | valued n g i ↦
          let top : m * up e * (n * up g) * d ≤ b * (down e * down g) * d =
          omega (arith, mul-le-mul_right (v * down g) h, mul-le-mul_right (down e * down g) l, ap (λ (z : ℕ). m * up e * z) i) in
          unsigned (round_side (m * up e * (n * up g)) (down e * down g) b (mul-pos (down_pos e) (down_pos g)) B (le_of_mul-le-mul_right {k = d} top D) (unlike s false))
    ]

pub half_at_most : {x : Float} {s : Bool} (b : ℕ) → Exact b → Side x s (b * 2) → AtMost (half ⊗ x) b
unfolding mul of_bits
half_at_most {s} b B (sized m e h) = unsigned (round_side (1 * (m * up e)) (2 * down e) b (omega (arith, down_pos e)) B (omega arith) (unlike false s))

-- a test between two numbers that are both bounded
pub either : {x y : Float} {b : ℕ} (t : Bool) → AtMost x b → AtMost y b → AtMost (cond t x y) b
either true h k = h
either false h k = k

-- whatever the signs
pub add_at_most : {x y : Float} {s t : Bool} {a b : ℕ} (c : ℕ) → Exact c → a + b ≤ c → Side x s a → Side y t b → AtMost (x ⊕ y) c
unfolding add sum
add_at_most {s} {t} c E l (sized m e h) (sized n d k) =
    let A = m * up e * down d in
    let B = n * up d * down e in
    let C = down e * down d in
    let top : A + B ≤ c * C = omega (arith, mul-le-mul_right (down d) h, mul-le-mul_right (down e) k, mul-le-mul_right C l) in
    let bound : (u : Bool) (n : ℕ) → n ≤ c * C → AtMost (round binary64 u n C) c = λ u n l. unsigned (round_side n C c (mul-pos (down_pos e) (down_pos d)) E l u) in
    either (beq s t) (bound s (A + B) top) (either (ltb A B) (bound t (B - A) (omega arith)) (bound (s && ltb B A) (A - B) (omega arith)))

pub sub_at_most : {x y : Float} {s t : Bool} {a b : ℕ} (c : ℕ) → Exact c → a + b ≤ c → Side x s a → Side y t b → AtMost (x ⊖ y) c
unfolding sub
sub_at_most c C l h k = add_at_most c C l h (neg_side k)

-- two that are not negative
pub add_side : {x y : Float} {a b : ℕ} (c : ℕ) → Exact c → a + b ≤ c → Side x false a → Side y false b → Side (x ⊕ y) false c
unfolding add sum
add_side c C l (sized m e h) (sized n d k) =
    round_side (m * up e * down d + n * up d * down e) (down e * down d) c (mul-pos (down_pos e) (down_pos d)) C
    (omega (arith, mul-le-mul_right (down d) h, mul-le-mul_right (down e) k, mul-le-mul_right (down e * down d) l)) false

-- a sum of two that are not negative is no less than the second
pub add_over : {x y : Float} {a b j : ℕ} → j ≤ 1074 → Side x false a → Over y j → Side (x ⊕ y) false b → Over (x ⊕ y) j
unfolding add sum
add_over {a} {b} {j} J (sized m e h) (reaches n d k) f =
    round_over (m * up e * down d + n * up d * down e) (down e * down d) j (mul-pos (down_pos e) (down_pos d)) J
    (omega (arith, mul-le-mul_right (down e) k)) (side_finite f)

-- a product of two numbers of 1 at least
pub square_over : {y : Float} {b : ℕ} → Over y 0 → Exact (b * b) → Side y false b → Over (y ⊗ y) 0
unfolding mul
square_over {b} (reaches m e k) B h =
    round_over (m * up e * (m * up e)) (down e * down e) 0 (mul-pos (down_pos e) (down_pos e)) (lit≤ tt)
    (rw mul-one (mul-le-mul (rw mul-one at k) (rw mul-one at k))) (side_finite (mul_side (b * b) B (le_refl (b * b)) h h))

pub like : (s : Bool) → unlike s false ≡ s
like true = refl
like false = refl

pub div_side : {x y : Float} {s : Bool} {a j : ℕ} (c : ℕ) → Exact c → a * 2 ^ j ≤ c → Side x s a → Over y j → Side (x ⊘ y) s c
unfolding div
div_side c C l (sized m e h) (reaches zero d k) = absurd (omega (arith, down_pos d))
div_side {s} c C l (sized m e h) (reaches (suc n) d k) =
    rw (like s, eqb-suc-zero n)
    (round_side (m * up e * down d) (suc n * up d * down e) c (mul-pos (mul-pos (zero-lt-suc n) (up_pos d)) (down_pos e)) C
    (omega (arith, mul-le-mul h k, mul-le-mul_right (suc n * up d * down e) l)) s)

-- ---- floor, whose sign is its argument's
floor_size_lem : (s : Bool) (a c b : ℕ) → 0 < c → a ≤ b * c → floor_size s a c ≤ b
floor_size_lem false a c b C h = div-le_of_le-mul c (le_trans h (le_of_eq (mul_comm b c)))
floor_size_lem true a c b C h = le_of_suc-le-suc ((div-lt_iff_lt-mul C).1 (omega (arith, suc-mul b c)))

pub floor_side : {x : Float} {s : Bool} {b : ℕ} → Exact b → Side x s b → Side (floor_of binary64 x) s b
unfolding floor_of
floor_side {s} {b} B (sized m e h) = round_side (floor_size s (m * up e) (down e)) 1 b (lit< tt) B (rw mul-one (floor_size_lem s (m * up e) (down e) b (down_pos e) h)) s

-- it is a whole number
pub floor_whole : {x : Float} {s : Bool} {b : ℕ} → b ≤ 2 ^ 53 → Side x s b → (n : ℕ) × HasValue (floor_of binary64 x) s n 1 × (n ≤ b)
unfolding floor_of
floor_whole {s} {b} l (sized m e h) =
    let n = floor_size s (m * up e) (down e) in
    let k = floor_size_lem s (m * up e) (down e) b (down_pos e) h in
    (n, round_whole binary64 s n (le_trans k l), k)

-- ---- a number that is not above 0, and one from 0 to 1: their sum is not above 1
pub sum_low : {x y : Float} {a : ℕ} → Exact a → Side x true a → Side y false 1 → Side (x ⊕ y) true a ⊎ Side (x ⊕ y) false 1
unfolding add sum
sum_low {a} C (sized m e h) (sized n d k) =
    let A = m * up e * down d in
    let B = n * up d * down e in
    let P = mul-pos (down_pos e) (down_pos d) in
    let one = small_exact 1 (lit≤ tt) in
    elim (dec_le B A) [
      | no f ↦
          let l : A < B = lt_of_not-le f in
          rw (lt-ltb A B l) (inr (round_side (B - A) (down e * down d) 1 P one (omega (arith, mul-le-mul_right (down e) k)) false))
      | yes g ↦ elim (eq-or-lt_of_le g) [
        | inl q ↦ rw (le-ltb A B g, le-ltb B A (le_of_eq (sym q))) (inr (round_side (A - B) (down e * down d) 1 P one (omega arith) false))
        | inr l ↦ rw (le-ltb A B g, lt-ltb B A l) (inl (round_side (A - B) (down e * down d) a P C (omega (arith, mul-le-mul_right (down d) h)) true))
      ]
    ]
