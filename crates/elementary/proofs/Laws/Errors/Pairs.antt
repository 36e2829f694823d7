-- Floats by their values as differences of two whole numbers of units, 2 ^ -1074: sums, differences and products need no cases of signs. Assumes nothing.
use mathlib.Core.Path.{◌≡◌, refl, sym, ap, ◌∙◌, subst}
use mathlib.Core.Bool.{Bool, true, false, not, cond}
use Prim.Native.Nat.{ℕ, ◌+◌, ◌-◌, ◌*◌, ◌^◌, ◌≤◌, ◌<◌}
use native.Mathlib.Nat.{le_trans, le_of_eq, lt_of_le_of_lt, mul_assoc, mul-div_cancel, mul-pos, mul-le-mul_right, le_of_mul-le-mul_right, one-mul, add-mul, zero-lt-suc}
use native.Mathlib.Decide.{dec_le}
use native.Mathlib.Omega.{arith}
use lib.Dec.{T}
use lib.Pow.{pow-add, pow_pos, pow_mono, pow-lt}
use lib.Ieee.{Float, binary64, size, units, unlike, round, sum, add, sub, mul, neg, fits}
use lib.Ieee.Fits.{round_is}
use lib.Ieee.Nearest.{closest, closest_same}
use lib.Ieee.Exact.{HasValue, units_val}
use lib.Ieee.Scale.{round_same}
use borrow.Author.Tests.{le-ltb}
use Rattle.elementary.specs.MulAdd.{fma}
use Rattle.elementary.proofs.Laws.Places.{place_of, sign_of_lem}
use Rattle.elementary.proofs.Laws.Values.{recast, value_unique}
use Rattle.elementary.proofs.Laws.Adding.{sum_value, add_at, neg_value, mul_value}
use Rattle.elementary.proofs.mul_add.Sums.{sum_same, sum_more, sum_comm}
use Rattle.elementary.proofs.mul_add.Exactly.{fma_at}
use Rattle.elementary.proofs.Laws.Errors.Digits.{ex, dist, dist_mul, Short, short_zero, near, near_best, near_sides, near_dist, near_part}

-- ---- values are at most some times this
unfoldable pub bound : ℕ
bound = 2 ^ 2080

pub in_bound : (x k g : ℕ) → x ≤ 2 ^ k → k + g ≤ 2080 → x * 2 ^ g ≤ 1 * bound
unfolding bound
in_bound x k g h l = le_trans (mul-le-mul_right (2 ^ g) h) (le_trans (le_of_eq (sym (pow-add 2 k g))) (le_trans (pow_mono {i = k + g} {j = 2080} l) (le_of_eq (sym (one-mul (2 ^ 2080))))))

-- a whole number of units rounded
round_value : (s : Bool) (n : ℕ) → near n ≤ 2 ^ 16 * bound → HasValue (round binary64 s n (2 ^ 1074)) s (near n) (2 ^ 1074)
unfolding near bound
round_value s n h =
    let u = 2 ^ 1074 in
    let e : round binary64 s n u ≡ units binary64 s (closest n (2 ^ ex n)) (ex n) =
    round_is binary64 s n u
    ∙ ap (λ (z : ℕ). units binary64 s (closest (n * u) (u * 2 ^ (size z - 53))) (size z - 53)) (mul-div_cancel n (pow_pos 1074))
    ∙ ap (λ (z : ℕ). units binary64 s z (ex n)) (closest_same (n * u) (u * 2 ^ ex n) n (2 ^ ex n) (mul-pos (pow_pos 1074) (pow_pos (ex n))) (pow_pos (ex n)) (mul_assoc n u (2 ^ ex n))) in
    rw e (units_val binary64 s (closest n (2 ^ ex n)) (ex n) (lt_of_le_of_lt (le_trans h (le_of_eq (sym (pow-add 2 16 2080)))) (pow-lt {i = 2096} {j = 2098} (omega arith))))

-- ---- a - b has the sign s, where it is not 0, and the size v
abbrev pub Signed : Bool → ℕ → ℕ → ℕ → Type 0
Signed s a b v = a + cond s v 0 ≡ b + cond s 0 v

pub signed_size : (s : Bool) (a b v : ℕ) → Signed s a b v → v ≡ dist a b
signed_size true a b v e = omega arith
signed_size false a b v e = omega arith

-- x is (a - b) * 2 ^ -1074, and at most k times the bound
pub record Is (x : Float) (a b k : ℕ) : Type 0 where
  pub sign : Bool
  pub size : ℕ
  pub value : HasValue x sign size (2 ^ 1074)
  pub pair : Signed sign a b size
  pub small : dist a b ≤ k * bound

pub widen : {x : Float} {a b k : ℕ} (l : ℕ) → k ≤ l → Is x a b k → Is x a b l
widen l h X = record { sign = X.sign; size = X.size; value = X.value; pair = X.pair; small = le_trans X.small (mul-le-mul_right bound h) }

turn : (s : Bool) (a b v : ℕ) → Signed s a b v → Signed (not s) b a v
turn true a b v e = sym e
turn false a b v e = sym e

neg_is : {x : Float} {a b k : ℕ} → Is x a b k → Is (neg x) b a k
neg_is {x} {a} {b} X = record { sign = not X.sign; size = X.size; value = neg_value x X.sign X.size (2 ^ 1074) X.value; pair = turn X.sign a b X.size X.pair; small = omega (arith, X.small) }

-- ---- r is n - m of the units, rounded
pub record NearPair (r : Float) (n m : ℕ) : Type 0 where
  pub neg : Bool
  pub size : ℕ
  pub is : r ≡ round binary64 neg size (2 ^ 1074)
  pub pair : Signed neg n m size

pub minus_more : (a b c : ℕ) → b ≤ a → sum binary64 false a true b c ≡ round binary64 false (a - b) c
unfolding sum
minus_more a b c h = rw (le-ltb a b h)

pub minus_less : (a b c : ℕ) → a < b → sum binary64 false a true b c ≡ round binary64 true (b - a) c
minus_less a b c h = sum_comm binary64 false true a b c ∙ sum_more binary64 true false b a c refl h

minus_is : (p q a b c d n m : ℕ) → Signed false a b p → Signed true c d q → a + c + m ≡ n + (b + d) → NearPair (sum binary64 false p true q (2 ^ 1074)) n m
minus_is p q a b c d n m e f g = elim (dec_le q p) [
  | yes h ↦ record { neg = false; size = p - q; is = minus_more p q (2 ^ 1074) h; pair = omega arith }
  | no h ↦ record { neg = true; size = q - p; is = minus_less p q (2 ^ 1074) (omega arith); pair = omega arith }
]

sum_is : (s t : Bool) (p q a b c d n m : ℕ) → Signed s a b p → Signed t c d q → a + c + m ≡ n + (b + d) → NearPair (sum binary64 s p t q (2 ^ 1074)) n m
sum_is false false p q a b c d n m e f g = record { neg = false; size = p + q; is = sum_same binary64 false false p q (2 ^ 1074) refl; pair = omega arith }
sum_is true true p q a b c d n m e f g = record { neg = true; size = p + q; is = sum_same binary64 true true p q (2 ^ 1074) refl; pair = omega arith }
sum_is false true p q a b c d n m e f g = minus_is p q a b c d n m e f g
sum_is true false p q a b c d n m e f g = rw (sum_comm binary64 true false p q (2 ^ 1074)) (minus_is q p c d a b n m f e (omega arith))

-- what is rounded, by its value
module _ {r : Float} {n m : ℕ} (R : NearPair r n m) where
  is_size : R.size ≡ dist n m
  is_size = signed_size R.neg n m R.size R.pair

  -- it is at most doubled
  pub near_is : (l : ℕ) → dist n m ≤ l * bound → l * 2 ≤ 2 ^ 16 → Is r (near (n - m)) (near (m - n)) (l * 2)
  near_is l h k =
      let top : near R.size ≤ l * 2 * bound = omega (arith, near_best R.size 0 short_zero, is_size) in
      record {
        sign = R.neg;
        size = near R.size;
        value = subst (λ (z : Float). HasValue z R.neg (near R.size) (2 ^ 1074)) (sym R.is) (round_value R.neg R.size (le_trans top (mul-le-mul_right bound k)));
        pair = go R.neg R.size R.pair;
        small = le_trans (le_of_eq ((near_dist n m).0 ∙ ap near (sym is_size))) top;
      }
    where
      go : (s : Bool) (v : ℕ) → Signed s n m v → Signed s (near (n - m)) (near (m - n)) (near v)
      go true v e = let z = near_sides n m v (omega arith) in omega arith
      go false v e = let z = near_sides m n v (omega arith) in omega arith

  pub exact_is : Short (dist n m) → (l : ℕ) → dist n m ≤ l * bound → l * 2 ≤ 2 ^ 16 → Is r n m l
  exact_is S l h k =
      let N = near_is l h k in
      record { sign = N.sign; size = N.size; value = N.value; pair = omega (arith, N.pair, near_part n m S); small = h }

-- ---- x + y is n - m
pub dist_add : (a b c d n m : ℕ) → a + c + m ≡ n + (b + d) → dist n m ≤ dist a b + dist c d
dist_add a b c d n m e = omega arith

module _ {x y : Float} {a b c d i j : ℕ} (X : Is x a b i) (Y : Is y c d j) (n m : ℕ) (E : a + c + m ≡ n + (b + d)) where
  add_rounds : NearPair (add binary64 x y) n m
  add_rounds =
      subst (λ (z : Float). NearPair z n m) (sym (add_at x y X.sign Y.sign X.size Y.size (2 ^ 1074) (pow_pos 1074) X.value Y.value))
      (sum_is X.sign Y.sign X.size Y.size a b c d n m X.pair Y.pair E)

  both_small : dist n m ≤ (i + j) * bound
  both_small = le_trans (dist_add a b c d n m E) (omega (arith, X.small, Y.small, add-mul i j bound))

  pub add_exact : Short (dist n m) → (i + j) * 2 ≤ 2 ^ 16 → Is (add binary64 x y) n m (i + j)
  add_exact S h = exact_is add_rounds S (i + j) both_small h

  pub add_near : (i + j) * 2 ≤ 2 ^ 16 → Is (add binary64 x y) (near (n - m)) (near (m - n)) ((i + j) * 2)
  add_near h = near_is add_rounds (i + j) both_small h

-- ---- x - y is n - m
module _ {x y : Float} {a b c d i j : ℕ} (X : Is x a b i) (Y : Is y c d j) (n m : ℕ) (E : a + d + m ≡ n + (b + c)) where
  pub sub_exact : Short (dist n m) → (i + j) * 2 ≤ 2 ^ 16 → Is (sub binary64 x y) n m (i + j)
  unfolding sub
  sub_exact S h = add_exact X (neg_is Y) n m E S h

  pub sub_near : (i + j) * 2 ≤ 2 ^ 16 → Is (sub binary64 x y) (near (n - m)) (near (m - n)) ((i + j) * 2)
  unfolding sub
  sub_near h = add_near X (neg_is Y) n m E h

-- ---- x * y is n - m
pub fma_value : (x y z : Float) (s t r : Bool) (a b c d n : ℕ) → 0 < d → HasValue x s a d → HasValue y t b d → HasValue z r c d → a * b ≡ n * d → fma binary64 x y z ≡ sum binary64 (unlike s t) n r c d
fma_value x y z s t r a b c d n D X Y Z e =
    fma_at binary64 x y z s t r a b c d 1 D (zero-lt-suc 0) X Y Z
    ∙ sum_value binary64 (a * b * 1) (c * (1 * d)) (1 * (d * d)) n c d (mul-pos (zero-lt-suc 0) (mul-pos D D)) D (omega (arith, ap (λ (w : ℕ). w * d) e)) (omega arith) (unlike s t) r

-- the sign and the size of a product of differences
multiply : (a b c d p q r u : ℕ) → a + p ≡ b + q → c + r ≡ d + u → a * c + b * d + (p * u + q * r) ≡ a * d + b * c + (p * r + q * u)
multiply a b c d p q r u e f = omega (arith, ap (λ (z : ℕ). z * c) e, ap (λ (z : ℕ). z * d) e, ap (λ (z : ℕ). p * z) f, ap (λ (z : ℕ). q * z) f)

signed_mul : (s t : Bool) (a b c d v w : ℕ) → Signed s a b v → Signed t c d w → Signed (unlike s t) (a * c + b * d) (a * d + b * c) (v * w)
signed_mul true true a b c d v w e f = omega (arith, multiply a b c d v 0 w 0 e f)
signed_mul true false a b c d v w e f = omega (arith, multiply a b c d v 0 0 w e f)
signed_mul false true a b c d v w e f = omega (arith, multiply a b c d 0 v w 0 e f)
signed_mul false false a b c d v w e f = omega (arith, multiply a b c d 0 v 0 w e f)

signed_of : (a b : ℕ) → (s : Bool) × Signed s a b (dist a b)
signed_of a b = elim (dec_le b a) [ yes h ↦ (false, omega arith) | no h ↦ (true, omega arith) ]

pub dist_product : (a b c d : ℕ) → dist a b * dist c d ≡ dist (a * c + b * d) (a * d + b * c)
dist_product a b c d =
    let s = signed_of a b in
    let t = signed_of c d in
    signed_size (unlike s.0 t.0) _ _ _ (signed_mul s.0 t.0 a b c d (dist a b) (dist c d) s.1 t.1)

module _ {x y : Float} {a b c d i j : ℕ} (X : Is x a b i) (Y : Is y c d j) (n m : ℕ) (E : a * c + b * d ≡ n * 2 ^ 1074) (F : a * d + b * c ≡ m * 2 ^ 1074) where
  product : (X.size * Y.size ≡ dist n m * 2 ^ 1074) × Signed (unlike X.sign Y.sign) n m (dist n m)
  product = go (2 ^ 1074) (pow_pos 1074) (unlike X.sign Y.sign) (X.size * Y.size) (rw (E, F) at (signed_mul X.sign Y.sign a b c d X.size Y.size X.pair Y.pair))
    where
      go : (u : ℕ) → 0 < u → (s : Bool) (v : ℕ) → Signed s (n * u) (m * u) v → (v ≡ dist n m * u) × Signed s n m (dist n m)
      go u P true v h = let l : n ≤ m = le_of_mul-le-mul_right {k = u} (omega arith) P in (omega (arith, dist_mul n m u), omega arith)
      go u P false v h = let l : m ≤ n = le_of_mul-le-mul_right {k = u} (omega arith) P in (omega (arith, dist_mul n m u), omega arith)

  pub mul_rounds : NearPair (mul binary64 x y) n m
  mul_rounds =
      let U = 2 ^ 1074 in
      let P = pow_pos 1074 in
      record {
        neg = unlike X.sign Y.sign;
        size = dist n m;
        is = mul_value x y X.sign Y.sign X.size Y.size U U P P X.value Y.value ∙ round_same binary64 (unlike X.sign Y.sign) (X.size * Y.size) (U * U) (dist n m) U (mul-pos P P) P (ap (λ (w : ℕ). w * U) product.0 ∙ mul_assoc (dist n m) U U);
        pair = product.1;
      }

  -- and with an addend
  pub fma_rounds : {w : Float} {k l h : ℕ} → Is w k l h → NearPair (fma binary64 x y w) (n + k) (m + l)
  fma_rounds {w} {k} {l} W =
      subst (λ (f : Float). NearPair f (n + k) (m + l)) (sym (fma_value x y w X.sign Y.sign W.sign X.size Y.size W.size (2 ^ 1074) (dist n m) (pow_pos 1074) X.value Y.value W.value product.0))
      (sum_is (unlike X.sign Y.sign) W.sign (dist n m) W.size n m k l (n + k) (m + l) product.1 W.pair refl)

-- ---- a float has one value, and a value that is not 0 one float
pub signed_by : {x : Float} {a b i : ℕ} (s : Bool) (v : ℕ) → HasValue x s v (2 ^ 1074) → Is x a b i → Signed s a b v
signed_by {x} s v p X = rw (sym (sign_of_lem x X.sign _ _ X.value) ∙ sign_of_lem x s _ _ p, sym (place_of binary64 x X.sign X.size X.value) ∙ place_of binary64 x s v p) at X.pair

pub one_value : {x : Float} {a b c d i j : ℕ} → Is x a b i → Is x c d j → a + d ≡ c + b
one_value X Y = omega (arith, X.pair, signed_by X.sign X.size X.value Y)

pub one_float : {x y : Float} {a b c d i j : ℕ} → T (fits binary64 x) → T (fits binary64 y) → Is x a b i → Is y c d j → a + d ≡ c + b → (a ≡ b → ⊥) → x ≡ y
one_float {x} {y} {a} {b} {c} {d} F G X Y e some =
    let l = go X.sign Y.sign X.size Y.size X.pair Y.pair in
    value_unique x y X.sign X.size F G X.value (recast y (2 ^ 1074) (sym l.0) (sym l.1) Y.value)
  where
    go : (s t : Bool) (v u : ℕ) → Signed s a b v → Signed t c d u → (s ≡ t) × (v ≡ u)
    go true true v u p q = (refl, omega arith)
    go true false v u p q = absurd (some (omega arith))
    go false true v u p q = absurd (some (omega arith))
    go false false v u p q = (refl, omega arith)
