-- Knuth's error-free addition: s and t with s the rounded sum of two floats and s + t their sum. Assumes nothing.
use mathlib.Core.Path.{◌≡◌, sym, ap, ◌∙◌, subst}
use Prim.Native.Nat.{ℕ, suc, ◌+◌, ◌-◌, ◌^◌, ◌≤◌}
use native.Mathlib.Nat.{le_trans, le_of_eq}
use native.Mathlib.Decide.{dec_le}
use native.Mathlib.Omega.{arith}
use lib.Pow.{pow_mono}
use lib.Ieee.{Float, binary64, add, sub}
use Rattle.elementary.proofs.Laws.Errors.Digits.{ex, Mult, mult_down, dist, same_dist, mult_add, Short, turned, short_twice, short_zero, near, near_mult, near_best, near_exact, near_mono, near_whole, near_keeps, near_dist, near_dist_short, near_part}
use Rattle.elementary.proofs.Laws.Errors.Pairs.{Is, widen, dist_add, add_exact, add_near, sub_exact, sub_near}

-- a unit of both, of which the smaller one has at most 53 digits
common : (x y : ℕ) → Short x → Short y → y ≤ x → (j : ℕ) × (Mult x j) × (Mult y j) × (y ≤ 2 ^ (53 + j))
common x y A C l = elim (dec_le A.unit C.unit) [
  | yes h ↦ (A.unit, A.mult, mult_down y A.unit C.unit h C.mult, le_trans l A.top)
  | no h ↦ (C.unit, mult_down x C.unit A.unit (omega arith) A.mult, C.mult, C.top)
]

turn : (a b j : ℕ) → Mult (dist a b) j → Mult (dist b a) j
turn a b j m = (m.0, omega (arith, m.1))

none : (a b x : ℕ) → dist a b ≡ dist x x → a ≡ b
none a b x e = omega arith

below : (a b s r : ℕ) → s ≤ a + a - (b + b) → r ≤ b + b - (a + a) → dist (s + b) (r + a) ≤ dist a b
below a b s r h k = omega arith

-- what x takes off the rounded sum, and what rounding took off, are short where x is not the smaller one
module _ (a b c d n m : ℕ) (E : a + c + m ≡ n + (b + d)) (A : Short (dist a b)) (C : Short (dist c d)) (l : dist c d ≤ dist a b) where
  abbrev s : ℕ
  s = near (n - m)

  abbrev r : ℕ
  r = near (m - n)

  unit : (j : ℕ) × (Mult (dist a b) j) × (Mult (dist c d) j) × (dist c d ≤ 2 ^ (53 + j))
  unit = common (dist a b) (dist c d) A C l

  whole : Mult (dist n m) unit.0
  whole = mult_add a b c d n m unit.0 E unit.1 unit.2

  rounded : (j : ℕ) → Mult (near (dist n m)) j → Mult (dist s r) j
  rounded j h = subst (λ (z : ℕ). Mult z j) (sym (near_dist n m).0) h

  pub off : dist (s + m) (r + n) ≤ dist c d
  off = le_trans (le_of_eq (near_dist n m).1) (le_trans (near_best (dist n m) (dist a b) A) (within (dist a b) (dist n m) (dist c d) (omega arith) (dist_add a b c d n m E)))
    where
      within : (x y z : ℕ) → x ≤ y + z → y ≤ x + z → dist x y ≤ z
      within x y z h k = omega arith

  pub rest : Short (dist (s + m) (r + n))
  rest = record {
    unit = unit.0;
    mult = mult_add s r m n (s + m) (r + n) unit.0 (omega arith) (rounded unit.0 (near_keeps (dist n m) unit.0 whole)) (turn n m unit.0 whole);
    top = le_trans off unit.3;
  }

  pub first : Short (dist (s + b) (r + a))
  first = go (dec_le k unit.0) (dec_le k A.unit)
    where
      k : ℕ
      k = ex (dist n m)

      twice : (near (a + a - (b + b)) ≡ a + a - (b + b)) × (near (b + b - (a + a)) ≡ b + b - (a + a))
      twice = near_part (a + a) (b + b) (short_twice a b A)

      steps : (j : ℕ) → Mult (near (dist n m)) j → Mult (dist a b) j → Mult (dist (s + b) (r + a)) j
      steps j h g = mult_add s r b a (s + b) (r + a) j (omega arith) (rounded j h) (turn a b j g)

      go : Dec (k ≤ unit.0) → Dec (k ≤ A.unit) → Short (dist (s + b) (r + a))
      go (yes h) _ =
          let o = none (s + m) (r + n) (dist n m) ((near_dist n m).1 ∙ ap (λ (z : ℕ). dist z (dist n m)) (near_whole (dist n m) unit.0 whole h)) in
          subst Short (same_dist c d (s + b) (r + a) (omega arith)) C
      go (no h) (yes g) = record {
        unit = k;
        mult = steps k (near_mult (dist n m)) (mult_down (dist a b) k A.unit g A.mult);
        top = le_trans (dist_add (s + m) (r + n) c d (s + b) (r + a) (omega arith)) (omega (arith, off, unit.3, pow_mono {i = suc (53 + unit.0)} {j = 53 + k} (omega arith)));
      }
      go (no h) (no g) = record {
        unit = A.unit;
        mult = steps A.unit (mult_down (near (dist n m)) A.unit k (omega arith) (near_mult (dist n m))) A.mult;
        top = le_trans (below a b s r (le_trans (near_mono (n - m) (a + a - (b + b)) (omega arith)) (le_of_eq twice.0)) (le_trans (near_mono (m - n) (b + b - (a + a)) (omega arith)) (le_of_eq twice.1))) A.top;
      }

-- ---- the steps
module _ {x y : Float} {a b c d : ℕ} (X : Is x a b 2) (Y : Is y c d 1) (A : Short (dist a b)) (C : Short (dist c d)) where
  abbrev p : ℕ
  p = near (a + c - (b + d))

  abbrev q : ℕ
  q = near (b + d - (a + c))

  abbrev sum : Float
  sum = add binary64 x y

  abbrev v : Float
  v = sub binary64 sum x

  abbrev t : Float
  t = add binary64 (sub binary64 x (sub binary64 sum v)) (sub binary64 y v)

  abbrev N : ℕ
  N = a + c + q

  abbrev M : ℕ
  M = b + d + p

  pub sum_near : Is sum p q 6
  sum_near = add_near X Y (a + c) (b + d) (omega arith) (omega arith)

  -- where s - x is short
  module _ (F : Short (dist (p + b) (q + a))) (R : Short (dist N M)) where
    first_is : Is v (p + b) (q + a) 8
    first_is = sub_exact sum_near X (p + b) (q + a) (omega arith) F (omega arith)

    left_is : Is (sub binary64 y v) N M 9
    left_is = sub_exact Y first_is N M (omega arith) R (omega arith)

    by_first : Is t N M 41
    by_first =
        let Z : Is (sub binary64 sum v) a b 14 = sub_exact sum_near first_is a b (omega arith) A (omega arith) in
        let D : Is (sub binary64 x (sub binary64 sum v)) 0 0 16 = sub_exact X Z 0 0 (omega arith) short_zero (omega arith) in
        widen 41 (omega arith) (add_exact D left_is N M (omega arith) R (omega arith))

  -- where s - x is rounded once more
  by_second : dist a b ≤ dist c d → dist b a ≤ dist p q → Is t N M 41
  by_second l g =
      let u = near (p + b - (q + a)) in
      let w = near (q + a - (p + b)) in
      let B = turned a b b a (omega arith) A in
      let P = near_dist_short (a + c) (b + d) in
      let R = rest c d a b (a + c) (b + d) (omega arith) C A l in
      let G = first c d (p + (b + d)) (q + (a + c)) (p + b) (q + a) (omega arith) C R (le_trans (off c d a b (a + c) (b + d) (omega arith) C A l) l) in
      let W : Is v u w 16 = sub_near sum_near X (p + b) (q + a) (omega arith) (omega arith) in
      let Z : Is (sub binary64 sum v) (p + w) (q + u) 22 = sub_exact sum_near W (p + w) (q + u) (omega arith) (turned (u + q) (w + p) (p + w) (q + u) (omega arith) (first p q b a (p + b) (q + a) (omega arith) P B g)) (omega arith) in
      let D : Is (sub binary64 x (sub binary64 sum v)) (u + (q + a)) (w + (p + b)) 24 = sub_exact X Z (u + (q + a)) (w + (p + b)) (omega arith) (rest p q b a (p + b) (q + a) (omega arith) P B g) (omega arith) in
      let E : Is (sub binary64 y v) (c + w) (d + u) 17 = sub_exact Y W (c + w) (d + u) (omega arith) (turned (u + d) (w + c) (c + w) (d + u) (omega arith) G) (omega arith) in
      add_exact D E N M (omega arith) (turned (p + (b + d)) (q + (a + c)) N M (omega arith) R) (omega arith)

  -- ---- which of the two it is
  pub error_is : Is t N M 41
  error_is = go (dec_le (dist c d) (dist a b)) (dec_le (dist a b) (dist (a + c) (b + d)))
    where
      short_sum : dist a b ≤ dist c d → dist (a + c) (b + d) ≤ dist a b → Short (dist (a + c) (b + d))
      short_sum l h = let J = common (dist c d) (dist a b) C A l in record { unit = J.0; mult = mult_add a b c d (a + c) (b + d) J.0 (omega arith) J.2 J.1; top = le_trans h J.3 }

      go : Dec (dist c d ≤ dist a b) → Dec (dist a b ≤ dist (a + c) (b + d)) → Is t N M 41
      go (yes h) _ = by_first (first a b c d (a + c) (b + d) (omega arith) A C h) (turned (p + (b + d)) (q + (a + c)) N M (omega arith) (rest a b c d (a + c) (b + d) (omega arith) A C h))
      go (no h) (yes g) = by_second (omega arith) (omega (arith, near_mono (dist a b) (dist (a + c) (b + d)) g, near_exact (dist a b) A, (near_dist (a + c) (b + d)).0))
      go (no h) (no g) =
          let e = near_part (a + c) (b + d) (short_sum (omega arith) (omega arith)) in
          let h : p + (b + d) ≡ q + (a + c) = omega arith in
          by_first (subst Short (same_dist c d (p + b) (q + a) (omega arith)) C) (subst Short (same_dist 0 0 N M (omega arith)) short_zero)

  -- Dekker's, where x is not the smaller one
  pub ordered_error_is : dist c d ≤ dist a b → Is (sub binary64 y v) N M 41
  ordered_error_is h = widen 41 (omega arith) (left_is (first a b c d (a + c) (b + d) (omega arith) A C h) (turned (p + (b + d)) (q + (a + c)) N M (omega arith) (rest a b c d (a + c) (b + d) (omega arith) A C h)))
