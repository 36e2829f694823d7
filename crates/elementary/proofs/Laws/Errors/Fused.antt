-- a × b + c from the rounded product and sum and what rounding took off them: the four numbers add up to it, and where both floats beside the small part give the same sum, that is it rounded once. Assumes nothing.
use mathlib.Core.Path.{◌≡◌, refl, sym, ap, ◌∙◌, subst}
use mathlib.Core.Logic.{inl, inr}
use mathlib.Core.Bool.{Bool, true, false, cond}
use Prim.Native.Nat.{ℕ, ◌+◌, ◌-◌, ◌*◌, ◌/◌, ◌%◌, ◌^◌, ◌≤◌, ◌<◌}
use native.Mathlib.Nat.{le_trans, le_of_eq, le_of_lt, eq-zero-or-pos, add_comm, mul-le-mul_right, le_of_mul-le-mul_right}
use native.Mathlib.Decide.{dec_le}
use native.Mathlib.Omega.{arith}
use lib.Dec.{T}
use lib.Pow.{pow-add, pow_pos}
use lib.Ieee.{Float, nan, inf, fin, binary64, add, fits, of_bits, to_bits, lt}
use lib.Ieee.Fits.{add-fits, mul-fits, round-fits}
use lib.Ieee.Exact.{HasValue}
use lib.Ieee.Scale.{finite}
use lib.Ieee.Bits.{of_bits-to_bits, to_bits-lt}
use Rattle.elementary.specs.Ops.{◌⊕◌, ◌⊗◌, bits}
use Rattle.elementary.specs.MulAdd.{fma}
use Rattle.elementary.specs.Inside.Errors.{InRange, rounded_high, cut_high, product_error, sum_error, ordered_sum_error, outward, inward, Certain}
use Rattle.elementary.proofs.Laws.Bits.{same_bits}
use Rattle.elementary.proofs.Laws.Powers.{pow_le_back}
use Rattle.elementary.proofs.Laws.Order.{le→fractions}
use Rattle.elementary.proofs.Laws.Compare.{le_of_not_lt}
use Rattle.elementary.proofs.Laws.Values.{add_sign, value_of_pattern}
use Rattle.elementary.proofs.Laws.Decode.{finite_field}
use Rattle.elementary.proofs.Laws.Errors.Digits.{dist, Short, turned, short_times, short_twice, near, near_dist_short}
use Rattle.elementary.proofs.Laws.Errors.Pairs.{bound, in_bound, Signed, signed_size, Is, NearPair, dist_add, add_exact, sub_exact, add_near, near_is, signed_by}
use Rattle.elementary.proofs.Laws.Errors.TwoSum as two_sum
use Rattle.elementary.proofs.Laws.Errors.TwoProduct as two_product
use Rattle.elementary.proofs.Laws.Errors.Between.{from_below, between}

-- ---- a finite float's digits: q * 2 ^ k units, and its bit pattern
record Spelled (x : Float) : Type 0 where
  neg : Bool
  k : ℕ
  q : ℕ
  fit : T (fits binary64 x)
  pattern : to_bits binary64 x ≡ cond neg 1 0 * 2 ^ 63 + (k * 2 ^ 52 + q)
  full : 0 < k → 2 ^ 52 ≤ q
  top : q < 2 ^ 53
  room : k * 2 ^ 52 + q < 2047 * 2 ^ 52

spell : (x : Float) → T (fits binary64 x) → to_bits binary64 x % 2 ^ 63 / 2 ^ 52 < 2047 → Spelled x
spell x F h =
    let b = to_bits binary64 x in
    let t = to_bits-lt binary64 x F in
    let s : (s : Bool) × (b ≡ cond s 1 0 * 2 ^ 63 + b % 2 ^ 63) = elim (dec_le (2 ^ 63) b) [ yes l ↦ (true, omega arith) | no l ↦ (false, omega arith) ] in
    elim (eq-zero-or-pos (b % 2 ^ 63 / 2 ^ 52)) [
      | inl e ↦ record { neg = s.0; k = 0; q = b % 2 ^ 63; fit = F; pattern = omega (arith, s.1); full = λ z. absurd (omega arith); top = omega arith; room = omega arith }
      | inr p ↦ record { neg = s.0; k = b % 2 ^ 63 / 2 ^ 52 - 1; q = 2 ^ 52 + b % 2 ^ 52; fit = F; pattern = omega (arith, s.1); full = λ z. omega arith; top = omega arith; room = omega arith }
    ]

finite_value : (x : Float) (s : Bool) (v : ℕ) → HasValue x s v (2 ^ 1074) → T (finite x)
finite_value nan s v p = p
finite_value (inf _) s v p = p
finite_value (fin _ m e) s v p = tt

spell_is : {x : Float} {a b i : ℕ} → T (fits binary64 x) → Is x a b i → Spelled x
spell_is {x} F X = spell x F (finite_field x F (finite_value x X.sign X.size X.value))

module _ {x : Float} (S : Spelled x) where
  -- a pattern of the same sign and exponent
  written : (c n : ℕ) → c ≡ cond S.neg 1 0 * 2 ^ 63 + (S.k * 2 ^ 52 + n) → (0 < S.k → 2 ^ 52 ≤ n) → n ≤ 2 ^ 53 → S.k * 2 ^ 52 + n < 2047 * 2 ^ 52 → HasValue (of_bits binary64 c) S.neg (n * 2 ^ S.k) (2 ^ 1074)
  written c n e u t r = rw (e, go S.neg (S.k * 2 ^ 52 + n)) (value_of_pattern S.neg S.k n u t r)
    where
      go : (s : Bool) (v : ℕ) → cond s 1 0 * 2 ^ 63 + v ≡ add_sign s v
      go true v = omega arith
      go false v = omega arith

  value : HasValue x S.neg (S.q * 2 ^ S.k) (2 ^ 1074)
  value = rw (of_bits-to_bits binary64 x S.fit) at (written (to_bits binary64 x) S.q S.pattern S.full (le_of_lt S.top) S.room)

  -- without its sign
  size_value : HasValue (bits (to_bits binary64 x % 2 ^ 63)) false (S.q * 2 ^ S.k) (2 ^ 1074)
  size_value = subst (λ (z : ℕ). HasValue (of_bits binary64 z) false (S.q * 2 ^ S.k) (2 ^ 1074)) (omega (arith, S.pattern, S.room)) (value_of_pattern false S.k S.q S.full (le_of_lt S.top) S.room)

  pair_is : {a b i : ℕ} → Is x a b i → Signed S.neg a b (S.q * 2 ^ S.k)
  pair_is X = signed_by S.neg (S.q * 2 ^ S.k) value X

  size_is : {a b i : ℕ} → Is x a b i → S.q * 2 ^ S.k ≡ dist a b
  size_is {a} {b} X = signed_size S.neg a b (S.q * 2 ^ S.k) (pair_is X)

-- ---- pairs by a sign
times : (s : Bool) (a b v u : ℕ) → Signed s a b v → Signed s (a * u) (b * u) (v * u)
times true a b v u e = omega (arith, ap (λ (z : ℕ). z * u) e)
times false a b v u e = omega (arith, ap (λ (z : ℕ). z * u) e)

unit_is : {x : Float} (s : Bool) (a b v i k : ℕ) → HasValue x s (v * 2 ^ i) (2 ^ 1074) → Signed s a b v → v * 2 ^ i ≤ k * bound → Is x (a * 2 ^ i) (b * 2 ^ i) k
unit_is s a b v i k p e h =
    let f = times s a b v (2 ^ i) e in
    record { sign = s; size = v * 2 ^ i; value = p; pair = f; small = le_trans (le_of_eq (sym (signed_size s (a * 2 ^ i) (b * 2 ^ i) (v * 2 ^ i) f))) h }

-- v or - v
alone : (s : Bool) (v : ℕ) → Signed s (cond s 0 v) (cond s v 0) v
alone s v = add_comm (cond s 0 v) (cond s v 0)

alone_short : (s : Bool) (v i : ℕ) → v ≤ 2 ^ 53 → Short (dist (cond s 0 v * 2 ^ i) (cond s v 0 * 2 ^ i))
alone_short s v i h = short_times (cond s 0 v) (cond s v 0) i (le_trans (le_of_eq (sym (signed_size s (cond s 0 v) (cond s v 0) v (alone s v)))) h)

-- the digits of a factor
in_range : {x : Float} (S : Spelled x) → InRange x → (2 ^ 52 ≤ S.q) × (767 ≤ S.k) × (S.k ≤ 1278) × (S.q < 2 ^ 53)
in_range S R =
    let l : 767 ≤ S.k = omega (arith, S.pattern, S.room, S.top, R.low) in
    let h = S.full (omega arith) in
    (h, l, omega (arith, S.pattern, S.room, R.high), S.top)

-- a factor of which `high` is h * 2 ^ 27 and the rest l - l'
abbrev Cut : Float → Float → ℕ → ℕ → Type 0
Cut x high i t = (h : ℕ) × (h' : ℕ) × (l : ℕ) × (l' : ℕ) × two_product.Factor x high i h h' l l' t

factor : {x : Float} (S : Spelled x) → InRange x → (high : Float) (h l l' t : ℕ) → S.q + l' ≡ h * 2 ^ 27 + l → h ≤ 2 ^ 26 → dist l l' ≤ 2 ^ t → HasValue high S.neg (h * 2 ^ 27 * 2 ^ S.k) (2 ^ 1074) → Cut x high S.k t
factor S R high h l l' t e H L v =
    let r = in_range S R in
    let s = S.neg in
    let a = cond s 0 h * 2 ^ 27 + cond s l' l in
    let b = cond s h 0 * 2 ^ 27 + cond s l l' in
    let g = go s in (
      cond s 0 h,
      cond s h 0,
      cond s l' l,
      cond s l l',
      record {
        whole = unit_is s a b S.q S.k 1 (value S) g.0 (in_bound S.q 53 S.k (le_of_lt S.top) (omega arith));
        high = unit_is s (cond s 0 h * 2 ^ 27) (cond s h 0 * 2 ^ 27) (h * 2 ^ 27) S.k 1 v g.1 (in_bound (h * 2 ^ 27) 53 S.k (omega arith) (omega arith));
        h_top = g.2;
        l_top = g.3;
        span = subst (λ (w : ℕ). (2 ^ 52 ≤ w) × (w < 2 ^ 53)) (signed_size s a b S.q g.0) (r.0, S.top);
      },
    )
  where
    go : (s : Bool) → (Signed s (cond s 0 h * 2 ^ 27 + cond s l' l) (cond s h 0 * 2 ^ 27 + cond s l l') S.q) × (Signed s (cond s 0 h * 2 ^ 27) (cond s h 0 * 2 ^ 27) (h * 2 ^ 27)) × (dist (cond s 0 h) (cond s h 0) ≤ 2 ^ 26) × (dist (cond s l' l) (cond s l l') ≤ 2 ^ t)
    go true = omega arith
    go false = omega arith

-- ---- p and e are a product x - x', c is added, f is the rounded sum
module _ {p e c f : Float} (x x' k k' : ℕ) (P : Is p (near (x - x')) (near (x' - x)) 2) (E : Is e (x + near (x' - x)) (x' + near (x - x')) 6) (C : Is c k k' 1) (K : Short (dist k k'))
    (small : dist x x' ≤ 1 * bound) (G : NearPair f (x + k) (x' + k')) where
  abbrev s : Float
  s = add binary64 p c

  abbrev y : ℕ
  y = near (x - x') + k

  abbrev y' : ℕ
  y' = near (x' - x) + k'

  abbrev q : ℕ
  q = near (y - y')

  abbrev q' : ℕ
  q' = near (y' - y)

  s_is : Is s q q' 6
  s_is = two_sum.sum_near P C (near_dist_short x x') K

  -- t is what rounding took off that sum
  module _ {t : Float} (TIs : Is t (y + q') (y' + q) 41) where
    abbrev w : Float
    w = add binary64 t e

    abbrev n : ℕ
    n = x + k + q'

    abbrev m : ℕ
    m = x' + k' + q

    abbrev u : ℕ
    u = near (n - m)

    abbrev u' : ℕ
    u' = near (m - n)

    w_is : Is w u u' 94
    w_is = add_near TIs E n m (omega arith) (omega arith)

    -- a float below and one above that give the same sum
    pinned : {lo hi : Float} (a a' b b' : ℕ) → Is lo a a' 320 → Is hi b b' 320 → Short (dist a a') → Short (dist b b') → a + u' < u + a' → u + b' < b + u' → to_bits binary64 (add binary64 s lo) ≡ to_bits binary64 (add binary64 s hi) → add binary64 s w ≡ f
    pinned {lo} {hi} a a' b b' L H SL SH under over same =
        let equal = same_bits (add binary64 s lo) (add binary64 s hi) (add-fits binary64 s lo) (add-fits binary64 s hi) same in
        let low = add_near s_is L (q + a) (q' + a') refl (omega arith) in
        let high = rw (← equal) at (add_near s_is H (q + b) (q' + b') refl (omega arith)) in
        let F : T (fits binary64 f) = rw G.is (round-fits binary64 G.neg G.size (2 ^ 1074)) in
        let whole = near_is G 2 (le_trans (dist_add x x' k k' (x + k) (x' + k') refl) (omega (arith, C.small))) (omega arith) in
        let below = from_below a a' n m SL under in
        let above = from_below b' b m n (turned b b' b' b (omega arith) SH) (omega arith) in
        sym (between (q + u) (q' + u') (q + a) (q' + a') (q + b) (q' + b') (add-fits binary64 s lo) (add-fits binary64 s w) low high (add_near s_is w_is (q + u) (q' + u') refl (omega arith)) (omega arith) (omega arith) (omega arith))
        ∙ between (x + k) (x' + k') (q + a) (q' + a') (q + b) (q' + b') (add-fits binary64 s lo) F low high whole (omega arith) (omega arith) (omega arith)

    -- ---- the two floats beside w
    S : Spelled w
    S = spell_is (add-fits binary64 t e) w_is

    abbrev size : ℕ
    size = S.q * 2 ^ S.k

    size_small : size ≤ 128 * bound
    size_small = le_trans (le_of_eq (size_is S w_is)) (omega (arith, w_is.small))

    room : S.k ≤ 2035
    unfolding bound
    room = elim (eq-zero-or-pos S.k) [
      | inl z ↦ omega arith
      | inr z ↦ omega (arith, pow_le_back (52 + S.k) 2087 (le_trans (le_of_eq (pow-add 2 52 S.k)) (le_trans (mul-le-mul_right (2 ^ S.k) (S.full z)) (le_trans size_small (le_of_eq (sym (pow-add 2 7 2080)))))))
    ]

    abbrev o : ℕ
    o = cond S.neg 0 (S.q + 1) * 2 ^ S.k

    abbrev o' : ℕ
    o' = cond S.neg (S.q + 1) 0 * 2 ^ S.k

    out_is : (j : ℕ) → 129 ≤ j → Is (outward w) o o' j
    out_is j h =
        unit_is S.neg (cond S.neg 0 (S.q + 1)) (cond S.neg (S.q + 1) 0) (S.q + 1) S.k j
        (written S (to_bits binary64 w + 1) (S.q + 1) (omega (arith, S.pattern)) (λ z. omega (arith, S.full z)) (omega (arith, S.top)) (omega (arith, S.top, room))) (alone S.neg (S.q + 1))
        (le_trans (omega (arith, size_small, in_bound 1 0 S.k (omega arith) (omega (arith, room)))) (mul-le-mul_right bound h))

    out_pair : Signed S.neg o o' ((S.q + 1) * 2 ^ S.k)
    out_pair = times S.neg (cond S.neg 0 (S.q + 1)) (cond S.neg (S.q + 1) 0) (S.q + 1) (2 ^ S.k) (alone S.neg (S.q + 1))

    out_short : Short (dist o o')
    out_short = alone_short S.neg (S.q + 1) S.k (omega (arith, S.top))

    in_short : Short (dist (u + u + o') (u' + u' + o))
    in_short = subst Short (go S.neg (pair_is S w_is) out_pair) (short_times S.q 1 S.k (omega (arith, S.top)))
      where
        go : (g : Bool) → Signed g u u' size → Signed g o o' ((S.q + 1) * 2 ^ S.k) → dist size (1 * 2 ^ S.k) ≡ dist (u + u + o') (u' + u' + o)
        go true e h = omega arith
        go false e h = omega arith

    in_is : Is (inward w) (u + u + o') (u' + u' + o) 320
    in_is = sub_exact (add_exact w_is w_is (u + u) (u' + u') refl (short_twice u u' (near_dist_short n m)) (omega arith)) (out_is 132 (omega arith)) (u + u + o') (u' + u' + o) refl in_short (omega arith)

    certain_sum : Certain s w → add binary64 s w ≡ f
    certain_sum same = go S.neg (pair_is S w_is) out_pair
      where
        go : (g : Bool) → Signed g u u' size → Signed g o o' ((S.q + 1) * 2 ^ S.k) → add binary64 s w ≡ f
        go false e h = pinned (u + u + o') (u' + u' + o) o o' in_is (out_is 320 (omega arith)) in_short out_short (omega (arith, pow_pos S.k)) (omega (arith, pow_pos S.k)) same
        go true e h = pinned o o' (u + u + o') (u' + u' + o) (out_is 320 (omega arith)) in_is out_short in_short (omega (arith, pow_pos S.k)) (omega (arith, pow_pos S.k)) (sym same)

-- ---- the operands
module _ (x y z : Float) (FX : T (fits binary64 x)) (FY : T (fits binary64 y)) (FZ : T (fits binary64 z)) (RX : InRange x) (RY : InRange y) (small : to_bits binary64 z % 2 ^ 63 < 0x7e00_0000_0000_0000) where
  X : Spelled x
  X = spell x FX (omega (arith, RX.high))

  Y : Spelled y
  Y = spell y FY (omega (arith, RY.high))

  Z : Spelled z
  Z = spell z FZ (omega arith)

  XF : Cut x (rounded_high x) X.k 26
  XF =
      let h = (X.q + 2 ^ 26) / 2 ^ 27 in
      let r = in_range X RX in
      factor X RX (rounded_high x) h (X.q - h * 2 ^ 27) (h * 2 ^ 27 - X.q) 26 (omega arith) (omega arith) (omega arith) (written X ((to_bits binary64 x + 2 ^ 26) / 2 ^ 27 * 2 ^ 27) (h * 2 ^ 27) (omega (arith, X.pattern)) (λ _. omega arith) (omega arith) (omega arith))

  YF : Cut y (cut_high y) Y.k 27
  YF =
      let h = Y.q / 2 ^ 27 in
      let r = in_range Y RY in
      factor Y RY (cut_high y) h (Y.q % 2 ^ 27) 0 27 (omega arith) (omega arith) (omega arith) (written Y (to_bits binary64 y - to_bits binary64 y % 2 ^ 27) (h * 2 ^ 27) (omega (arith, Y.pattern)) (λ _. omega arith) (omega arith) (omega arith))

  abbrev unit : ℕ
  unit = X.k + Y.k - 1074

  E : (X.k + Y.k ≡ unit + 1074) × (unit ≤ 1900)
  E = let r = in_range X RX in let t = in_range Y RY in omega arith

  abbrev xy : ℕ
  xy = two_product.z unit E XF.4 YF.4 * 2 ^ unit

  abbrev xy' : ℕ
  xy' = two_product.z' unit E XF.4 YF.4 * 2 ^ unit

  abbrev k : ℕ
  k = cond Z.neg 0 Z.q * 2 ^ Z.k

  abbrev k' : ℕ
  k' = cond Z.neg Z.q 0 * 2 ^ Z.k

  p_is : Is (x ⊗ y) (near (xy - xy')) (near (xy' - xy)) 2
  p_is = two_product.rounded unit E XF.4 YF.4

  e_is : Is (product_error x y) (xy + near (xy' - xy)) (xy' + near (xy - xy')) 6
  e_is = two_product.error_is unit E XF.4 YF.4

  z_is : Is z k k' 1
  z_is = unit_is Z.neg (cond Z.neg 0 Z.q) (cond Z.neg Z.q 0) Z.q Z.k 1 (value Z) (alone Z.neg Z.q) (in_bound Z.q 53 Z.k (le_of_lt Z.top) (omega (arith, Z.pattern, Z.room)))

  z_short : Short (dist k k')
  z_short = alone_short Z.neg Z.q Z.k (le_of_lt Z.top)

  f_is : NearPair (fma binary64 x y z) (xy + k) (xy' + k')
  f_is = two_product.fused unit E XF.4 YF.4 z_is

  small_product : dist xy xy' ≤ 1 * bound
  small_product = two_product.z_bound unit E XF.4 YF.4

  pub fused_is : Certain (x ⊗ y ⊕ z) (sum_error (x ⊗ y) z ⊕ product_error x y) → x ⊗ y ⊕ z ⊕ (sum_error (x ⊗ y) z ⊕ product_error x y) ≡ fma binary64 x y z
  fused_is = certain_sum xy xy' k k' p_is e_is z_is z_short small_product f_is (two_sum.error_is p_is z_is (near_dist_short xy xy') z_short)

  -- the product is not the smaller one
  ordered : lt (bits (to_bits binary64 (x ⊗ y) % 2 ^ 63)) (bits (to_bits binary64 z % 2 ^ 63)) ≡ false → dist k k' ≤ dist (near (xy - xy')) (near (xy' - xy))
  ordered h =
      let P = spell_is (mul-fits binary64 x y) p_is in
      let p' = bits (to_bits binary64 (x ⊗ y) % 2 ^ 63) in
      let z' = bits (to_bits binary64 z % 2 ^ 63) in
      let a = P.q * 2 ^ P.k in
      let b = Z.q * 2 ^ Z.k in
      let l = le_of_not_lt p' z' (finite_value p' false a (size_value P)) (finite_value z' false b (size_value Z)) h in
      let g = le_of_mul-le-mul_right {k = 2 ^ 1074} (le→fractions false false b a (2 ^ 1074) (2 ^ 1074) (pow_pos 1074) (pow_pos 1074) z' p' (size_value Z) (size_value P) (rw l tt)) (pow_pos 1074) in
      le_trans (le_of_eq (sym (size_is Z z_is))) (le_trans g (le_of_eq (size_is P p_is)))

  pub ordered_fused_is : lt (bits (to_bits binary64 (x ⊗ y) % 2 ^ 63)) (bits (to_bits binary64 z % 2 ^ 63)) ≡ false
      → Certain (x ⊗ y ⊕ z) (ordered_sum_error (x ⊗ y) z ⊕ product_error x y) → x ⊗ y ⊕ z ⊕ (ordered_sum_error (x ⊗ y) z ⊕ product_error x y) ≡ fma binary64 x y z
  ordered_fused_is h = certain_sum xy xy' k k' p_is e_is z_is z_short small_product f_is (two_sum.ordered_error_is p_is z_is (near_dist_short xy xy') z_short (ordered h))
