-- `sqrt_of f x`, for a finite x above 0 of the format f, is √x rounded to nearest. It neither overflows nor vanishes, and there is no tie: a middle of two
-- values is an odd number of one digit more, and its square has more digits than x. Assumes nothing.
use mathlib.Core.Path.{◌≡◌, refl, sym, ap, ◌∙◌}
use mathlib.Core.Bool.{true, false, ◌||◌}
use Prim.Native.Nat.{ℕ, zero, suc, ◌+◌, ◌-◌, ◌*◌, ◌^◌, ◌≤◌, ◌<◌, compare, Ordering}
use native.Mathlib.Nat.{le_trans, le_of_eq, le_refl, le_of_suc-le-suc, lt_of_not-le, lt_of_lt_of_le, lt_of_le_of_lt, mul_assoc, mul_comm, mul_left_comm, mul-mul-mul_comm, one-mul, pow-suc, mul-le-mul, mul-le-mul_right}
use native.Mathlib.Nat.{mul-lt-mul_of_pos_right, le-mul_of_pos_right, mul-pos, div-mul-le_self, le-div_iff_mul-le, div-lt_iff_lt-mul, eq_of_mul-eq-mul_right}
use native.Mathlib.Decide.{dec_le}
use native.Mathlib.Numerals.{add-one}
use native.Mathlib.Omega.{arith}
use lib.Dec.{T, ltb→lt}
use lib.Pow.{pow-add, pow_pos, pow_mono, pow-lt}
use lib.Ieee.{Float, nan, inf, fin, Format, prec, emax, low, up, down, size, nearest, units, fits, is_nan, of_bits, lt}
use lib.Ieee.Digits.{size-lt, size-le, size_reaches}
use lib.Ieee.Fits.{two, reach, down_pos, up_pos, kept-lt, nearest-le}
use lib.Ieee.Exact.{units_val}
use lib.Ieee.Nearest.{nearest-ge}
use lib.Ieee.Scale.{overflow}
use lib.Ieee.Positive.{positive, positive_of_value}
use Rattle.elementary.specs.Ops.{+0}
use Rattle.elementary.specs.Sqrt.{isqrt, round_root, in_units, sqrt_of}
use Rattle.elementary.specs.Promises.{place, NearestTo, RoundedRoot}
use Rattle.elementary.proofs.Laws.Powers.{pow_split}
use Rattle.elementary.proofs.Laws.Held.{holds}
use Rattle.elementary.proofs.Laws.Ordering.{cmp}
use Rattle.elementary.proofs.Laws.Isqrt.{sq_lt, sq_suc, sq_twice, isqrt_root}
use Rattle.elementary.proofs.Laws.Places.{InDigits, tail, lead, full, digits_of, finite_under}
use Rattle.elementary.proofs.Laws.Nearest.{middle, no_tie, units_nearest, nearest_one}

-- ---- numbers
sq_grows : (a b : ℕ) → a < b → a * a < b * b
sq_grows a b h = lt_of_lt_of_le (omega (arith, sq_suc a)) (mul-le-mul h h)

four_in : (m a b : ℕ) → 4 * (m * a * b) ≡ m * (a * b * 4)
four_in m a b = simp (mul_assoc, mul_comm, mul_left_comm)

-- d * d * 2 ^ a ≡ m * 2 ^ b, for an odd d: b is not above a, and where it is not, d is at most m
module _ (m a b : ℕ) where
  too_many : (d : ℕ) → 0 < d → d * d * 2 ^ a ≡ m * 2 ^ b → b ≤ a → d ≤ m
  too_many d p e h =
      let i : d * d * 2 ^ (a - b) ≡ m = eq_of_mul-eq-mul_right (2 ^ b) (pow_pos b) (d * d * 2 ^ (a - b)) m (mul_assoc (d * d) (2 ^ (a - b)) (2 ^ b) ∙ ap (λ (z : ℕ). d * d * z) (sym (pow_split b a h)) ∙ e) in
      le_trans (le_trans (le-mul_of_pos_right d p) (le-mul_of_pos_right (d * d) (pow_pos (a - b)))) (le_of_eq i)

  uneven : (q : ℕ) → (2 * q + 1) * (2 * q + 1) * 2 ^ a ≡ m * 2 ^ b → a < b → ⊥
  uneven q e h =
      let d = 2 * q + 1 in
      let c : b ≡ suc (b - suc a) + a = omega arith in
      let i : d * d ≡ m * 2 ^ (b - suc a) * 2 =
      eq_of_mul-eq-mul_right (2 ^ a) (pow_pos a) (d * d) (m * 2 ^ (b - suc a) * 2)
      (e ∙ ap (λ (z : ℕ). m * 2 ^ z) c ∙ rw (pow-add 2 (suc (b - suc a)) a, pow-suc 2 (b - suc a)) (simp mul_assoc)) in
      omega (arith, ap (λ (z : ℕ). z * z) (add-one (2 * q)), sq_suc (2 * q), sq_twice q)

size_pos : (w : ℕ) → 0 < w → 0 < size w
size_pos w p = lt_of_not-le (λ (g : size w ≤ 0). let l = pow_mono g in omega (arith, size-lt w))

-- ---- a finite value above 0 has a unit at least, and is below the overflow
pub in_range : (f : Format) (x : Float) → T (fits f x) → T (positive x) → (0 < place f x) × (place f x < overflow f)
unfolding place in_units
in_range f nan t p = absurd p
in_range f (inf s) t p = absurd p
in_range f (fin true m e) t p = absurd p
in_range f (fin false zero e) t p = absurd p
in_range f (fin false (suc m) e) t p =
    let l : 2 ^ low f ≤ suc m * up e * 2 ^ low f = le_trans (le_of_eq (sym (one-mul (2 ^ low f)))) (mul-le-mul_right (2 ^ low f) (mul-pos {m = suc m} (omega arith) (up_pos e))) in
    ((le-div_iff_mul-le (down_pos e)).1 (le_trans (le_of_eq (one-mul (down e))) (le_trans (holds f false m e t).1 l)), finite_under f false (suc m) e t)

pub sqrt_is : (f : Format) (x : Float) → T (positive x) → sqrt_of f x ≡ round_root f (place f x * 2 ^ low f)
unfolding sqrt_of place
sqrt_is f nan p = absurd p
sqrt_is f (inf s) p = absurd p
sqrt_is f (fin true m e) p = absurd p
sqrt_is f (fin false zero e) p = absurd p
sqrt_is f (fin false (suc m) e) p = refl

-- ---- the digits that are kept, and where the root lies
module _ (f : Format) (n : ℕ) where
  abbrev k : ℕ
  k = tail (prec f) (isqrt n)

  abbrev q : ℕ
  q = lead (prec f) (isqrt n)

  abbrev mid : ℕ
  mid = middle (prec f) (isqrt n)

  abbrev order : Ordering
  order = compare (4 * n) (mid * mid)

  from : 2 * (q * 2 ^ k) * (2 * (q * 2 ^ k)) ≤ 4 * n
  from =
      let l = div-mul-le_self (isqrt n) (2 ^ k) in
      omega (arith, sq_twice (q * 2 ^ k), le_trans (mul-le-mul l l) (isqrt_root n).0)

  to : 4 * n < 2 * (suc q * 2 ^ k) * (2 * (suc q * 2 ^ k))
  to =
      let l : isqrt n < suc q * 2 ^ k = (div-lt_iff_lt-mul (pow_pos k)).0 (le_refl (suc q)) in
      omega (arith, sq_twice (suc q * 2 ^ k), lt_of_lt_of_le (isqrt_root n).1 (mul-le-mul l l))

  pub root_is : round_root f n ≡ units f false (nearest q order) k
  unfolding round_root
  root_is = refl

  root_nearest : NearestTo f false (4 * n) (λ (x : ℕ). x * x) (round_root f n)
  root_nearest = rw root_is (units_nearest f (isqrt n) (4 * n) (λ (x : ℕ). x * x) sq_grows from to false order (cmp (4 * n) (mid * mid)))

  -- the root is at no middle: the square of an odd number has too many digits
  no_middle : (x : ℕ) → InDigits (prec f) x → n ≡ x * 2 ^ low f → 4 * n ≡ mid * mid → ⊥
  no_middle x d e t = go (dec_le (d.1 + low f + 2) (k + k))
    where
      same : (2 * q + 1) * (2 * q + 1) * 2 ^ (k + k) ≡ d.0 * 2 ^ (d.1 + low f + 2)
      same =
          rw (pow-add 2 k k, pow-add 2 (d.1 + low f) 2, pow-add 2 d.1 (low f))
          (mul-mul-mul_comm (2 * q + 1) (2 * q + 1) (2 ^ k) (2 ^ k)
          ∙ sym t
          ∙ ap (λ (z : ℕ). 4 * z) (e ∙ ap (λ (z : ℕ). z * 2 ^ low f) d.3)
          ∙ four_in d.0 (2 ^ d.1) (2 ^ low f))

      go : Dec (d.1 + low f + 2 ≤ k + k) → ⊥
      go (yes h) =
          let i : 2 ^ (prec f - 1) ≤ q = full (prec f) (isqrt n) (two f) (omega arith) in
          let g : suc (prec f - 1) ≡ prec f = omega (arith, two f) in
          let l = too_many d.0 (k + k) (d.1 + low f + 2) (2 * q + 1) (omega arith) same h in
          omega (arith, d.2, pow-suc 2 (prec f - 1), ap (λ (z : ℕ). 2 ^ z) g)
      go (no h) = uneven d.0 (k + k) (d.1 + low f + 2) q same (lt_of_not-le h)

  -- ---- the result is a finite value above 0
  module _ (small : n < overflow f * 2 ^ low f) (some : 0 < n) where
    root_size : size (isqrt n) ≤ low f + emax f
    root_size =
        let i : low f + suc (emax f) + low f ≤ low f + emax f + (low f + emax f) = omega (arith, two f, reach f) in
        let u : n < 2 ^ (low f + emax f) * 2 ^ (low f + emax f) =
        rw (← pow-add 2 (low f + emax f) (low f + emax f)) (lt_of_lt_of_le (rw (← pow-add 2 (low f + suc (emax f)) (low f)) at small) (pow_mono i)) in
        size-le (isqrt n) (low f + emax f) (sq_lt (isqrt n) (2 ^ (low f + emax f)) (lt_of_le_of_lt (isqrt_root n).0 u))

    under : nearest q order * 2 ^ k < overflow f
    under =
        let i : prec f + k < low f + suc (emax f) = omega (arith, two f, reach f, root_size) in
        lt_of_le_of_lt (le_trans (mul-le-mul_right (2 ^ k) (le_trans (nearest-le q order) (kept-lt (prec f) (isqrt n)))) (le_of_eq (sym (pow-add 2 (prec f) k)))) (pow-lt i)

    q_pos : 0 < q
    q_pos =
        let s = size_pos (isqrt n) (le_of_suc-le-suc (sq_lt 1 (suc (isqrt n)) (omega (arith, (isqrt_root n).1)))) in
        (le-div_iff_mul-le (pow_pos k)).1 (le_trans (le_of_eq (one-mul (2 ^ k))) (size_reaches (isqrt n) k (omega (arith, two f))))

    root_positive : T (positive (round_root f n))
    root_positive =
        rw root_is
        (positive_of_value (units f false (nearest q order) k) (nearest q order * 2 ^ k) (2 ^ low f)
        (units_val f false (nearest q order) k under)
        (mul-pos (lt_of_lt_of_le q_pos (nearest-ge q order)) (pow_pos k)))

-- ---- the theorem
pub sqrt_rounded : (f : Format) (x : Float) → T (fits f x) → T (positive x) → RoundedRoot f x (sqrt_of f x)
sqrt_rounded f x t p =
    let n = place f x * 2 ^ low f in
    let z = in_range f x t p in
    let small : n < overflow f * 2 ^ low f = mul-lt-mul_of_pos_right z.1 (pow_pos (low f)) in
    let some : 0 < n = mul-pos z.0 (pow_pos (low f)) in
    rw (sqrt_is f x p) record {
      nearest = root_nearest f n;
      above_zero = root_positive f n small some;
      no_tie =
          rw (root_is f n)
          (no_tie f (isqrt n) (4 * n) (λ (x : ℕ). x * x) sq_grows (from f n) (to f n) false (order f n) (cmp (4 * n) (mid f n * mid f n)) (under f n small some)
          (no_middle f n (place f x) (digits_of f x t) refl));
    }

pub root_one : (f : Format) (x r q : Float) → RoundedRoot f x r → RoundedRoot f x q → r ≡ q
root_one f x r q a b = nearest_one f false (4 * (place f x * 2 ^ low f)) (λ (n : ℕ). n * n) sq_grows r q a.nearest b.nearest

-- ---- the other operands
pub sqrt_none : (f : Format) (x : Float) → T (is_nan x || lt x +0) → sqrt_of f x ≡ nan
unfolding sqrt_of is_nan lt of_bits
sqrt_none f nan h = refl
sqrt_none f (inf true) h = refl
sqrt_none f (inf false) h = absurd h
sqrt_none f (fin true zero e) h = absurd (let l = ltb→lt 0 (0 * up e * 1 + 0 * down e) h in omega arith)
sqrt_none f (fin true (suc m) e) h = refl
sqrt_none f (fin false m e) h = absurd (let l = ltb→lt (m * up e * 1) (0 * down e) h in omega arith)
