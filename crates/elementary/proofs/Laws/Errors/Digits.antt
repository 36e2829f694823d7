-- Whole numbers of units, 2 ^ -1074, rounded to 53 digits: the nearest such number, and the same for differences of two whole numbers. Assumes nothing.
use mathlib.Core.Path.{◌≡◌, refl, sym, ap, ◌∙◌, subst}
use Prim.Native.Nat.{ℕ, suc, ◌+◌, ◌-◌, ◌*◌, ◌/◌, ◌%◌, ◌^◌, ◌≤◌, ◌<◌, compare, Ordering}
use native.Mathlib.Nat.{le_trans, le_of_eq, le_of_lt, lt_of_lt_of_le, mul_assoc, mul-le-mul_right, lt_of_mul-lt-mul_right, add-mul, div-add-mod', mod-lt, pow-succ'}
use native.Mathlib.Decide.{dec_le}
use native.Mathlib.Omega.{arith}
use lib.Pow.{pow-add, pow_pos, pow_mono, shr_lt}
use lib.Ieee.{size, nearest}
use lib.Ieee.Digits.{size-lt, size_reaches}
use lib.Ieee.Fits.{nearest-le}
use lib.Ieee.Nearest.{closest}
use Rattle.elementary.proofs.Laws.Ordering.{Cmp, cmp}
use Rattle.elementary.proofs.Laws.Powers.{pow_split}
use Rattle.elementary.proofs.Laws.Adding.{sub_mul}

-- w * d + r, with the remainder r, is off by a half at most
half_of : (w r d : ℕ) (o : Ordering) → r < d → Cmp o (r * 2) d → (nearest w o * d * 2 ≤ (w * d + r) * 2 + d) × ((w * d + r) * 2 ≤ nearest w o * d * 2 + d)
half_of w r d Ordering.lt l c = omega arith
half_of w r d Ordering.eq l c = let h : w % 2 * d ≤ 1 * d = mul-le-mul_right d (omega arith) in omega arith
half_of w r d Ordering.gt l c = omega arith

-- ---- the digits beyond the 53 first
abbrev pub ex : ℕ → ℕ
ex n = size n - 53

pub ex_lt : (n : ℕ) → n < 2 ^ (53 + ex n)
ex_lt n = lt_of_lt_of_le (size-lt n) (pow_mono {i = size n} {j = 53 + ex n} (omega arith))

-- ---- multiples of a power
abbrev pub Mult : ℕ → ℕ → Type 0
Mult n j = (q : ℕ) × (n ≡ q * 2 ^ j)

pub mult_down : (n i j : ℕ) → i ≤ j → Mult n j → Mult n i
mult_down n i j h m = (m.0 * 2 ^ (j - i), m.1 ∙ ap (λ (z : ℕ). m.0 * z) (pow_split i j h) ∙ sym (mul_assoc m.0 (2 ^ (j - i)) (2 ^ i)))

-- two multiples are equal or a unit apart
mult_apart : (a b j : ℕ) → Mult a j → Mult b j → a < b → a + 2 ^ j ≤ b
mult_apart a b j m n l =
    let h : m.0 < n.0 = lt_of_mul-lt-mul_right (2 ^ j) (rw (← m.1, ← n.1) l) in
    let k : suc m.0 * 2 ^ j ≤ n.0 * 2 ^ j = mul-le-mul_right (2 ^ j) h in
    omega (arith, m.1, n.1)

-- ---- a - b in size
abbrev pub dist : ℕ → ℕ → ℕ
dist a b = a - b + (b - a)

pub dist_mul : (a b u : ℕ) → dist a b * u ≡ dist (a * u) (b * u)
dist_mul a b u = add-mul (a - b) (b - a) u ∙ rw (sub_mul a b u, sub_mul b a u)

pub same_dist : (a b c d : ℕ) → a + d ≡ c + b → dist a b ≡ dist c d
same_dist a b c d e = omega arith

-- a - b and c - d add up to n - m
pub mult_add : (a b c d n m j : ℕ) → a + c + m ≡ n + (b + d) → Mult (dist a b) j → Mult (dist c d) j → Mult (dist n m) j
mult_add a b c d n m j e x y =
    let k = signed a b x in
    let l = signed c d y in
    let u = k.0 + l.0 in
    let v = k.1 + l.1 in
    (dist u v, same_dist n m (u * 2 ^ j) (v * 2 ^ j) (omega (arith, k.2, l.2)) ∙ sym (dist_mul u v (2 ^ j)))
  where
    signed : (a b : ℕ) → Mult (dist a b) j → (u : ℕ) × (v : ℕ) × (a + v * 2 ^ j ≡ b + u * 2 ^ j)
    signed a b m = elim (dec_le b a) [ yes h ↦ (m.0, 0, omega (arith, m.1)) | no h ↦ (0, m.0, omega (arith, m.1)) ]

-- ---- numbers of at most 53 digits, closing zeros aside
pub record Short (n : ℕ) : Type 0 where
  pub unit : ℕ
  pub mult : Mult n unit
  pub top : n ≤ 2 ^ (53 + unit)

-- c - d is b - a
pub turned : (a b c d : ℕ) → a + c ≡ b + d → Short (dist a b) → Short (dist c d)
turned a b c d e S = subst Short (omega arith) S

pub short_times : (a b j : ℕ) → dist a b ≤ 2 ^ 53 → Short (dist (a * 2 ^ j) (b * 2 ^ j))
short_times a b j h =
    let e = dist_mul a b (2 ^ j) in
    record { unit = j; mult = (dist a b, sym e); top = le_trans (le_of_eq (sym e)) (le_trans (mul-le-mul_right (2 ^ j) h) (le_of_eq (sym (pow-add 2 53 j)))) }

pub short_twice : (a b : ℕ) → Short (dist a b) → Short (dist (a + a) (b + b))
short_twice a b A = record {
  unit = suc A.unit;
  mult = (A.mult.0, omega (arith, A.mult.1, ap (λ (z : ℕ). A.mult.0 * z) (pow-succ' 2 A.unit)));
  top = omega (arith, A.top, pow_mono {i = suc (53 + A.unit)} {j = 53 + suc A.unit} (omega arith));
}

-- ---- the nearest of them
unfoldable pub near : ℕ → ℕ
near n = closest n (2 ^ ex n) * 2 ^ ex n

pub near_mult : (n : ℕ) → Mult (near n) (ex n)
unfolding near
near_mult n = (closest n (2 ^ ex n), refl)

near_short : (n : ℕ) → Short (near n)
unfolding near
near_short n =
    let kept = le_trans (nearest-le (n / 2 ^ ex n) (compare (n % 2 ^ ex n * 2) (2 ^ ex n))) (shr_lt 53 (ex n) (ex_lt n)) in
    record { unit = ex n; mult = near_mult n; top = le_trans (mul-le-mul_right (2 ^ ex n) kept) (le_of_eq (sym (pow-add 2 53 (ex n)))) }

pub near_half : (n : ℕ) → (near n * 2 ≤ n * 2 + 2 ^ ex n) × (n * 2 ≤ near n * 2 + 2 ^ ex n)
unfolding near
near_half n =
    let d = 2 ^ ex n in
    subst (λ (z : ℕ). (near n * 2 ≤ z * 2 + d) × (z * 2 ≤ near n * 2 + d)) (div-add-mod' n d) (half_of (n / d) (n % d) d (compare (n % d * 2) d) (mod-lt n (pow_pos (ex n))) (cmp (n % d * 2) d))

-- among the multiples of its unit
best_mult : (n f : ℕ) → Mult f (ex n) → dist (near n) n ≤ dist f n
best_mult n f m = elim (dec_le f (near n)) [
  | yes a ↦ elim (dec_le (near n) f) [ yes b ↦ omega arith | no b ↦ omega (arith, mult_apart f (near n) (ex n) m (near_mult n) (omega arith), near_half n) ]
  | no a ↦ omega (arith, mult_apart (near n) f (ex n) (near_mult n) m (omega arith), near_half n)
]

pub near_best : (n f : ℕ) → Short f → dist (near n) n ≤ dist f n
near_best n f s = elim (dec_le (ex n) s.unit) [
  | yes h ↦ best_mult n f (mult_down f (ex n) s.unit h s.mult)
  | no h ↦
      let m = 2 ^ (52 + ex n) in
      let below : f ≤ m = le_trans s.top (pow_mono {i = 53 + s.unit} {j = 52 + ex n} (omega arith)) in
      let reached : m ≤ n = size_reaches n (52 + ex n) (omega arith) in
      omega (arith, best_mult n m (2 ^ 52, pow-add 2 52 (ex n)))
]

pub near_exact : (n : ℕ) → Short n → near n ≡ n
near_exact n s = omega (arith, near_best n n s)

pub near_mono : (a b : ℕ) → a ≤ b → near a ≤ near b
near_mono a b h = elim (dec_le (near a) (near b)) [
  | yes l ↦ l
  | no l ↦
      let u = (mid (near a) (near b) a (omega arith)).0 (near_best a (near b) (near_short b)) in
      let v = (mid (near a) (near b) b (omega arith)).1 (near_best b (near a) (near_short a)) in
      le_of_eq (ap near (omega arith))
]
  where
    mid : (p q x : ℕ) → q < p → (dist p x ≤ dist q x → p + q ≤ x * 2) × (dist q x ≤ dist p x → x * 2 ≤ p + q)
    mid p q x l = omega arith

-- a multiple of 2 ^ j is not changed where at most j digits are beyond the 53 first, and stays a multiple in any case
pub near_whole : (n j : ℕ) → Mult n j → ex n ≤ j → near n ≡ n
near_whole n j m h = near_exact n (record { unit = j; mult = m; top = le_trans (le_of_lt (ex_lt n)) (pow_mono {i = 53 + ex n} {j = 53 + j} (omega arith)) })

pub near_keeps : (n j : ℕ) → Mult n j → Mult (near n) j
near_keeps n j m = elim (dec_le j (ex n)) [
  | yes h ↦ mult_down (near n) j (ex n) h (near_mult n)
  | no h ↦ subst (λ (z : ℕ). Mult z j) (sym (near_whole n j m (omega arith))) m
]

-- ---- differences: n - m rounded, and m - n, of which one is 0
pub short_zero : Short 0
short_zero = record { unit = 0; mult = (0, refl); top = le_of_lt (pow_pos 53) }

pub near_sides : (n m d : ℕ) → n + d ≡ m → (near (n - m) ≡ 0) × (near (m - n) ≡ near d)
near_sides n m d e = (ap near (omega arith) ∙ near_exact 0 short_zero, ap near (omega arith))

-- the size of what is rounded, and of what rounding takes off
pub near_dist : (n m : ℕ) → (dist (near (n - m)) (near (m - n)) ≡ near (dist n m)) × (dist (near (n - m) + m) (near (m - n) + n) ≡ dist (near (dist n m)) (dist n m))
near_dist n m = elim (dec_le n m) [
  | yes h ↦ let z = near_sides n m (dist n m) (omega arith) in omega arith
  | no h ↦ let z = near_sides m n (dist n m) (omega arith) in omega arith
]

pub near_dist_short : (n m : ℕ) → Short (dist (near (n - m)) (near (m - n)))
near_dist_short n m = subst Short (sym (near_dist n m).0) (near_short (dist n m))

pub near_part : (n m : ℕ) → Short (dist n m) → (near (n - m) ≡ n - m) × (near (m - n) ≡ m - n)
near_part n m S = elim (dec_le n m) [
  | yes h ↦ let z = near_sides n m (dist n m) (omega arith) in omega (arith, near_exact (dist n m) S)
  | no h ↦ let z = near_sides m n (dist n m) (omega arith) in omega (arith, near_exact (dist n m) S)
]
