-- The values of a format as whole numbers of its smallest value: their digits, their range, the last digit, and that a sign and a place make one value. Assumes nothing.
use mathlib.Core.Path.{◌≡◌, refl, sym, ap, ◌∙◌}
use mathlib.Core.Bool.{Bool, true, false, not, cond}
use mathlib.Core.Logic.{inl, inr}
use Prim.Native.Nat.{ℕ, zero, suc, ◌+◌, ◌-◌, ◌*◌, ◌/◌, ◌%◌, ◌^◌, ◌≤◌, ◌<◌}
use native.Mathlib.Nat.{le_trans, le_of_eq, le_of_lt, le_refl, le-suc, lt_of_not-le, eq-or-lt_of_le, eq-zero-or-pos, lt_of_lt_of_le, lt_of_le_of_lt, not-le_of_lt, mul_assoc, mul_comm, mul_left_comm, mul-one, one-mul, zero-mul, pow-suc, mul-le-mul_right, mul-lt-mul_of_pos_right, lt_of_mul-lt-mul_right, mul-div_cancel, zero-div, div-lt_iff_lt-mul, le-div_iff_mul-le}
use native.Mathlib.Decide.{dec_le}
use native.Mathlib.Omega.{arith}
use lib.IntN.{ℤ, pos, negsuc}
use lib.Dec.{T}
use lib.Pow.{pow-add, pow_pos, pow_mono, pow-lt, shl_lt}
use lib.Ieee.{Float, nan, inf, fin, Format, binary32, binary64, prec, emax, low, up, down, size, fits, is_nan, hid, top, round, of_bits, to_bits}
use lib.Ieee.Digits.{size-lt, size-le, size_reaches}
use lib.Ieee.Fits.{two, two-le_pos, down_pos, kept-lt}
use lib.Ieee.Exact.{HasValue, round_exact}
use lib.Ieee.Nearest.{div_same}
use lib.Ieee.Scale.{overflow}
use lib.Ieee.Bits.{of_bits-to_bits}
use Rattle.elementary.specs.Methods.{sign_of}
use Rattle.elementary.specs.Sqrt.{in_units}
use Rattle.elementary.specs.Promises.{place}
use Rattle.elementary.proofs.Laws.Powers.{pow_le_back, pow_split}
use Rattle.elementary.proofs.Laws.Held.{holds}
use Rattle.elementary.proofs.Laws.Order.{valued, finite_by}

-- ---- numbers of p digits

-- v is a number of p digits, and zeros
abbrev pub InDigits : ℕ → ℕ → Type 0
InDigits p v = (m : ℕ) × (j : ℕ) × (m < 2 ^ p) × (v ≡ m * 2 ^ j)

-- how many digits w has beyond its p leading ones, and those
abbrev pub tail : ℕ → ℕ → ℕ
tail p w = size w - p

abbrev pub lead : ℕ → ℕ → ℕ
lead p w = w / 2 ^ tail p w

module _ (p w : ℕ) (P : 2 ≤ p) where
  abbrev k : ℕ
  k = tail p w

  abbrev q : ℕ
  q = lead p w

  -- where there is a tail, there are p leading digits
  pub full : 0 < k → 2 ^ (p - 1) ≤ q
  full h = (le-div_iff_mul-le (pow_pos k)).1 (rw (← pow-add 2 (p - 1) k) (size_reaches w (p - 1 + k) (omega arith)))

  -- no number of p digits lies between q and the next
  pub gap : (v : ℕ) → InDigits p v → q * 2 ^ k < v → suc q * 2 ^ k ≤ v
  gap v d l =
      elim (dec_le k d.1) [
        | yes h ↦
            let c = d.0 * 2 ^ (d.1 - k) in
            let e : v ≡ c * 2 ^ k = d.3 ∙ ap (λ (z : ℕ). d.0 * z) (pow_split k d.1 h) ∙ sym (mul_assoc d.0 (2 ^ (d.1 - k)) (2 ^ k)) in
            rw e (mul-le-mul_right (2 ^ k) (lt_of_mul-lt-mul_right (2 ^ k) {m = q} {n = c} (rw e at l)))
        | no h ↦
            let u : v < 2 ^ (p - 1 + k) = rw d.3 (lt_of_lt_of_le (shl_lt p d.1 d.2) (pow_mono (omega arith))) in
            let x : 2 ^ (p - 1 + k) ≤ q * 2 ^ k = rw pow-add (mul-le-mul_right (2 ^ k) (full (omega arith))) in
            absurd (not-le_of_lt l (le_of_lt (lt_of_lt_of_le u x)))
      ]

  pub lower : (v : ℕ) → InDigits p v → v < suc q * 2 ^ k → v ≤ q * 2 ^ k
  lower v d l = let n : q * 2 ^ k < v → ⊥ = λ g. not-le_of_lt l (gap v d g) in omega arith

-- ---- the tail of a number that is written with p digits or a carry to 2 ^ p
pub size_gt : (n j : ℕ) → 2 ^ j ≤ n → j < size n
size_gt n j h = lt_of_not-le (λ (g : size n ≤ j). not-le_of_lt (lt_of_lt_of_le (size-lt n) (pow_mono g)) h)

lead_plain : (p Q k : ℕ) → 2 ≤ p → (0 < k → 2 ^ (p - 1) ≤ Q) → Q < 2 ^ p → lead p (Q * 2 ^ k) ≡ Q
lead_plain p Q k P lots l =
    let hi = size-le (Q * 2 ^ k) (p + k) (shl_lt p k l) in
    let same : tail p (Q * 2 ^ k) ≡ k =
    elim (eq-zero-or-pos k) [
      | inl z ↦ omega arith
      | inr z ↦ omega (arith, size_gt (Q * 2 ^ k) (p - 1 + k) (rw pow-add (mul-le-mul_right (2 ^ k) (lots z))))
    ] in
    rw (same, mul-div_cancel Q (pow_pos k))

power_even : (j : ℕ) → 0 < j → 2 ^ j % 2 ≡ 0
power_even zero h = omega arith
power_even (suc j) h = rw (pow-suc 2 j) (omega arith)

lead_carry : (p k : ℕ) → 2 ≤ p → lead p (2 ^ p * 2 ^ k) ≡ 2 ^ (p - 1)
lead_carry p k P =
    let lo = size_gt (2 ^ (p + k)) (p + k) (le_refl (2 ^ (p + k))) in
    let same : tail p (2 ^ (p + k)) ≡ suc k = omega (arith, size-le (2 ^ (p + k)) (suc (p + k)) (pow-lt (le_refl (suc (p + k))))) in
    let shift : 2 ^ (p + k) ≡ 2 ^ (p - 1) * 2 ^ suc k = rw (← pow-add 2 (p - 1) (suc k)) (ap (λ (z : ℕ). 2 ^ z) (omega arith)) in
    rw (← pow-add 2 p k, same, shift) (mul-div_cancel (2 ^ (p - 1)) (pow_pos (suc k)))

-- an even number of p digits or 2 ^ p ends in 0 there, and of two neighbours one does not
pub lead_even : (p Q k : ℕ) → 2 ≤ p → Q ≤ 2 ^ p → (0 < k → 2 ^ (p - 1) ≤ Q) → Q % 2 ≡ 0 → lead p (Q * 2 ^ k) % 2 ≡ 0
lead_even p Q k P few lots e =
    elim (eq-or-lt_of_le few) [
      | inl z ↦ rw (z, lead_carry p k P) (power_even (p - 1) (omega arith))
      | inr l ↦ rw (lead_plain p Q k P lots l) e
    ]

pub lead_next : (p w : ℕ) → 2 ≤ p → lead p w % 2 ≡ 0 → lead p (suc (lead p w) * 2 ^ tail p w) % 2 ≡ 0 → ⊥
lead_next p w P e n =
    elim (eq-or-lt_of_le (kept-lt p w)) [
      | inl z ↦ omega (arith, power_even p (omega arith))
      | inr l ↦ omega (arith, lead_plain p (suc (lead p w)) (tail p w) P (λ z. le_trans (full p w P z) (le-suc (lead p w))) l)
    ]

-- ---- a value's place
-- 2 ^ e in units of 2 ^ -l
pub in_units_lem : (l : ℕ) (e : ℤ) → down e ≤ 2 ^ l → (j : ℕ) × (up e * 2 ^ l ≡ 2 ^ j * down e)
in_units_lem l (pos k) h = (k + l, rw (mul-one, pow-add 2 k l))
in_units_lem l (negsuc k) h = (l - suc k, rw one-mul (pow_split (suc k) l (pow_le_back (suc k) l h)))

-- a value that the format holds is a whole number of its units
pub units_value : (f : Format) (s : Bool) (m : ℕ) (e : ℤ) → T (fits f (fin s m e)) → HasValue (fin s m e) s (in_units f (fin s m e)) (2 ^ low f)
unfolding in_units
units_value f s zero e t = (refl, rw (zero-mul (up e), zero-mul (2 ^ low f), zero-div (down e)) (sym (zero-mul (down e))))
units_value f s (suc m) e t =
    let j = in_units_lem (low f) e (holds f s m e t).1 in
    let w : suc m * up e * 2 ^ low f ≡ suc m * 2 ^ j.0 * down e = mul_assoc (suc m) (up e) (2 ^ low f) ∙ ap (λ (z : ℕ). suc m * z) j.1 ∙ sym (mul_assoc (suc m) (2 ^ j.0) (down e)) in
    (refl, w ∙ ap (λ (z : ℕ). z * down e) (sym (ap (λ (z : ℕ). z / down e) w ∙ mul-div_cancel (suc m * 2 ^ j.0) (down_pos e))))

-- a fraction that is m * 2 ^ k of the smallest values, for an m of the format's digits, is exact unless it overflows
pub exact_under : (f : Format) (s : Bool) (a c m k : ℕ) → 0 < c → m < 2 ^ prec f → a < 2 ^ suc (emax f) * c → a * 2 ^ low f ≡ m * 2 ^ k * c → HasValue (round f s a c) s a c
exact_under f s a c m k C M l e =
    round_exact f s a c m k C M
    (lt_of_mul-lt-mul_right c (rw (← e, pow-add 2 (low f) (suc (emax f))) (lt_of_lt_of_le (mul-lt-mul_of_pos_right l (pow_pos (low f))) (le_of_eq (simp (mul_assoc, mul_comm, mul_left_comm)))))) e

pub units_of : (f : Format) (x : Float) (s : Bool) (a c : ℕ) → 0 < c → HasValue x s a c → in_units f x ≡ a * 2 ^ low f / c
unfolding in_units
units_of f x s a c C h =
    elim (finite_by x h) as (λ y _. in_units f y ≡ a * 2 ^ low f / c) [ valued m e i ↦ div_same (m * up e * 2 ^ low f) (down e) (a * 2 ^ low f) c (down_pos e) C (omega (arith, ap (λ (z : ℕ). z * 2 ^ low f) i)) ]

pub whole_units : (f : Format) (x : Float) (s : Bool) (a : ℕ) → HasValue x s a (2 ^ low f) → in_units f x ≡ a
whole_units f x s a h = units_of f x s a (2 ^ low f) (pow_pos (low f)) h ∙ mul-div_cancel a (pow_pos (low f))

pub place_of : (f : Format) (x : Float) (s : Bool) (a : ℕ) → HasValue x s a (2 ^ low f) → place f x ≡ a
unfolding place
place_of f x s a h = elim (finite_by x h) as (λ y _. place f y ≡ a) [ valued m e i ↦ whole_units f (fin s m e) s a (refl, i) ]

pub sign_of_lem : (x : Float) (s : Bool) (a c : ℕ) → HasValue x s a c → sign_of x ≡ s
unfolding sign_of
sign_of_lem x s a c v = elim (finite_by x v) as (λ y _. sign_of y ≡ s) [ valued m e i ↦ refl ]

pub is_number : (x : Float) (s : Bool) (a c : ℕ) → HasValue x s a c → T (not (is_nan x))
unfolding is_nan
is_number x s a c v = elim (finite_by x v) as (λ y _. T (not (is_nan y))) [ valued m e i ↦ tt ]

pub overflow_digits : (f : Format) → InDigits (prec f) (overflow f)
overflow_digits f = (1, low f + suc (emax f), pow-lt {i = 0} {j = prec f} (two-le_pos (prec f) (two f)), sym (one-mul (overflow f)))

zero_place : (f : Format) (s : Bool) (e : ℤ) → place f (fin s zero e) ≡ 0
unfolding place in_units
zero_place f s e = rw (zero-mul (up e), zero-mul (2 ^ low f), zero-div (down e))

-- it has the format's digits
pub digits_of : (f : Format) (y : Float) → T (fits f y) → InDigits (prec f) (place f y)
unfolding place in_units
digits_of f nan t = (0, 0, pow_pos (prec f), refl)
digits_of f (inf s) t = overflow_digits f
digits_of f (fin s zero e) t = (0, 0, pow_pos (prec f), zero_place f s e)
digits_of f (fin s (suc m) e) t =
    let z = holds f s m e t in
    let j = in_units_lem (low f) e z.1 in
    (suc m, j.0, z.0, rw (mul_assoc (suc m) (up e) (2 ^ low f), j.1, ← mul_assoc (suc m) (2 ^ j.0) (down e)) (mul-div_cancel (suc m * 2 ^ j.0) (down_pos e)))

-- an infinity stands above every other value
pub finite_under : (f : Format) (s : Bool) (m : ℕ) (e : ℤ) → T (fits f (fin s m e)) → place f (fin s m e) < overflow f
unfolding place in_units
finite_under f s zero e t = lt_of_le_of_lt (le_of_eq (zero_place f s e)) (pow_pos (low f + suc (emax f)))
finite_under f s (suc m) e t =
    let z = holds f s m e t in
    let w : suc m * up e * 2 ^ low f < overflow f * down e =
    rw pow-add (lt_of_lt_of_le (mul-lt-mul_of_pos_right z.2 (pow_pos (low f))) (le_of_eq (simp (mul_assoc, mul_comm, mul_left_comm)))) in
    (div-lt_iff_lt-mul (down_pos e)).1 w

pub place_le : (f : Format) (y : Float) → T (fits f y) → place f y ≤ overflow f
unfolding place
place_le f nan t = le_of_lt (pow_pos (low f + suc (emax f)))
place_le f (inf s) t = le_refl (overflow f)
place_le f (fin s m e) t = le_of_lt (finite_under f s m e t)

-- ---- the last digit of a value is that of its bits
parity : (f : Format) (s : Bool) (K x : ℕ) → (cond s (top f) 0 + K * hid f + x) % 2 ≡ x % 2
parity binary32 true K x = omega arith
parity binary32 false K x = omega arith
parity binary64 true K x = omega arith
parity binary64 false K x = omega arith

pub infinity_even : (f : Format) (s : Bool) → to_bits f (inf s) % 2 ≡ 0
unfolding to_bits
infinity_even binary32 true = refl
infinity_even binary32 false = refl
infinity_even binary64 true = refl
infinity_even binary64 false = refl

pub last_digit : (f : Format) (x : Float) → T (not (is_nan x)) → to_bits f x % 2 ≡ lead (prec f) (place f x) % 2
unfolding to_bits place in_units is_nan size
last_digit f nan h = absurd h
last_digit binary32 (inf s) h = infinity_even binary32 s
last_digit binary64 (inf s) h = infinity_even binary64 s
last_digit f (fin s m e) h = parity f s (tail (prec f) (place f (fin s m e))) (lead (prec f) (place f (fin s m e)))

-- ---- a sign and a place make one value
same_bits : (f : Format) (r q : Float) → T (fits f r) → T (fits f q) → T (not (is_nan r)) → T (not (is_nan q)) → sign_of r ≡ sign_of q → place f r ≡ place f q → to_bits f r ≡ to_bits f q
unfolding to_bits place in_units sign_of is_nan
same_bits f nan q a b c d s e = absurd c
same_bits f (inf t) nan a b c d s e = absurd d
same_bits f (inf t) (inf u) a b c d s e = rw s
same_bits f (inf t) (fin u n g) a b c d s e = absurd (not-le_of_lt (finite_under f u n g b) (le_of_eq e))
same_bits f (fin t m e) nan a b c d s h = absurd d
same_bits f (fin t m e) (inf u) a b c d s h = absurd (not-le_of_lt (finite_under f t m e a) (le_of_eq (sym h)))
same_bits f (fin t m e) (fin u n g) a b c d s h = rw (h, s)

pub same_value : (f : Format) (r q : Float) → T (fits f r) → T (fits f q) → T (not (is_nan r)) → T (not (is_nan q)) → sign_of r ≡ sign_of q → place f r ≡ place f q → r ≡ q
same_value f r q a b c d s e = sym (of_bits-to_bits f r a) ∙ ap (λ (n : ℕ). of_bits f n) (same_bits f r q a b c d s e) ∙ of_bits-to_bits f q b
