-- A number that stands for another: `IsExactOrSticky x u n` says that x is n / u, or that it is odd and less than 1 off. It goes through a further shift, and
-- through a sum or a difference with an even number. Assumes nothing.
use mathlib.Core.Path.{◌≡◌, sym, ap, ◌∙◌}
use mathlib.Core.Logic.{inl, inr}
use Prim.Native.Nat.{ℕ, ◌+◌, ◌*◌, ◌/◌, ◌%◌, ◌^◌, ◌≤◌, ◌<◌}
use native.Mathlib.Nat.{mul-le-mul_right, mul-lt-mul_of_pos_right, lt_of_mul-lt-mul_right, eq-zero-or-pos, mul_assoc}
use native.Mathlib.Omega.{arith}
use lib.Bits.{bit_or, or_add_and, or_shifted, and_mask}
use Rattle.std.specs.Float.MulAdd.{IsExactOrSticky}

-- ---- the last digit set
set_last : (a : ℕ) → bit_or a 1 ≡ a / 2 * 2 + 1
set_last a =
    elim (eq-zero-or-pos (a % 2)) [
      | inl z ↦ let e : a ≡ a / 2 * 2 ^ 1 = omega arith in ap (λ (k : ℕ). bit_or k 1) e ∙ or_shifted (a / 2) 1 1 (omega arith)
      | inr p ↦ omega (arith, or_add_and a 1, and_mask a 1)
    ]

-- of a quotient q with the remainder r
pub sticky : (q r u n : ℕ) → 0 < r → r < u → n ≡ q * u + r → IsExactOrSticky (bit_or q 1) u n
sticky q r u n p l d =
    let e = set_last q in
    let a : q ≤ bit_or q 1 = omega arith in
    let b : bit_or q 1 ≤ q + 1 = omega arith in
    inr (omega arith, omega (arith, mul-le-mul_right u b), omega (arith, mul-le-mul_right u a))

-- ---- a further shift
odd_factor : (y v : ℕ) → (y * v) % 2 ≡ 1 → y % 2 ≡ 1
odd_factor y v h =
    elim (eq-zero-or-pos (y % 2)) [
      | inl z ↦ let e : y ≡ y / 2 * 2 = omega arith in absurd (omega (arith, ap (λ (k : ℕ). k * v) e))
      | inr p ↦ omega arith
    ]

pub then : (x u n y v : ℕ) → 0 < u → 0 < v → IsExactOrSticky x u n → IsExactOrSticky y v x → IsExactOrSticky y (v * u) n
then x u n y v U V (inl e) (inl d) = inl (omega (arith, ap (λ (k : ℕ). k * u) d))
then x u n y v U V (inl e) (inr d) = inr (d.0, omega (arith, mul-lt-mul_of_pos_right d.1 U), omega (arith, mul-lt-mul_of_pos_right d.2 U))
then x u n y v U V (inr e) (inl d) = inr (
  odd_factor y v (ap (λ (k : ℕ). k % 2) d ∙ e.0),
  omega (arith, e.1, ap (λ (k : ℕ). k * u) d, mul-le-mul_right u V),
  omega (arith, e.2, ap (λ (k : ℕ). k * u) d, mul-le-mul_right u V),
)
then x u n y v U V (inr e) (inr d) = inr (d.0, omega (arith, e.1, mul-le-mul_right u d.1), omega (arith, e.2, mul-le-mul_right u d.2))

-- ---- a common factor
pub times : (x u n w : ℕ) → 0 < w → IsExactOrSticky x u n → IsExactOrSticky x (u * w) (n * w)
times x u n w W (inl e) = inl (sym (mul_assoc x u w) ∙ ap (λ (k : ℕ). k * w) e)
times x u n w W (inr r) = inr (r.0, omega (arith, mul-lt-mul_of_pos_right r.1 W), omega (arith, mul-lt-mul_of_pos_right r.2 W))

pub over : (x u n w : ℕ) → 0 < w → IsExactOrSticky x (u * w) (n * w) → IsExactOrSticky x u n
over x u n w W (inl e) = inl (omega (arith, native.Mathlib.Nat.eq_of_mul-eq-mul_right w W (x * u) n (mul_assoc x u w ∙ e)))
over x u n w W (inr r) = inr (r.0, lt_of_mul-lt-mul_right w (omega (arith, r.1)), lt_of_mul-lt-mul_right w (omega (arith, r.2)))

-- ---- bounds, the lower of any number, the upper of an even one
pub below : (x u n b : ℕ) → IsExactOrSticky x u n → b % 2 ≡ 0 → n < b * u → x < b
below x u n b (inl e) E h = lt_of_mul-lt-mul_right u (omega arith)
below x u n b (inr r) E h = let a : x < b + 1 = lt_of_mul-lt-mul_right u (omega (arith, r.1)) in omega (arith, r.0)

pub above : (x u n b : ℕ) → 0 < u → IsExactOrSticky x u n → b * u ≤ n → b ≤ x
above x u n b U (inl e) h = let a : b < x + 1 = lt_of_mul-lt-mul_right u (omega arith) in omega arith
above x u n b U (inr r) h = let a : b < x + 1 = lt_of_mul-lt-mul_right u (omega (arith, r.2)) in omega arith

-- where n is a multiple of u, nothing is off
pub exact : (x u y : ℕ) → IsExactOrSticky x u (y * u) → 0 < u → x ≡ y
exact x u y (inl e) U = native.Mathlib.Nat.eq_of_mul-eq-mul_right u U x y e
exact x u y (inr r) U =
    let a : x < y + 1 = lt_of_mul-lt-mul_right u (omega (arith, r.1)) in
    let b : y < x + 1 = lt_of_mul-lt-mul_right u (omega (arith, r.2)) in
    omega arith
