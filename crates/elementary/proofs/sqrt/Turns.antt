-- What a turn keeps: the digits found are those of the root, and the state is theirs. Assumes nothing.
use mathlib.Core.Path.{◌≡◌, refl, sym, ap, ◌∙◌}
use Prim.Native.Nat.{ℕ, zero, suc, ◌+◌, ◌-◌, ◌*◌, ◌/◌, ◌^◌, ◌≤◌, ◌<◌}
use native.Mathlib.Nat.{lt_of_not-le, le_of_suc-le-suc, le_antisymm, not-le_of_lt, le_trans, mul_assoc, mul_comm, mul_left_comm, add-mul, mul-add, suc-mul, pow-suc, mul-le-mul, mul-le-mul_right, mul-lt-mul_of_pos_right, mul-pos, lt_of_le_of_lt, lt_of_mul-lt-mul_right}
use native.Mathlib.Decide.{dec_le}
use native.Mathlib.Omega.{arith}
use lib.Pow.{pow-add, pow_pos}
use Rattle.elementary.specs.Sqrt.{isqrt, first_digits}
use Rattle.elementary.proofs.Laws.Isqrt.{Root, sq_lt, isqrt_root}

-- The invariant over plain numbers: d are the digits found, z the last one's place.
pub record Turned (a z d s m : ℕ) : Type 0 where
  pub twice : s ≡ 2 * (d * z)
  pub whole : 2 * (d * z * (d * z)) + m * z ≡ 2 * (a * 2 ^ 52)
  pub next : a * 2 ^ 52 < suc d * z * (suc d * z)

-- ---- a turn, at the place p
module _ (a p d s m : ℕ) (P : 0 < p) (t : Turned a (2 * p) d s m) where
  abbrev q : ℕ
  q = d * (2 * p)

  doubled : 2 * d * p ≡ q
  doubled = simp (mul_assoc, mul_left_comm)

  doubled_next : suc (2 * d) * p ≡ q + p
  doubled_next = suc-mul (2 * d) p ∙ omega (arith, doubled)

  last_next : suc (suc (2 * d)) * p ≡ suc d * (2 * p)
  last_next = omega (arith, suc-mul (suc (2 * d)) p, suc-mul (2 * d) p, doubled, suc-mul d (2 * p))

  square : (q + p) * (q + p) ≡ q * q + (2 * q + p) * p
  square = simp (add-mul, mul-add, mul_assoc, mul_comm, mul_left_comm) (omega arith)

  -- what is left
  rest : a * 2 ^ 52 ≡ q * q + m * p
  rest = omega (arith, t.whole, mul_left_comm m 2 p)

  pub zero_digit : m < s + p → Turned a p (2 * d) s (2 * m)
  zero_digit l =
      let k : m * p < (2 * q + p) * p = mul-lt-mul_of_pos_right (omega (arith, t.twice)) P in
      record {
        twice = omega (arith, t.twice, doubled);
        whole = rw doubled (omega (arith, rest, mul_assoc 2 m p));
        next = rw doubled_next (omega (arith, rest, square, k));
      }

  pub one_digit : s + p ≤ m → Turned a p (suc (2 * d)) (s + p + p) (2 * (m - (s + p)))
  one_digit l =
      let r = m - (s + p) in
      let e : m ≡ r + (2 * q + p) = omega (arith, t.twice) in
      let k : m * p ≡ r * p + (2 * q + p) * p = ap (λ (x : ℕ). x * p) e ∙ add-mul r (2 * q + p) p in
      record {
        twice = omega (arith, t.twice, doubled_next);
        whole = rw doubled_next (omega (arith, rest, square, k, mul_assoc 2 r p));
        next = rw last_next t.next;
      }

-- ---- before the first turn
pub at_first : (a : ℕ) → a < 2 ^ 54 → Turned a (2 ^ 53) 0 0 a
at_first a h = record { twice = omega arith; whole = omega arith; next = omega arith }

-- ---- the state is small
module _ (a z d s m : ℕ) (A : a < 2 ^ 54) (Z : (0 < z) × (z ≤ 2 ^ 53)) (t : Turned a z d s m) where
  root_lt : d * z < 2 ^ 53
  root_lt = sq_lt (d * z) (2 ^ 53) (omega (arith, t.whole))

  next_square : suc d * z * (suc d * z) * 2 ≡ 2 * (d * z * (d * z)) + 2 * (2 * (d * z) + z) * z
  next_square = ap (λ (x : ℕ). x * x * 2) (suc-mul d z) ∙ simp (add-mul, mul-add, mul_assoc, mul_comm, mul_left_comm) (omega arith)

  left_lt : m < 2 * (2 * (d * z) + z)
  left_lt = lt_of_mul-lt-mul_right z (omega (arith, t.whole, t.next, next_square))

  pub small : (s < 2 ^ 54) × (m < 2 ^ 56)
  small = (omega (arith, t.twice, root_lt), omega (arith, left_lt, root_lt))

-- ---- the digits found are the greatest
module _ (a z d s m : ℕ) (t : Turned a z d s m) where
  pub not_above : d * z * (d * z) ≤ a * 2 ^ 52
  not_above = omega (arith, t.whole)

  pub greatest : (e : ℕ) → e * z * (e * z) ≤ a * 2 ^ 52 → e * z ≤ d * z
  greatest e h = go (dec_le (suc d) e)
    where
      go : Dec (suc d ≤ e) → e * z ≤ d * z
      go (yes g) = absurd (not-le_of_lt t.next (le_trans (mul-le-mul (mul-le-mul_right z g) (mul-le-mul_right z g)) h))
      go (no g) = mul-le-mul_right z (le_of_suc-le-suc (lt_of_not-le g))

-- ---- which digits are found: those of the root
root_one : (n d r : ℕ) → Root n d → Root n r → d ≡ r
root_one n d r p q =
    le_antisymm (le_of_suc-le-suc (sq_lt d (suc r) (lt_of_le_of_lt p.0 q.1))) (le_of_suc-le-suc (sq_lt r (suc d) (lt_of_le_of_lt q.0 p.1)))

scaled : (e z p : ℕ) → z * p ≡ 2 ^ 53 → e * z * (e * z) * (p * p) ≡ e * e * 2 ^ 106
scaled e z p w = regroup ∙ rw w (omega arith)
  where
    regroup : e * z * (e * z) * (p * p) ≡ e * e * (z * p * (z * p))
    regroup = simp (mul_assoc, mul_comm, mul_left_comm)

module _ (a j d s m : ℕ) (J : j ≤ 53) (t : Turned a (2 ^ (53 - j)) d s m) where
  abbrev z : ℕ
  z = 2 ^ (53 - j)

  abbrev p : ℕ
  p = 2 ^ j

  top : z * p ≡ 2 ^ 53
  top = let e : 53 - j + j ≡ 53 = omega arith in sym (pow-add 2 (53 - j) j) ∙ ap (λ (x : ℕ). 2 ^ x) e

  doubles : (x : ℕ) → x * 2 * (x * 2) ≡ 4 * (x * x)
  doubles x = simp (mul_assoc, mul_comm, mul_left_comm) (omega arith)

  fours : (k : ℕ) → 2 ^ k * 2 ^ k ≡ 4 ^ k
  fours zero = refl
  fours (suc k) = rw (pow-suc 2 k, pow-suc 4 k) (omega (arith, fours k, doubles (2 ^ k)))

  abbrev n : ℕ
  n = a * 4 ^ j / 2 ^ 54

  pub digits_are : d ≡ first_digits j a
  unfolding first_digits
  digits_are =
      let f : a * 2 ^ 52 * (p * p) ≡ a * 4 ^ j * 2 ^ 52 = rw (fours j) (simp (mul_assoc, mul_comm)) in
      let lo : d * d * 2 ^ 106 ≤ a * 4 ^ j * 2 ^ 52 = omega (arith, f, scaled d z p top, mul-le-mul_right (p * p) (not_above a z d s m t)) in
      let hi : a * 4 ^ j * 2 ^ 52 < suc d * suc d * 2 ^ 106 = omega (arith, f, scaled (suc d) z p top, mul-lt-mul_of_pos_right t.next (mul-pos (pow_pos j) (pow_pos j))) in
      root_one n d (isqrt n) (omega arith, omega arith) (isqrt_root n)
