-- From a root's 53 digits and what is left behind them to the rounded root. Assumes nothing.
use mathlib.Core.Path.{◌≡◌, refl, sym, ap, ◌∙◌}
use mathlib.Core.Bool.{false}
use Prim.Native.Nat.{ℕ, suc, ◌+◌, ◌-◌, ◌*◌, ◌/◌, ◌^◌, ◌≤◌, ◌<◌, compare, Ordering}
use native.Mathlib.Nat.{le_trans, lt_of_lt_of_le, mul_assoc, mul_comm, mul_left_comm, mul-one, mul-le-mul_right, mul-lt-mul_of_pos_right, div-eq_of_lt-le}
use native.Mathlib.Decide.{dec_le}
use native.Mathlib.Numerals.{add-one}
use native.Mathlib.Omega.{arith}
use lib.Dec.{T}
use lib.IntN.{pos, ◌+ℤ◌, ◌-ℤ◌, -ℤ-+ℤ_cancel, +ℤ_assoc}
use lib.Pow.{pow-add, pow_pos, pow_mono, shl_lt}
use lib.Ieee.{Float, nan, inf, fin, binary64, size, nearest, units, of_bits, fits}
use lib.Ieee.Digits.{size-le}
use lib.Ieee.Positive.{positive, first_pos}
use mir.Syntax.{w32}
use mir.Val.{SFits, to_z, of_z}
use Rattle.std.proofs.Math.Facts.{to_z-of_z}
use Rattle.elementary.specs.Sqrt.{isqrt, round_root, sqrt_of, in_units, even_place, aligned_units, aligned_of}
use Rattle.elementary.specs.Promises.{place}
use Rattle.elementary.proofs.Laws.Isqrt.{sq_lt, sq_suc, sq_twice, isqrt_root}
use Rattle.elementary.proofs.Laws.Leaf.{size_of}
use Rattle.elementary.proofs.Laws.Nearest.{units_fits}
use Rattle.elementary.proofs.Laws.Ordering.{Cmp, cmp}
use Rattle.elementary.proofs.Laws.Pattern.{units_pattern}
use Rattle.elementary.proofs.Laws.Places.{digits_of}
use Rattle.elementary.proofs.Laws.SqrtNearest.{sqrt_is, root_is, in_range}
use Rattle.elementary.proofs.sqrt.Alignment as alignment
use Rattle.elementary.proofs.sqrt.Alignment.{fits_exponent, aligned_above}
use Rattle.elementary.proofs.sqrt.Turns.{Turned}

-- a square at a scale
regroup : (w p : ℕ) → w * p * (w * p) ≡ w * w * p * p
regroup w p = simp (mul_assoc, mul_comm, mul_left_comm)

-- ---- the root lies above the middle between d and the next number exactly where what is left, doubled, is above d, doubled
module _ (n d m p : ℕ) (P : 0 < p) (whole : 2 * (d * d) + m ≡ 2 * n) where
  abbrev M : ℕ
  M = (2 * d + 1) * p * ((2 * d + 1) * p)

  middle : M ≡ (4 * (d * d) + 4 * d + 1) * p * p
  middle = regroup (2 * d + 1) p ∙ ap (λ (z : ℕ). z * p * p) (ap (λ (z : ℕ). z * z) (add-one (2 * d)) ∙ omega (arith, sq_suc (2 * d), sq_twice d))

  fours : 4 * (n * p * p) ≡ 4 * n * p * p
  fours = simp mul_assoc

  times : (a b : ℕ) → a < b → a * p * p < b * p * p
  times a b h = mul-lt-mul_of_pos_right (mul-lt-mul_of_pos_right h P) P

  below : m ≤ 2 * d → 4 * (n * p * p) < M
  below h = rw (fours, middle) (times (4 * n) (4 * (d * d) + 4 * d + 1) (omega arith))

  above : 2 * d < m → M < 4 * (n * p * p)
  above h = rw (fours, middle) (times (4 * (d * d) + 4 * d + 1) (4 * n) (omega arith))

  pub choice : (up : ℕ) → (2 * d < m → up ≡ 1) → (m ≤ 2 * d → up ≡ 0) → nearest d (compare (4 * (n * p * p)) M) ≡ d + up
  choice up one none = go (dec_le m (2 * d)) (compare (4 * (n * p * p)) M) (cmp (4 * (n * p * p)) M)
    where
      go : Dec (m ≤ 2 * d) → (o : Ordering) → Cmp o (4 * (n * p * p)) M → nearest d o ≡ d + up
      go (yes h) Ordering.lt c = omega (arith, none h)
      go (yes h) Ordering.eq c = absurd (omega (arith, below h))
      go (yes h) Ordering.gt c = absurd (omega (arith, below h))
      go (no h) Ordering.lt c = absurd (omega (arith, above (omega arith)))
      go (no h) Ordering.eq c = absurd (omega (arith, above (omega arith)))
      go (no h) Ordering.gt c = omega (arith, one (omega arith))

-- ---- the digits of a * 2 ^ 52 times a square of 2 ^ h
module _ (a d s m h : ℕ) (A : (2 ^ 52 ≤ a) × (a < 2 ^ 54)) (t : Turned a 1 d s m) where
  abbrev n : ℕ
  n = a * 2 ^ 52 * 2 ^ h * 2 ^ h

  whole : 2 * (d * d) + m ≡ 2 * (a * 2 ^ 52)
  whole = let e = t.whole in rw (mul-one, mul-one) at e

  next : a * 2 ^ 52 < suc d * suc d
  next = let e = t.next in rw mul-one at e

  pub d_lo : 2 ^ 52 ≤ d
  d_lo = omega (arith, sq_lt (2 ^ 52) (suc d) (omega (arith, next)))

  pub d_hi : d < 2 ^ 53
  d_hi = sq_lt d (2 ^ 53) (omega (arith, whole))

  v_lo : d * 2 ^ h ≤ isqrt n
  v_lo =
      let r = isqrt_root n in
      let l : d * d ≤ a * 2 ^ 52 = omega (arith, whole) in
      omega (arith, sq_lt (d * 2 ^ h) (suc (isqrt n)) (omega (arith, r.1, regroup d (2 ^ h), mul-le-mul_right (2 ^ h) (mul-le-mul_right (2 ^ h) l))))

  v_hi : isqrt n < suc d * 2 ^ h
  v_hi =
      let r = isqrt_root n in
      sq_lt (isqrt n) (suc d * 2 ^ h) (omega (arith, r.0, regroup (suc d) (2 ^ h), mul-lt-mul_of_pos_right (mul-lt-mul_of_pos_right next (pow_pos h)) (pow_pos h)))

  v_size : size (isqrt n) ≡ 53 + h
  v_size =
      let l : 2 ^ (52 + h) ≤ isqrt n = rw pow-add (le_trans (mul-le-mul_right (2 ^ h) d_lo) v_lo) in
      let u : isqrt n < 2 ^ (53 + h) = rw pow-add (lt_of_lt_of_le v_hi (mul-le-mul_right (2 ^ h) d_hi)) in
      let e : suc (52 + h) ≡ 53 + h = omega arith in
      size_of (isqrt n) (52 + h) l (rw e u) ∙ e

  first_digits_are : isqrt n / 2 ^ h ≡ d
  first_digits_are = div-eq_of_lt-le (2 ^ h) v_lo (rw add-one v_hi)

  pub root_rounded : (up : ℕ) → (s < m → up ≡ 1) → (m ≤ s → up ≡ 0) → round_root binary64 n ≡ units binary64 false (d + up) h
  root_rounded up one none =
      let k : size (isqrt n) - 53 ≡ h = omega (arith, v_size) in
      let e : s ≡ 2 * d = t.twice ∙ omega (arith, mul-one d) in
      root_is binary64 n
      ∙ rw (k, first_digits_are) (ap (λ (z : ℕ). units binary64 false z h) (choice (a * 2 ^ 52) d m (2 ^ h) (pow_pos h) whole up (rw e at one) (rw e at none)))

-- ---- the bits of a rounded root
root_pattern : (r k : ℕ) → 2 ^ 52 ≤ r → r ≤ 2 ^ 53 → k < 2000 → of_bits binary64 (k * 2 ^ 52 + r) ≡ units binary64 false r k
root_pattern r k lo hi small =
    units_pattern r k hi (λ _. lo) (omega arith)
    (units_fits binary64 false r k hi (lt_of_lt_of_le (shl_lt 54 k (omega arith)) (pow_mono {i = 54 + k} {j = 2098} (omega arith))))

-- ---- a positive number of the format, aligned
pub raised_fits : (e : ℕ) → e < 2 ^ 30 → SFits w32 (pos (e + 970))
raised_fits e h = record { sfits = omega arith }

pub raised : (e : ℕ) → e < 2 ^ 30 → to_z w32 (of_z w32 (pos e -ℤ pos 1074)) +ℤ pos 2044 ≡ pos (e + 970)
raised e h =
    rw (to_z-of_z {w = w32} (fits_exponent e (omega arith)))
    (sym (+ℤ_assoc (pos e -ℤ pos 1074) (pos 1074) (pos 970)) ∙ ap (λ z. z +ℤ pos 970) (-ℤ-+ℤ_cancel (pos e) (pos 1074)))

module _ (x : Float) (f : T (fits binary64 x)) (p : T (positive x)) where
  abbrev pub u : ℕ
  u = in_units binary64 x

  is_place : place binary64 x ≡ u
  unfolding place
  is_place = go x p
    where
      go : (y : Float) → T (positive y) → place binary64 y ≡ in_units binary64 y
      go nan q = absurd q
      go (inf s) q = absurd q
      go (fin s m e) q = refl

  pub aligned_is : aligned_of x ≡ aligned_units u
  aligned_is = aligned_above x p

  range : (0 < u) × (u < 2 ^ 2098)
  range = rw is_place at (in_range binary64 x f p)

  -- of m * 2 ^ k units
  parts : (m : ℕ) × (k : ℕ) × (m < 2 ^ 53) × (u ≡ m * 2 ^ k)
  parts = rw is_place at (digits_of binary64 x f)

  some : 0 < parts.0
  some = first_pos parts.0 (2 ^ parts.1) (omega (arith, parts.3, range.0))

  abbrev pub a : ℕ
  a = (aligned_units u).significand

  abbrev pub e : ℕ
  e = even_place u

  pub a_in : (2 ^ 52 ≤ a) × (a < 2 ^ 54)
  a_in = rw (parts.3, alignment.significand_is parts.1 (some, parts.2)) (alignment.in_range parts.1 (some, parts.2))

  pub a_whole : u * 2 ^ 52 ≡ a * 2 ^ e
  a_whole = rw (parts.3, alignment.significand_is parts.1 (some, parts.2)) (alignment.whole parts.1 (some, parts.2))

  pub e_lt : e < 2098
  e_lt = omega (arith, size-le u 2098 range.1)

  abbrev pub h : ℕ
  h = (e + 970) / 2

  radicand : u * 2 ^ 1074 ≡ a * 2 ^ 52 * 2 ^ h * 2 ^ h
  radicand =
      let i : e + 1022 ≡ 52 + (h + h) = omega arith in
      pow-split ∙ ap (λ (z : ℕ). z * 2 ^ 1022) a_whole ∙ mul_assoc a (2 ^ e) (2 ^ 1022) ∙ ap (λ (z : ℕ). a * z) (sym (pow-add 2 e 1022) ∙ ap (λ (z : ℕ). 2 ^ z) i ∙ pow-add 2 52 (h + h) ∙ ap (λ (z : ℕ). 2 ^ 52 * z) (pow-add 2 h h))
      ∙ simp mul_assoc
    where
      pow-split : u * 2 ^ 1074 ≡ u * 2 ^ 52 * 2 ^ 1022
      pow-split = ap (λ (z : ℕ). u * z) (pow-add 2 52 1022) ∙ sym (mul_assoc u (2 ^ 52) (2 ^ 1022))

  module _ (d s m up : ℕ) (t : Turned a 1 d s m) (one : s < m → up ≡ 1) (none : m ≤ s → up ≡ 0) where
    pub one_or_none : up ≤ 1
    one_or_none = go (dec_le m s)
      where
        go : Dec (m ≤ s) → up ≤ 1
        go (yes l) = omega (arith, none l)
        go (no l) = omega (arith, one (omega arith))

    pub pattern : of_bits binary64 (h * 2 ^ 52 + (d + up)) ≡ sqrt_of binary64 x
    pattern =
        root_pattern (d + up) h (omega (arith, d_lo a d s m h a_in t)) (omega (arith, d_hi a d s m h a_in t, one_or_none)) (omega (arith, e_lt))
        ∙ sym (sqrt_is binary64 x p ∙ ap (λ (z : ℕ). round_root binary64 (z * 2 ^ 1074)) is_place ∙ ap (round_root binary64) radicand ∙ root_rounded a d s m h a_in t up one none)
