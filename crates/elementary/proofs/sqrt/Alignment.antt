-- A number of m * 2 ^ k units, for an m of at most 53 digits, aligned: its significand is m, shifted up, and a whole number. Assumes nothing.
use mathlib.Core.Path.{◌≡◌, refl, sym, ap, subst, ◌∙◌}
use mathlib.Core.Bool.{Bool, true, false, cond}
use Prim.Native.Nat.{ℕ, suc, ◌+◌, ◌-◌, ◌*◌, ◌/◌, ◌%◌, ◌^◌, ◌≤◌, ◌<◌}
use native.Mathlib.Nat.{le_trans, lt_of_not-le, not-le_of_lt, lt_of_lt_of_le, mul_assoc, mul-le-mul_right, mul-div_cancel, mod-eq_of_lt, div-lt_iff_lt-mul, le_of_eq}
use native.Mathlib.Omega.{arith}
use lib.Dec.{T, ltb}
use lib.Pow.{pow-add, pow_pos, pow_mono, shl_lt}
use lib.Count.{count_leading_zeros, leading_top}
use lib.Ieee.{Float, binary64, size}
use lib.Ieee.Positive.{positive}
use lib.Ieee.Digits.{size-lt}
use lib.IntN.{pos, negsuc, ◌-ℤ◌}
use Rattle.std.proofs.Math.Facts.{to_z_pos, to_z-of_z}
use lib.Signed.{mag}
use mir.Syntax.{w32}
use mir.Val.{SFits, to_z, of_z}
use Rattle.elementary.specs.declared.sqrt.Aligned.{Aligned}
use Rattle.elementary.specs.Sqrt.{in_units, even_place, aligned_units, aligned_of}
use Rattle.elementary.proofs.Laws.Leaf.{size_of}

module _ {m : ℕ} (k : ℕ) (M : (0 < m) × (m < 2 ^ 53)) where
  abbrev pub zeros : ℕ
  zeros = count_leading_zeros 64 m

  -- the leading digit's place
  top : (j : ℕ) × (zeros + suc j ≡ 64) × (2 ^ j ≤ m) × (m < 2 ^ suc j)
  top = leading_top 64 m M.0 (omega arith)

  top_lt : top.0 < 53
  top_lt = lt_of_not-le (λ (g : 53 ≤ top.0). not-le_of_lt M.1 (le_trans (pow_mono g) top.2))

  pub zeros_in : (11 ≤ zeros) × (zeros ≤ 63)
  zeros_in = let t = top in omega (arith, top_lt)

  abbrev pub place : ℕ
  place = k + 63 - zeros

  units_size : size (m * 2 ^ k) ≡ suc place
  units_size =
      let t = top in
      let e : suc (t.0 + k) ≡ suc place = omega arith in
      let i : suc t.0 + k ≡ suc (t.0 + k) = omega arith in
      size_of (m * 2 ^ k) (t.0 + k) (rw pow-add (mul-le-mul_right (2 ^ k) t.2)) (subst (λ (z : ℕ). m * 2 ^ k < 2 ^ z) i (shl_lt (suc t.0) k t.3)) ∙ e

  pub even_is : even_place (m * 2 ^ k) ≡ place - place % 2
  even_is = ap (λ (z : ℕ). (z - 1) / 2 * 2) units_size ∙ omega arith

  abbrev shift : ℕ
  shift = zeros - 11 + place % 2

  pub whole : m * 2 ^ k * 2 ^ 52 ≡ m * 2 ^ shift * 2 ^ even_place (m * 2 ^ k)
  whole =
      let i : k + 52 ≡ shift + even_place (m * 2 ^ k) = omega (arith, zeros_in, even_is) in
      mul_assoc m (2 ^ k) (2 ^ 52) ∙ ap (λ (z : ℕ). m * z) (sym (pow-add 2 k 52) ∙ ap (λ (z : ℕ). 2 ^ z) i ∙ pow-add 2 shift (even_place (m * 2 ^ k))) ∙ sym (mul_assoc m (2 ^ shift) (2 ^ even_place (m * 2 ^ k)))

  pub significand_is : (aligned_units (m * 2 ^ k)).significand ≡ m * 2 ^ shift
  significand_is = ap (λ (z : ℕ). z / 2 ^ even_place (m * 2 ^ k)) whole ∙ mul-div_cancel (m * 2 ^ shift) (pow_pos (even_place (m * 2 ^ k)))

  pub in_range : (2 ^ 52 ≤ m * 2 ^ shift) × (m * 2 ^ shift < 2 ^ 54)
  in_range =
      let t = top in
      let l : 52 ≤ t.0 + shift = omega (arith, zeros_in) in
      let u : suc t.0 + shift ≤ 54 = omega (arith, zeros_in) in (
        le_trans (pow_mono l) (rw (pow-add 2 t.0 shift) (mul-le-mul_right (2 ^ shift) t.2)),
        lt_of_lt_of_le (shl_lt (suc t.0) shift t.3) (pow_mono u),
      )

  -- the code's words
  pub shl_is : (m * 2 ^ shift) % 2 ^ 64 ≡ m * 2 ^ shift
  shl_is = mod-eq_of_lt (lt_of_lt_of_le in_range.1 (omega arith))

-- ---- the exponent
pub fits_exponent : (a : ℕ) → a < 2 ^ 31 → SFits w32 (pos a -ℤ pos 1074)
fits_exponent a h = record { sfits = small (ltb a 1074) }
  where
    small : (t : Bool) → mag (cond t (negsuc (1074 - suc a)) (pos (a - 1074))) < 2 ^ 31
    small true = omega arith
    small false = omega arith

pub exponent_is : (a : ℕ) → a < 2 ^ 31 → to_z w32 (of_z w32 (to_z w32 a -ℤ pos 1074)) ≡ pos a -ℤ pos 1074
exponent_is a h = rw (to_z_pos w32 h) (to_z-of_z (fits_exponent a h))

-- ---- what the code answers
module _ {m : ℕ} (k : ℕ) (M : (0 < m) × (m < 2 ^ 53)) (q : ℕ) (same : q ≡ place k M) (below : k < 2 ^ 30) where
  pub aligned_is :
      ◌≡◌ {A = Aligned} (record {
        significand = (m * 2 ^ (zeros k M - 11 + q % 2)) % 2 ^ 64;
        exponent = to_z w32 (of_z w32 (to_z w32 (q - q % 2) -ℤ pos 1074));
      }) (aligned_units (m * 2 ^ k))
  aligned_is =
      rw (same, exponent_is (place k M - place k M % 2) (omega (arith, zeros_in k M)), ← even_is k M, shl_is k M, ← significand_is k M) refl

-- ---- of every number
significand_lt_4 : (n : ℕ) → n * 2 ^ 52 / 2 ^ even_place n < 2 ^ 54
significand_lt_4 n =
    let e = even_place n in
    let i : size n ≤ e + 2 = omega arith in
    let l : n < 2 ^ e * 2 ^ 2 = lt_of_lt_of_le (size-lt n) (le_trans (pow_mono i) (le_of_eq (pow-add 2 e 2))) in
    (div-lt_iff_lt-mul (pow_pos e)).1 (omega arith)

-- by whether it is above 0, and finite
pub aligned_above : (x : Float) → T (positive x) → aligned_of x ≡ aligned_units (in_units binary64 x)
unfolding aligned_of
aligned_above x p = rw (is_true (positive x) p) refl
  where
    is_true : (b : Bool) → T b → b ≡ true
    is_true true h = refl
    is_true false h = absurd h

pub aligned_none : (x : Float) → positive x ≡ false → aligned_of x ≡ record { significand = 0; exponent = pos 0 }
unfolding aligned_of
aligned_none x h = rw h refl

pub significand_lt : (x : Float) → (aligned_of x).significand < 2 ^ 54
significand_lt x = go (positive x) refl
  where
    go : (b : Bool) → positive x ≡ b → (aligned_of x).significand < 2 ^ 54
    go true e = rw (aligned_above x (rw e tt)) (significand_lt_4 (in_units binary64 x))
    go false e = rw (aligned_none x e) (omega arith)
