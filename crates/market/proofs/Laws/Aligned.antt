-- A price below 10^11, aligned: its ten-thousandths are a whole number over a power of two, which the code shifts off. Assumes nothing.
use mathlib.Core.Path.{◌≡◌, refl, sym, ap, ◌∙◌}
use mathlib.Core.Bool.{Bool, true, false, cond, true≢false}
use Prim.Native.Nat.{ℕ, zero, suc, ◌+◌, ◌-◌, ◌*◌, ◌^◌, ◌≤◌, ◌<◌}
use native.Mathlib.Nat.{mul-one, mul_assoc, lt_of_not-le, mul-le-mul_right, eq_of_mul-eq-mul_right}
use native.Mathlib.Decide.{dec_le}
use native.Mathlib.Omega.{arith}
use borrow.Author.Tests.{le-ltb}
use lib.Dec.{T, ltb, ltb→lt, lt→ltb}
use lib.Pow.{pow-add, pow_pos, pow_mono}
use lib.IntN.{ℤ, pos, negsuc, ◌-ℤ◌}
use lib.Ieee.{Float, nan, inf, fin, binary64, up, down, fits, lt, of_bits}
use lib.Ieee.Fits.{up_pos, down_pos}
use lib.Ieee.Nearest.{closest_same, closest_mono}
use lib.Ieee.Positive.{positive}
use lib.Signed.{mag}
use mir.Syntax.{w32}
use mir.Val.{SFits, to_z, of_z}
use Rattle.std.proofs.Math.Facts.{to_z-of_z}
use Rattle.elementary.specs.Methods.{sign_of}
use Rattle.elementary.specs.declared.sqrt.Aligned.{Aligned}
use Rattle.elementary.specs.Sqrt.{in_units, even_place, aligned_of}
use Rattle.elementary.proofs.Promised.{sqrt_digits_found}
use Rattle.elementary.proofs.Laws.Powers.{pow_split}
use Rattle.elementary.proofs.sqrt.Alignment.{aligned_above, aligned_none, significand_lt}
use Rattle.market.specs.Packed.{nearest_whole}
use Rattle.market.specs.Inside.Packed.{TOO_LARGE, nearest_size}
use Rattle.market.proofs.Laws.Whole.{far_below}

-- ---- the exponent
-- where it is, below 10^11
pub InRange : ℤ → Type 0
InRange (pos k) = k ≤ 36
InRange (negsuc k) = k < 1074

-- 52 less it: how far 2 ^ 52 ths are shifted
pub places : ℤ → ℕ
places (pos k) = 52 - k
places (negsuc k) = 53 + k

pub places_is : (E : ℤ) → InRange E → pos 52 -ℤ E ≡ pos (places E)
unfolding InRange places
places_is (pos zero) h = refl
places_is (pos (suc k)) h = rw (le-ltb 52 (suc k) (omega arith)) refl
places_is (negsuc k) h = ap pos (omega arith)

pub power_is : (E : ℤ) → InRange E → 2 ^ places E * up E ≡ 2 ^ 52 * down E
unfolding InRange places
power_is (pos k) h = sym (pow_split k 52 (omega arith)) ∙ sym (mul-one (2 ^ 52))
power_is (negsuc k) h = let e : 53 + k ≡ 52 + suc k = omega arith in mul-one (2 ^ (53 + k)) ∙ ap (λ (z : ℕ). 2 ^ z) e ∙ pow-add 2 52 (suc k)

pub places_in : (E : ℤ) → InRange E → (16 ≤ places E) × (places E < 1127)
unfolding InRange places
places_in (pos k) h = (omega arith, omega arith)
places_in (negsuc k) h = (omega arith, omega arith)

-- not below that of the smallest value
NotLower : ℤ → Type 0
NotLower (pos k) = Unit
NotLower (negsuc k) = k < 1074

not_lower_units : (n : ℕ) → NotLower (pos (even_place n) -ℤ pos 1074)
unfolding NotLower
not_lower_units n = go (ltb (even_place n) 1074)
  where
    go : (b : Bool) → NotLower (cond b (negsuc (1074 - suc (even_place n))) (pos (even_place n - 1074)))
    go true = omega arith
    go false = tt

not_lower : (x : Float) → NotLower (aligned_of x).exponent
unfolding NotLower
not_lower x = go (positive x) refl
  where
    go : (b : Bool) → positive x ≡ b → NotLower (aligned_of x).exponent
    go true h = rw (aligned_above x (rw h tt)) (not_lower_units (in_units binary64 x))
    go false h = rw (aligned_none x h) tt

-- ---- the value
-- a fraction m * 2 ^ e below 10 ^ 11, as a significand from 2 ^ 52 up over 2 ^ 52
module _ (m : ℕ) (e : ℤ) (below : m * up e < 10 ^ 11 * down e) where
  -- what the code needs of it, aligned
  record Placed (a : Aligned) : Type 0 where
    range : InRange a.exponent
    value : m * up e * (2 ^ 52 * down a.exponent) ≡ a.significand * up a.exponent * down e

  high : (s k : ℕ) → 2 ^ 52 ≤ s → m * up e * (2 ^ 52 * 1) ≡ s * 2 ^ k * down e → k ≤ 36
  high s k l v = elim (dec_le k 36) [
    | yes h ↦ h
    | no h ↦
        let t : 2 ^ 37 ≤ 2 ^ k = pow_mono {i = 37} {j = k} (omega (arith, lt_of_not-le h)) in
        let a : 2 ^ 37 * down e ≤ 2 ^ k * down e = mul-le-mul_right (down e) t in
        let b : 2 ^ 52 * (2 ^ k * down e) ≤ s * (2 ^ k * down e) = mul-le-mul_right (2 ^ k * down e) l in
        let c : s * 2 ^ k * down e ≡ s * (2 ^ k * down e) = mul_assoc s (2 ^ k) (down e) in
        absurd (omega (arith, below, v))
  ]

  in_range : (s : ℕ) (E : ℤ) → NotLower E → 2 ^ 52 ≤ s → m * up e * (2 ^ 52 * down E) ≡ s * up E * down e → InRange E
  unfolding NotLower InRange
  in_range s (pos k) n l v = high s k l v
  in_range s (negsuc k) n l v = n

  -- shifted off, it is the nearest whole number of ten-thousandths
  shifted_is : (a : Aligned) → Placed a → nearest_whole (a.significand * 10000) (2 ^ places a.exponent) ≡ nearest_whole (m * up e * 10000) (down e)
  shifted_is a p =
      let E = a.exponent in
      let v = p.value in
      let w = power_is E p.range in
      let x : a.significand * 10000 * down e * up E ≡ m * up e * 10000 * 2 ^ places E * up E =
      omega (arith, ap (λ (z : ℕ). z * 10000) v, ap (λ (z : ℕ). m * up e * z * 10000) w) in
      closest_same (a.significand * 10000) (2 ^ places E) (m * up e * 10000) (down e) (pow_pos (places E)) (down_pos e) (eq_of_mul-eq-mul_right (up E) (up_pos E) _ _ x)

-- zero, and what is above it
placed : (m : ℕ) (e : ℤ) (below : m * up e < 10 ^ 11 * down e) → T (fits binary64 (fin false m e)) → Placed m e below (aligned_of (fin false m e))
unfolding InRange
placed zero e below f = rw (aligned_none (fin false zero e) refl) (record { range = omega arith; value = omega arith })
placed (suc m) e below f =
    let x = fin false (suc m) e in
    let a = sqrt_digits_found.aligned x f (lt→ltb 0 (suc m) (omega arith)) in
    let v : suc m * up e * (2 ^ 52 * down (aligned_of x).exponent) ≡ (aligned_of x).significand * up (aligned_of x).exponent * down e = a.value.1 in
    record { range = in_range (suc m) e below (aligned_of x).significand (aligned_of x).exponent (not_lower x) a.from_1 v; value = v }

-- a price from 0 up, aligned: what the code shifts off, and what is left
pub record Sized (x : Float) (a : Aligned) : Type 0 where
  pub range : InRange a.exponent
  pub few : a.significand < 2 ^ 54
  pub size : nearest_whole (a.significand * 10000) (2 ^ places a.exponent) ≡ nearest_size x

pub sized : (x : Float) → T (fits binary64 x) → sign_of x ≡ false → T (lt x TOO_LARGE) → Sized x (aligned_of x)
unfolding sign_of lt nearest_size of_bits
sized nan f s l = absurd l
sized (inf true) f s l = absurd (true≢false s)
sized (inf false) f s l = absurd l
sized (fin true m e) f s l = absurd (true≢false s)
sized (fin false m e) f s l =
    let below : m * up e < 10 ^ 11 * down e = omega (arith, ltb→lt _ _ l) in
    let p = placed m e below f in
    record { range = p.range; few = significand_lt (fin false m e); size = shifted_is m e below (aligned_of (fin false m e)) p }

-- ---- the code's words
module _ (E : ℤ) (h : InRange E) where
  fits_exponent : SFits w32 E
  unfolding InRange
  fits_exponent = record { sfits = go E h }
    where
      go : (E : ℤ) → InRange E → mag E < 2 ^ 31
      go (pos k) h = omega arith
      go (negsuc k) h = omega arith

  as_code : pos 52 -ℤ to_z w32 (of_z w32 E) ≡ pos (places E)
  as_code = ap (λ (z : ℤ). pos 52 -ℤ z) (to_z-of_z fits_exponent) ∙ places_is E h

  fits_places : SFits w32 (pos (places E))
  fits_places = record { sfits = omega (arith, places_in E h) }

  pub no_overflow : SFits w32 (pos 52 -ℤ to_z w32 (of_z w32 E))
  no_overflow = rw as_code fits_places

  pub cast_is : to_z w32 (of_z w32 (pos 52 -ℤ to_z w32 (of_z w32 E))) ≡ pos (places E)
  cast_is = rw as_code (to_z-of_z fits_places)

  -- what is left fits a word
  pub left_fits : (s : ℕ) → s < 2 ^ 54 → nearest_whole (s * 10000) (2 ^ places E) ≤ 2 ^ 52
  left_fits s l =
      let u : 2 ^ 16 ≤ 2 ^ places E = pow_mono {i = 16} {j = places E} (places_in E h).0 in
      closest_mono (s * 10000) (2 ^ places E) (2 ^ 52) 1 (pow_pos (places E)) (omega arith) (omega (arith, u))

  -- far below a half
  pub none_left : (s : ℕ) → s < 2 ^ 54 → 127 < places E → nearest_whole (s * 10000) (2 ^ places E) ≡ 0
  none_left s l far =
      let u : 2 ^ 128 ≤ 2 ^ places E = pow_mono {i = 128} {j = places E} (omega (arith, far)) in
      far_below (s * 10000) (2 ^ places E) (omega (arith, u)) (pow_pos (places E))
