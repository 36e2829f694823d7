-- p × 2^(e − l), rounded once: from p's value, and as a product with the float 2^(e − l). Assumes nothing.
use mathlib.Core.Path.{◌≡◌, refl, sym, ap, ◌∙◌, subst}
use mathlib.Core.Bool.{Bool, true, false}
use Prim.Native.Nat.{ℕ, ◌+◌, ◌-◌, ◌*◌, ◌^◌, ◌≤◌, ◌<◌}
use native.Mathlib.Nat.{mul_assoc, mul_comm, mul-pos, one-mul}
use native.Mathlib.Omega.{arith}
use lib.Dec.{T}
use lib.IntN.{ℤ}
use lib.Pow.{pow-add, pow_pos}
use lib.Ieee.{Float, nan, inf, fin, Format, binary64, up, down, minus, round, mul}
use lib.Ieee.Digits.{minus_val}
use lib.Ieee.Fits.{down_pos}
use lib.Ieee.Exact.{HasValue}
use borrow.Author.Tests.{ne_eqb}
use lib.Ieee.Scale.{round_same, finite}
use Rattle.elementary.specs.Exp.{scaled}
use Rattle.elementary.proofs.Laws.Order.{valued, finite_by}
use Rattle.elementary.proofs.Laws.Decode.{same_power}
use Rattle.elementary.proofs.Laws.Values.{revalue}
use Rattle.elementary.proofs.Laws.Bounds.{like}

-- 2 ^ (e - l) as a fraction
power : (e l : ℕ) → up (minus e l) * 2 ^ l ≡ 2 ^ e * down (minus e l)
power e l = simp one-mul at (minus_val 1 e l)

cross : (M K L A D G E J : ℕ) → M * D ≡ A * G → K * L ≡ E * J → M * K * (D * L) ≡ A * E * (G * J)
cross M K L A D G E J p q = omega (arith, ap (λ (z : ℕ). z * (K * L)) p, ap (λ (z : ℕ). A * G * z) q)

pub scaled_at : (f : Format) (x : Float) (s : Bool) (a d e l : ℕ) → 0 < d → HasValue x s a d → scaled f x (minus e l) ≡ round f s (a * 2 ^ e) (d * 2 ^ l)
unfolding scaled
scaled_at f x s a d e l P h =
    elim (finite_by x h) as (λ y _. scaled f y (minus e l) ≡ round f s (a * 2 ^ e) (d * 2 ^ l)) [
      | valued m g i ↦
          let k = minus e l in
          round_same f s (m * up g * up k) (down g * down k) (a * 2 ^ e) (d * 2 ^ l) (mul-pos (down_pos g) (down_pos k)) (mul-pos P (pow_pos l))
          (cross (m * up g) (up k) (2 ^ l) a d (down g) (2 ^ e) (down k) i (power e l))
    ]

-- ---- the digits at their new place
pub far_is : (x : Float) (s : Bool) (m i e : ℕ) → 960 ≤ e → HasValue x s (m * 2 ^ i) (2 ^ 1138)
    → round binary64 s (m * 2 ^ (i + e - 782)) (2 ^ 2404) ≡ scaled binary64 x (minus e 2048)
far_is x s m i e h v =
    round_same binary64 s (m * 2 ^ (i + e - 782)) (2 ^ 2404) (m * 2 ^ i * 2 ^ e) (2 ^ 1138 * 2 ^ 2048) (pow_pos 2404) (mul-pos (pow_pos 1138) (pow_pos 2048))
    (same_power m (i + e - 782) 3186 (i + e) 2404 (omega arith)
    ∙ ap (λ (z : ℕ). z * 2 ^ 2404) (ap (λ (z : ℕ). m * z) (pow-add 2 i e) ∙ sym (mul_assoc m (2 ^ i) (2 ^ e))))
    ∙ sym (scaled_at binary64 x s (m * 2 ^ i) (2 ^ 1138) e 2048 (pow_pos 1138) v)

pub far_special : (f : Format) (x : Float) (k : ℤ) → finite x ≡ false → x ≡ scaled f x k
unfolding scaled
far_special f nan k h = refl
far_special f (inf s) k h = refl
far_special f (fin s m e) k h = let z : ◌≡◌ {A = Bool} true false = h in absurd (subst T z tt)

-- ---- the product with a power of two
pub mul_power : (f : Format) (x y : Float) (e l : ℕ) → HasValue y false (2 ^ e) (2 ^ l) → mul f x y ≡ scaled f x (minus e l)
unfolding scaled mul
mul_power f x nan e l h = absurd h
mul_power f x (inf t) e l h = absurd h
mul_power f nan (fin t n d) e l h = refl
mul_power f (inf s) (fin t n d) e l h =
    rw (ne_eqb n 0 (λ (z : n ≡ 0). omega (arith, h.1, ap (λ (w : ℕ). w * up d * 2 ^ l) z, mul-pos (pow_pos e) (down_pos d))), h.0, like s)
mul_power f (fin s m g) (fin t n d) e l h =
    rw (h.0, like s)
    (round_same f s (m * up g * (n * up d)) (down g * down d) (m * up g * 2 ^ e) (down g * 2 ^ l) (mul-pos (down_pos g) (down_pos d)) (mul-pos (down_pos g) (pow_pos l))
    (cross (m * up g) (n * up d) (2 ^ l) (m * up g) (down g) (down g) (2 ^ e) (down d) refl h.1)
    ∙ sym (scaled_at f (fin s m g) s (m * up g) (down g) e l (down_pos g) (refl, refl)))

-- a normal float's field says which power of two it is
pub field_power : (x : Float) (e : ℕ) → 1026 ≤ e → HasValue x false ((2 ^ 52 + 0) * 2 ^ (e - 1025 + 1329)) (2 ^ 2404) → HasValue x false (2 ^ e) (2 ^ 2048)
field_power x e h v =
    revalue x false ((2 ^ 52 + 0) * 2 ^ (e - 1025 + 1329)) (2 ^ 2404) (2 ^ e) (2 ^ 2048) (pow_pos 2404)
    (same_power (2 ^ 52) (e - 1025 + 1329) 2048 e 2352 (omega arith) ∙ ap (λ (z : ℕ). z * 2 ^ 2352) (mul_comm (2 ^ 52) (2 ^ e)) ∙ mul_assoc (2 ^ e) (2 ^ 52) (2 ^ 2352)) v
