-- `fma` at operands of known value, and where plain operations give it. Assumes nothing.
use mathlib.Core.Path.{◌≡◌, refl, sym, ap, ◌∙◌}
use mathlib.Core.Logic.{◌⊎◌, ⊎_elim}
use mathlib.Core.Bool.{Bool, true, false, beq}
use Prim.Native.Nat.{ℕ, ◌*◌, ◌^◌, ◌<◌}
use native.Mathlib.Nat.{mul_assoc, mul_comm, mul_left_comm, mul-pos, mul-zero, mul-one, zero-mul, zero-lt-suc}
use native.Mathlib.Omega.{arith}
use lib.IntN.{pos}
use lib.Ieee.{Float, nan, inf, fin, Format, binary64, unlike, up, down, round, sum, add, mul}
use lib.Ieee.Fits.{down_pos}
use lib.Ieee.Exact.{HasValue}
use lib.Pow.{pow_pos}
use Rattle.elementary.specs.MulAdd.{fma}
use Rattle.elementary.specs.Inside.Round.{PartsOf}
use Rattle.elementary.proofs.mul_add.Sums.{sum_same, sum_more}
use Rattle.elementary.proofs.Laws.Adding.{sum_value, add_at, mul_value}

-- ---- finite operands by their values
pub fma_at : (f : Format) (x y z : Float) (s t v : Bool) (A B C D H : ℕ) → 0 < D → 0 < H → HasValue x s A D → HasValue y t B D → HasValue z v C D
    → fma f x y z ≡ sum f (unlike s t) (A * B * H) v (C * (H * D)) (H * (D * D))
unfolding fma
fma_at f nan y z s t v A B C D H P Q p q r = absurd p
fma_at f (inf _) y z s t v A B C D H P Q p q r = absurd p
fma_at f (fin _ m e) nan z s t v A B C D H P Q p q r = absurd q
fma_at f (fin _ m e) (inf _) z s t v A B C D H P Q p q r = absurd q
fma_at f (fin _ m e) (fin _ n d) nan s t v A B C D H P Q p q r = absurd r
fma_at f (fin _ m e) (fin _ n d) (inf _) s t v A B C D H P Q p q r = absurd r
fma_at f (fin _ m e) (fin _ n d) (fin _ o g) s t v A B C D H P Q p q r =
    let M = m * up e in
    let N = n * up d in
    let O = o * up g in
    let l : M * N * down g * (H * (D * D)) ≡ M * D * (N * D) * (down g * H) = simp (mul_assoc, mul_comm, mul_left_comm) in
    let l' : A * B * H * (down e * down d * down g) ≡ A * down e * (B * down d) * (down g * H) = simp (mul_assoc, mul_comm, mul_left_comm) in
    let k : O * (down e * down d) * (H * (D * D)) ≡ O * D * (down e * down d * (H * D)) = simp (mul_assoc, mul_comm, mul_left_comm) in
    let k' : C * (H * D) * (down e * down d * down g) ≡ C * down g * (down e * down d * (H * D)) = simp (mul_assoc, mul_comm, mul_left_comm) in
    rw (p.0, q.0, r.0)
    (sum_value f (M * N * down g) (O * (down e * down d)) (down e * down d * down g) (A * B * H) (C * (H * D)) (H * (D * D)) (mul-pos (mul-pos (down_pos e) (down_pos d)) (down_pos g)) (mul-pos Q (mul-pos P P))
    (l ∙ rw (p.1, q.1) (sym l')) (k ∙ rw r.1 (sym k')) (unlike s t) v)

-- ---- the operands taken apart
sum_zero : (f : Format) (s t : Bool) (a b c : ℕ) → 0 < a → b ≡ 0 → sum f s a t b c ≡ round f s a c
sum_zero f s t a b c h z = go (beq s t) refl
  where
    go : (e : Bool) → beq s t ≡ e → sum f s a t b c ≡ round f s a c
    go true e = sum_same f s t a b c e ∙ ap (λ (w : ℕ). round f s w c) (omega arith)
    go false e = sum_more f s t a b c e (omega arith) ∙ ap (λ (w : ℕ). round f s w c) (omega arith)

abbrev D : ℕ
D = 2 ^ 1138

at_zero : (s : Bool) → round binary64 s 0 (D * D) ≡ fin s 0 (pos 0)
unfolding round
at_zero s = refl

module _ {x y z : Float} {s t v : Bool} {a i b j c k : ℕ} (p : PartsOf x s a i) (q : PartsOf y t b j) (r : PartsOf z v c k) where
  abbrev A : ℕ
  A = a * 2 ^ i

  abbrev B : ℕ
  B = b * 2 ^ j

  abbrev C : ℕ
  C = c * 2 ^ k

  product_is : mul binary64 x y ≡ round binary64 (unlike s t) (A * B) (D * D)
  product_is = mul_value x y s t A B D D (pow_pos 1138) (pow_pos 1138) p.value q.value

  fma_is : (H : ℕ) → 0 < H → fma binary64 x y z ≡ sum binary64 (unlike s t) (A * B * H) v (C * (H * D)) (H * (D * D))
  fma_is H h = fma_at binary64 x y z s t v A B C D H (pow_pos 1138) h p.value q.value r.value

  pub zero_product : (a ≡ 0) ⊎ (b ≡ 0) → add binary64 (mul binary64 x y) z ≡ fma binary64 x y z
  zero_product h =
      let u = unlike s t in
      let e : A * B ≡ 0 = ⊎_elim (λ (g : a ≡ 0). rw (g, zero-mul (2 ^ i), zero-mul B)) (λ (g : b ≡ 0). rw (g, zero-mul (2 ^ j), mul-zero A)) h in
      rw (product_is, e, at_zero u)
      (add_at (fin u 0 (pos 0)) z u v 0 C D (pow_pos 1138) (refl, refl) r.value
      ∙ sum_value binary64 0 C D (A * B * 1) (C * (1 * D)) (1 * (D * D)) (pow_pos 1138) (pow_pos 2276) (rw e) (sym (mul_assoc C (1 * D) D)) u v
      ∙ sym (fma_is 1 (zero-lt-suc 0)))

  pub zero_addend : (a ≡ 0 → ⊥) → (b ≡ 0 → ⊥) → c ≡ 0 → mul binary64 x y ≡ fma binary64 x y z
  zero_addend h g e =
      let none : C * (1 * D) ≡ 0 = rw (e, zero-mul (2 ^ k)) in
      let some : 0 < A * B = mul-pos (mul-pos {m = a} (omega arith) (pow_pos i)) (mul-pos {m = b} (omega arith) (pow_pos j)) in
      product_is ∙ sym (fma_is 1 (zero-lt-suc 0) ∙ rw (mul-one (A * B)) (sum_zero binary64 (unlike s t) v (A * B) (C * (1 * D)) (D * D) some none))

  -- as the program has the two fractions
  pub scaled_sum : sum binary64 (unlike s t) (A * B * 2 ^ 128) v (C * 2 ^ 1266) (2 ^ 2404) ≡ fma binary64 x y z
  scaled_sum = sym (fma_is (2 ^ 128) (pow_pos 128))
