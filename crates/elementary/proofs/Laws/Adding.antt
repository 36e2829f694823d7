-- `sum`, `add`, `sub` and `mul` by the values of their operands. Assumes nothing.
use mathlib.Core.Path.{◌≡◌, sym, ap, ◌∙◌, subst}
use mathlib.Core.Bool.{Bool, not, ◌&&◌, beq, cond}
use Prim.Native.Nat.{ℕ, ◌+◌, ◌-◌, ◌*◌, ◌<◌}
use native.Mathlib.Nat.{mul_assoc, mul_comm, mul_left_comm, mul_right_comm, mul-pos, mul-sub, mul-lt-mul_of_pos_right, lt_of_mul-lt-mul_right, add-mul}
use lib.Dec.{ltb}
use lib.Ieee.{Float, nan, inf, fin, Format, binary64, unlike, up, down, round, neg, sum, add, sub, mul}
use lib.Ieee.Fits.{down_pos}
use lib.Ieee.Exact.{HasValue}
use lib.Ieee.Scale.{round_same}
use Rattle.std.proofs.lemmas.Bool.{ltb-true, ltb_from_iff}
use borrow.Author.Tests.{lt-ltb}

pub sub_mul : (a b q : ℕ) → (a - b) * q ≡ a * q - b * q
sub_mul a b q = mul_comm (a - b) q ∙ mul-sub q a b ∙ ap (λ (z : ℕ). z - q * b) (mul_comm q a) ∙ ap (λ (z : ℕ). a * q - z) (mul_comm q b)

-- ---- `sum` sees only the values of its two fractions
module _ (f : Format) (a b c a' b' c' : ℕ) (C : 0 < c) (C' : 0 < c') (p : a * c' ≡ a' * c) (q : b * c' ≡ b' * c) where
  lt_back : (x y x' y' : ℕ) → x * c' ≡ x' * c → y * c' ≡ y' * c → x < y → x' < y'
  lt_back x y x' y' g h l = lt_of_mul-lt-mul_right c (subst (λ (z : ℕ). z < y' * c) g (subst (λ (z : ℕ). x * c' < z) h (mul-lt-mul_of_pos_right l C')))

  lt_forth : (x y x' y' : ℕ) → x * c' ≡ x' * c → y * c' ≡ y' * c → x' < y' → x < y
  lt_forth x y x' y' g h l = lt_of_mul-lt-mul_right c' (subst (λ (z : ℕ). z < y * c') (sym g) (subst (λ (z : ℕ). x' * c < z) (sym h) (mul-lt-mul_of_pos_right l C)))

  same_ltb : (x y x' y' : ℕ) → x * c' ≡ x' * c → y * c' ≡ y' * c → ltb x y ≡ ltb x' y'
  same_ltb x y x' y' g h = ltb_from_iff (λ t. lt_back x y x' y' g h (ltb-true x y t), λ l. lt-ltb x y (lt_forth x y x' y' g h l))

  same_diff : (u : Bool) (x y x' y' : ℕ) → x * c' ≡ x' * c → y * c' ≡ y' * c → round f u (x - y) c ≡ round f u (x' - y') c'
  same_diff u x y x' y' g h =
      round_same f u (x - y) c (x' - y') c' C C'
      (sub_mul x y c' ∙ ap (λ (z : ℕ). z - y * c') g ∙ ap (λ (z : ℕ). x' * c - z) h ∙ sym (sub_mul x' y' c))

  pub sum_value : (s t : Bool) → sum f s a t b c ≡ sum f s a' t b' c'
  unfolding sum
  sum_value s t =
      let e1 : round f s (a + b) c ≡ round f s (a' + b') c' =
      round_same f s (a + b) c (a' + b') c' C C' (add-mul a b c' ∙ ap (λ (z : ℕ). z + b * c') p ∙ ap (λ (z : ℕ). a' * c + z) q ∙ sym (add-mul a' b' c)) in
      ap (λ (z : Float). cond (beq s t) z (cond (ltb a b) (round f t (b - a) c) (round f (s && ltb b a) (a - b) c))) e1
      ∙ ap (λ (z : Float). cond (beq s t) (round f s (a' + b') c') (cond (ltb a b) z (round f (s && ltb b a) (a - b) c))) (same_diff t b a b' a' q p)
      ∙ ap (λ (z : Float). cond (beq s t) (round f s (a' + b') c') (cond (ltb a b) (round f t (b' - a') c') z)) (same_diff (s && ltb b a) a b a' b' p q)
      ∙ ap (λ (z : Bool). cond (beq s t) (round f s (a' + b') c') (cond z (round f t (b' - a') c') (round f (s && ltb b a) (a' - b') c'))) (same_ltb a b a' b' p q)
      ∙ ap (λ (z : Bool). cond (beq s t) (round f s (a' + b') c') (cond (ltb a' b') (round f t (b' - a') c') (round f (s && z) (a' - b') c'))) (same_ltb b a b' a' q p)

-- ---- sums and differences by their values
pub add_at : (x y : Float) (s t : Bool) (a b d : ℕ) → 0 < d → HasValue x s a d → HasValue y t b d → add binary64 x y ≡ sum binary64 s a t b d
unfolding add
add_at nan y s t a b d P p q = absurd p
add_at (inf _) y s t a b d P p q = absurd p
add_at (fin _ m e) nan s t a b d P p q = absurd q
add_at (fin _ m e) (inf _) s t a b d P p q = absurd q
add_at (fin s' m e) (fin t' n g) s t a b d P p q =
    sum_value binary64 (m * up e * down g) (n * up g * down e) (down e * down g) a b d (mul-pos (down_pos e) (down_pos g)) P
    (mul_right_comm (m * up e) (down g) d ∙ ap (λ (z : ℕ). z * down g) p.1 ∙ mul_assoc a (down e) (down g))
    (mul_right_comm (n * up g) (down e) d ∙ ap (λ (z : ℕ). z * down e) q.1 ∙ mul_assoc b (down g) (down e) ∙ ap (λ (z : ℕ). b * z) (mul_comm (down g) (down e)))
    s' t'
    ∙ ap (λ (z : Bool). sum binary64 z a t' b d) p.0
    ∙ ap (λ (z : Bool). sum binary64 s a z b d) q.0

pub neg_value : (x : Float) (s : Bool) (a d : ℕ) → HasValue x s a d → HasValue (neg x) (not s) a d
unfolding neg
neg_value nan s a d h = h
neg_value (inf t) s a d h = h
neg_value (fin t m e) s a d h = (ap not h.0, h.1)

pub sub_at : (x y : Float) (s t : Bool) (a b d : ℕ) → 0 < d → HasValue x s a d → HasValue y t b d → sub binary64 x y ≡ sum binary64 s a (not t) b d
unfolding sub
sub_at x y s t a b d P p q = add_at x (neg y) s (not t) a b d P p (neg_value y t b d q)

-- ---- a product
pub mul_value : (x y : Float) (s t : Bool) (a b c d : ℕ) → 0 < c → 0 < d → HasValue x s a c → HasValue y t b d → mul binary64 x y ≡ round binary64 (unlike s t) (a * b) (c * d)
unfolding mul
mul_value nan y s t a b c d C D p q = absurd p
mul_value (inf _) y s t a b c d C D p q = absurd p
mul_value (fin _ m e) nan s t a b c d C D p q = absurd q
mul_value (fin _ m e) (inf _) s t a b c d C D p q = absurd q
mul_value (fin _ m e) (fin _ n g) s t a b c d C D p q =
    let l : m * up e * (n * up g) * (c * d) ≡ m * up e * c * (n * up g * d) = simp (mul_assoc, mul_comm, mul_left_comm) in
    let r : a * b * (down e * down g) ≡ a * down e * (b * down g) = simp (mul_assoc, mul_left_comm) in
    rw (p.0, q.0) (round_same binary64 (unlike s t) (m * up e * (n * up g)) (down e * down g) (a * b) (c * d) (mul-pos (down_pos e) (down_pos g)) (mul-pos C D) (l ∙ rw (p.1, q.1) (sym r)))
