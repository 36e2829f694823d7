-- The Horner sums, filled in one after another. Assumes nothing.
use mathlib.Core.Path.{◌≡◌, refl, ap, ◌∙◌, subst}
use mathlib.Core.Bool.{Bool, true, ◌&&◌}
use mathlib.Core.Logic.{◌⊎◌, inl, inr}
use mathlib.Core.List.{List, [], ◌∷◌}
use Prim.Native.Nat.{ℕ, zero, suc, ◌+◌, ◌*◌, ◌^◌, ◌≤◌, ◌<◌}
use native.Mathlib.Nat.{eq-or-lt_of_le}
use native.Mathlib.Omega.{arith}
use lib.Dec.{T, ltb, ltb→lt, lit<}
use lib.ListN.{length, get_or, set, length-set}
use lib.Seq.{get_or-set_same, get_or-set_other}
use lib.Ieee.{Float, nan}
use lib.Ieee.Fits.{and_l, and_r}
use Rattle.prices.specs.Black.{innermost, horner_step}
use Rattle.prices.specs.Inside.SmallT.{Within, INNERMOST, OUTWARD, step_at, horner_sum, at, Filled}
use Rattle.prices.proofs.Laws.Sizes.{looser}

-- ---- the tables
each_step_small : List (ℕ × ℕ) → Bool
each_step_small [] = true
each_step_small (s ∷ xs) = (ltb s.0 (2 ^ 19) && ltb s.1 (2 ^ 19)) && each_step_small xs

small_step : (xs : List (ℕ × ℕ)) → T (each_step_small xs) → (k : ℕ) → ((get_or xs k (0, 0)).0 < 2 ^ 19) × ((get_or xs k (0, 0)).1 < 2 ^ 19)
unfolding each_step_small
small_step [] t k = (lit< tt, lit< tt)
small_step (s ∷ xs) t zero =
    let h = and_l (ltb s.0 (2 ^ 19) && ltb s.1 (2 ^ 19)) (each_step_small xs) t in
    (ltb→lt s.0 (2 ^ 19) (and_l (ltb s.0 (2 ^ 19)) (ltb s.1 (2 ^ 19)) h), ltb→lt s.1 (2 ^ 19) (and_r (ltb s.0 (2 ^ 19)) (ltb s.1 (2 ^ 19)) h))
small_step (s ∷ xs) t (suc k) = small_step xs (and_r (ltb s.0 (2 ^ 19) && ltb s.1 (2 ^ 19)) (each_step_small xs) t) k

pub step_small : (k : ℕ) → ((step_at k).0 < 2 ^ 19) × ((step_at k).1 < 2 ^ 19)
unfolding each_step_small
step_small k = small_step OUTWARD tt k

-- ---- the sums
innermost_is : (a h2 : Float) (k : ℕ) → k < 4 → innermost a h2 (get_or INNERMOST k 0) ≡ horner_sum a h2 k
unfolding horner_sum
innermost_is a h2 zero l = refl
innermost_is a h2 (suc zero) l = refl
innermost_is a h2 (suc (suc zero)) l = refl
innermost_is a h2 (suc (suc (suc zero))) l = refl
innermost_is a h2 (suc (suc (suc (suc k)))) l = absurd (omega arith)

step_is : (a h2 : Float) (k : ℕ) → horner_step a h2 (horner_sum a h2 k) (step_at k).0 (step_at k).1 ≡ horner_sum a h2 (k + 4)
unfolding horner_sum
step_is a h2 k = let e : suc (suc (suc (suc k))) ≡ k + 4 = omega arith in subst (λ (z : ℕ). horner_step a h2 (horner_sum a h2 k) (step_at k).0 (step_at k).1 ≡ horner_sum a h2 z) e refl

-- ---- one more entry
-- what holds of v at k and of the entries before it
each : (k : ℕ) (y : List Float) (v : Float) → length y ≡ 18 → (R : Float → ℕ → Type 0) → k < 18 → R v k → ((j : ℕ) → j < k → R (at y j) j) → (j : ℕ) → j < k + 1 → R (at (set y k v) j) j
each k y v long R l new old j p = go (eq-or-lt_of_le {n = j} {m = k} (omega arith))
  where
    go : (j ≡ k) ⊎ (j < k) → R (at (set y k v) j) j
    go (inl q) = rw (q, get_or-set_same y k v nan (omega (arith, long))) new
    go (inr q) = rw (get_or-set_other y k j v nan (λ e. omega arith)) (old j q)

module _ {Before Sure All Asked : Type 0} (both : All → Before × Sure) (a h2 : Float) (k : ℕ) (y : List Float) (v : Float) where
  fill : Filled a h2 k y Before Asked → k < 18 → (All → v ≡ horner_sum a h2 k) → (Asked → Within v (11 * k + 46)) → Filled a h2 (k + 1) (set y k v) All Asked
  fill h l v_is size =
      record {
        long = length-set y k v ∙ h.long;
        right = λ z. each k y v h.long (λ x j. x ≡ horner_sum a h2 j) l (v_is z) (h.right (both z).0);
        size = λ r. each k y v h.long (λ x j. Within x (11 * j + 46)) l (size r) (h.size r);
      }

  pub fill_innermost : Filled a h2 k y Before Asked → k < 4 → (Sure → v ≡ innermost a h2 (get_or INNERMOST k 0)) → (Asked → Within v 46) → Filled a h2 (k + 1) (set y k v) All Asked
  fill_innermost h l v_is size = fill h (omega arith) (λ z. v_is (both z).1 ∙ innermost_is a h2 k l) (λ r. looser (11 * k + 46) (omega arith) (size r))

pub fill_step : {Before Sure All Asked : Type 0} → (All → Before × Sure) → (a h2 : Float) (k : ℕ) (y : List Float) (v : Float) → Filled a h2 (k + 4) y Before Asked → k < 14
    → (Sure → v ≡ horner_step a h2 (at y k) (step_at k).0 (step_at k).1) → (Asked → (n : ℕ) → n ≤ 300 → Within (at y k) n → Within v (n + 44)) → Filled a h2 (k + 1 + 4) (set y (k + 4) v) All Asked
fill_step {Before} {Sure} {All} {Asked} both a h2 k y v h l v_is size =
    let next : k + 4 + 1 ≡ k + 1 + 4 = omega arith in
    subst (λ (n : ℕ). Filled a h2 n (set y (k + 4) v) All Asked) next
    (fill both a h2 (k + 4) y v h (omega arith)
    (λ z. v_is (both z).1 ∙ ap (λ (s : Float). horner_step a h2 s (step_at k).0 (step_at k).1) (h.right (both z).0 k (omega arith)) ∙ step_is a h2 k)
    (λ r. looser (11 * (k + 4) + 46) (omega arith) (size r (11 * k + 46) (omega arith) (h.size r k (omega arith)))))
