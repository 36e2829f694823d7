-- The float nearest to a number, from one that stands for it and has two digits more than are kept. Assumes nothing.
use mathlib.Core.Path.{◌≡◌, refl, sym, ap, ◌∙◌, subst}
use mathlib.Core.Logic.{◌⊎◌, inl, inr}
use mathlib.Core.Bool.{false}
use Prim.Native.Nat.{ℕ, zero, suc, ◌+◌, ◌-◌, ◌*◌, ◌/◌, ◌%◌, ◌^◌, ◌≤◌, ◌<◌, compare, Ordering}
use native.Mathlib.Nat.{le_antisymm, eq-zero-or-pos, mul-le-mul_right, mul-lt-mul_of_pos_right, mul_assoc, mul-pos, lt_of_lt_of_le, not-le_of_lt, le-div_iff_mul-le, div-lt_iff_lt-mul}
use native.Mathlib.Omega.{arith}
use lib.Arith.{digits_div, digits_mod}
use lib.Count.{count_leading_zeros, leading_top}
use lib.Pow.{pow-add, pow_pos, pow_mono, shl_exact}
use lib.Ieee.{binary64, size, nearest, units, round}
use lib.Ieee.Digits.{size-le}
use lib.Ieee.Fits.{nearest-le, round_is}
use lib.Ieee.Nearest.{closest, closest_same, div_same, nearest-ge}
use Rattle.std.specs.Float.MulAdd.{IsExactOrSticky, IsRoundable}
use Rattle.elementary.proofs.Laws.Ordering.{Cmp, cmp}
use Rattle.elementary.proofs.Laws.Places.{size_gt}
use Rattle.elementary.proofs.Laws.Sticky.{then, over, below, above}

-- ---- a number's digits
pub size_of : (w a : ℕ) → 2 ^ a ≤ w → w < 2 ^ suc a → size w ≡ suc a
size_of w a lo hi = le_antisymm (size-le w (suc a) hi) (size_gt w a lo)

-- ---- two digits decide the rounding
is_order : (a b : ℕ) (o : Ordering) → Cmp o a b → compare a b ≡ o
is_order a b o h = go (compare a b) (cmp a b) o h
  where
    go : (p : Ordering) → Cmp p a b → (q : Ordering) → Cmp q a b → p ≡ q
    go Ordering.lt g Ordering.lt l = refl
    go Ordering.lt g Ordering.eq l = absurd (omega arith)
    go Ordering.lt g Ordering.gt l = absurd (omega arith)
    go Ordering.eq g Ordering.lt l = absurd (omega arith)
    go Ordering.eq g Ordering.eq l = refl
    go Ordering.eq g Ordering.gt l = absurd (omega arith)
    go Ordering.gt g Ordering.lt l = absurd (omega arith)
    go Ordering.gt g Ordering.eq l = absurd (omega arith)
    go Ordering.gt g Ordering.gt l = refl

closest_at : (n u q r : ℕ) (o : Ordering) → n ≡ q * (u * 4) + r → r < u * 4 → Cmp o (r * 2) (u * 4) → closest n (u * 4) ≡ nearest q o
closest_at n u q r o e l c =
    let d : n / (u * 4) ≡ q = ap (λ (k : ℕ). k / (u * 4)) e ∙ digits_div q l in
    let m : n % (u * 4) ≡ r = ap (λ (k : ℕ). k % (u * 4)) e ∙ digits_mod q l in
    (λ i. nearest (d i) (compare (m i * 2) (u * 4))) ∙ ap (nearest q) (is_order (r * 2) (u * 4) o c)

-- c is q * 4 + j, and v is q * 4 of u
by_last : (n u q j v : ℕ) → 0 < u → j < 4 → v ≡ q * (u * 4) → ((v + j * u ≡ n) ⊎ ((j % 2 ≡ 1) × (v + j * u < n + u) × (n < v + j * u + u))) → closest n (u * 4) ≡ nearest q (compare j 2)
by_last n u q zero v U J V (inl e) = closest_at n u q (n - v) Ordering.lt (omega arith) (omega arith) (omega arith)
by_last n u q (suc zero) v U J V (inl e) = closest_at n u q (n - v) Ordering.lt (omega arith) (omega arith) (omega arith)
by_last n u q (suc (suc zero)) v U J V (inl e) = closest_at n u q (n - v) Ordering.eq (omega arith) (omega arith) (omega arith)
by_last n u q (suc (suc (suc zero))) v U J V (inl e) = closest_at n u q (n - v) Ordering.gt (omega arith) (omega arith) (omega arith)
by_last n u q zero v U J V (inr r) = absurd (omega arith)
by_last n u q (suc zero) v U J V (inr r) = closest_at n u q (n - v) Ordering.lt (omega arith) (omega arith) (omega arith)
by_last n u q (suc (suc zero)) v U J V (inr r) = absurd (omega arith)
by_last n u q (suc (suc (suc zero))) v U J V (inr r) = closest_at n u q (n - v) Ordering.gt (omega arith) (omega arith) (omega arith)
by_last n u q (suc (suc (suc (suc j)))) v U J V r = absurd (omega arith)

pub quarter : (c u n : ℕ) → 0 < u → IsExactOrSticky c u n → closest n (u * 4) ≡ nearest (c / 4) (compare (c % 4) 2)
quarter c u n U near =
    let s : c ≡ c / 4 * 4 + c % 4 = omega arith in
    let e : c * u ≡ c / 4 * (u * 4) + c % 4 * u = ap (λ (z : ℕ). z * u) s ∙ spread (c / 4) (c % 4) in
    by_last n u (c / 4) (c % 4) (c / 4 * (u * 4)) U (omega arith) refl
    (elim near [ inl x ↦ inl (sym e ∙ x) | inr r ↦ inr (omega (arith, r.0), omega (arith, r.1), omega (arith, r.2)) ])
  where
    spread : (q j : ℕ) → (q * 4 + j) * u ≡ q * (u * 4) + j * u
    spread q j = omega arith

-- ---- how many digits the exact number n has, t of them
pub record Sized (n t : ℕ) : Type 0 where
  lead : 2 ^ t ≤ 2 * n
  top : n < 2 ^ t

pub sized : (v e n w : ℕ) → 2 ^ w ≤ 2 * v → v < 2 ^ w → IsRoundable v (2 ^ e) n → Sized n (w + e)
sized v e n w p q (inl a) = record { lead = omega (arith, pow-add 2 w e, mul-le-mul_right (2 ^ e) p); top = omega (arith, pow-add 2 w e, mul-lt-mul_of_pos_right q (pow_pos e)) }
sized v e n zero p q (inr r) = absurd (omega (arith, r.1))
sized v e n (suc zero) p q (inr r) = absurd (omega (arith, r.1))
sized v e n (suc (suc w)) p q (inr r) =
    let h : 2 ^ w * 2 ≤ v = omega arith in
    let a : 2 ^ suc (suc w) + 2 ≤ 2 * v = omega (arith, r.0.0) in
    record {
      lead = omega (arith, pow-add 2 (suc (suc w)) e, mul-le-mul_right (2 ^ e) a, r.0.1);
      top = omega (arith, pow-add 2 (suc (suc w)) e, mul-le-mul_right (2 ^ e) q, r.0.2);
    }

power_at : (a b : ℕ) → a ≡ b → 2 ^ a ≡ 2 ^ b
power_at a b e = ap (λ (k : ℕ). 2 ^ k) e

under : (n t j : ℕ) → Sized n t → t ≤ j → n < 2 ^ j
under n t j s h = lt_of_lt_of_le s.top (pow_mono h)

at_least : (n t j : ℕ) → Sized n t → j < t → 2 ^ j ≤ n
at_least n t j s h = let m : 2 ^ suc j ≤ 2 ^ t = pow_mono h in omega (arith, s.lead)

-- ---- the result has 53 digits at the most, and the unit of the last is 2 ^ (k + 1330) of 2 ^ -2404, with the least k that leaves room
module _ (n t k : ℕ) (s : Sized n t) (e : k ≡ t - 1383) where
  dropped : size (n / 2 ^ 1330) - 53 ≡ k
  dropped =
      let hi : size (n / 2 ^ 1330) ≤ k + 53 = size-le (n / 2 ^ 1330) (k + 53) ((div-lt_iff_lt-mul (pow_pos 1330)).1 (subst (λ (z : ℕ). n < z) (pow-add 2 (k + 53) 1330) (under n t (k + 53 + 1330) s (omega arith)))) in
      elim (eq-zero-or-pos k) [
        | inl z ↦ omega arith
        | inr p ↦
            let lo : k + 52 < size (n / 2 ^ 1330) = size_gt (n / 2 ^ 1330) (k + 52) ((le-div_iff_mul-le (pow_pos 1330)).1 (subst (λ (z : ℕ). z ≤ n) (pow-add 2 (k + 52) 1330) (at_least n t (k + 52 + 1330) s (omega arith)))) in
            omega arith
      ]

  -- c has the result's digits and two more
  module _ (c : ℕ) (near : IsExactOrSticky c (2 ^ (k + 1328)) n) where
    pub small : c < 2 ^ 55
    small = below c (2 ^ (k + 1328)) n (2 ^ 55) near (omega arith) (subst (λ (z : ℕ). n < z) (pow-add 2 55 (k + 1328)) (under n t (55 + (k + 1328)) s (omega arith)))

    pub large : 0 < k → 2 ^ 54 ≤ c
    large p = above c (2 ^ (k + 1328)) n (2 ^ 54) (pow_pos (k + 1328)) near (subst (λ (z : ℕ). z ≤ n) (pow-add 2 54 (k + 1328)) (at_least n t (54 + (k + 1328)) s (omega arith)))

    pub rounds : round binary64 false n (2 ^ 2404) ≡ units binary64 false (nearest (c / 4) (compare (c % 4) 2)) k
    rounds =
        let u = 2 ^ (k + 1328) in
        let v = n * 2 ^ 1074 in
        let d : v / 2 ^ 2404 ≡ n / 2 ^ 1330 = div_same v (2 ^ 2404) n (2 ^ 1330) (pow_pos 2404) (pow_pos 1330) (mul_assoc n (2 ^ 1074) (2 ^ 1330)) in
        let j : size (v / 2 ^ 2404) - 53 ≡ k = ap (λ (z : ℕ). size z - 53) d ∙ dropped in
        let w : 2 ^ 1074 * (u * 4) ≡ 2 ^ 2404 * 2 ^ k =
        ap (λ (x : ℕ). 2 ^ 1074 * x) (sym (pow-add 2 (k + 1328) 2)) ∙ sym (pow-add 2 1074 (k + 1328 + 2)) ∙ power_at (1074 + (k + 1328 + 2)) (2404 + k) (omega arith) ∙ pow-add 2 2404 k in
        let r : closest v (2 ^ 2404 * 2 ^ k) ≡ closest n (u * 4) =
        closest_same v (2 ^ 2404 * 2 ^ k) n (u * 4) (mul-pos (pow_pos 2404) (pow_pos k)) (mul-pos (pow_pos (k + 1328)) (omega arith))
        (mul_assoc n (2 ^ 1074) (u * 4) ∙ ap (λ (x : ℕ). n * x) w) in
        round_is binary64 false n (2 ^ 2404)
        ∙ ap (λ (x : ℕ). units binary64 false (closest v (2 ^ 2404 * 2 ^ x)) x) j
        ∙ ap (λ (x : ℕ). units binary64 false x k) (r ∙ quarter c u n (pow_pos (k + 1328)) near)

-- ---- v has j + 1 digits; c is v * 2 ^ z, which has 128, cut to the result's digits and two more
pub record Steps (v e z j k c : ℕ) : Type 0 where
  pub full : z + suc j ≡ 128
  pub lead : 2 ^ j ≤ v
  pub top : v < 2 ^ suc j
  pub least : 128 ≤ e
  pub kept : k ≡ e - z - 1255
  pub near : IsExactOrSticky c (2 ^ (k + 1328 - (e - z))) (v * 2 ^ z)

module _ {v e z j k c : ℕ} (S : Steps v e z j k c) where
  abbrev d : ℕ
  d = k + 1328 - (e - z)

  sized_here : (n : ℕ) → IsRoundable v (2 ^ e) n → Sized n (suc j + e)
  sized_here n R = sized v e n (suc j) (omega (arith, pow-add 2 j 1, S.lead)) S.top R

  k_is : k ≡ suc j + e - 1383
  k_is = omega (arith, S.full, S.least, S.kept)

  stands : (n : ℕ) → IsRoundable v (2 ^ e) n → IsExactOrSticky c (2 ^ (k + 1328)) n
  stands n (inl x) =
      subst (λ (u : ℕ). IsExactOrSticky c u n) (sym (pow-add 2 d (e - z)) ∙ power_at (d + (e - z)) (k + 1328) (omega (arith, S.full, S.least, S.kept)))
      (then (v * 2 ^ z) (2 ^ (e - z)) n c (2 ^ d) (pow_pos (e - z)) (pow_pos d)
      (inl (mul_assoc v (2 ^ z) (2 ^ (e - z)) ∙ ap (λ (u : ℕ). v * u) (sym (pow-add 2 z (e - z)) ∙ power_at (z + (e - z)) e (omega (arith, S.full, S.least))) ∙ x)) S.near)
  stands n (inr x) =
      let b : j < 55 → ⊥ = λ h. not-le_of_lt (lt_of_lt_of_le S.top (pow_mono {i = suc j} {j = 55} h)) x.1 in
      let f : d - z + z ≡ d = omega (arith, S.full, S.least, S.kept) in
      subst (λ (u : ℕ). IsExactOrSticky c u n) (sym (pow-add 2 (d - z) e) ∙ power_at (d - z + e) (k + 1328) (omega (arith, S.full, S.least, S.kept)))
      (then v (2 ^ e) n c (2 ^ (d - z)) (pow_pos e) (pow_pos (d - z)) (inr x.0)
      (over c (2 ^ (d - z)) v (2 ^ z) (pow_pos z) (subst (λ (u : ℕ). IsExactOrSticky c u (v * 2 ^ z)) (power_at d (d - z + z) (sym f) ∙ pow-add 2 (d - z) z) S.near)))

  abbrev q : ℕ
  q = nearest (c / 4) (compare (c % 4) 2)

  pub c_small : c < 2 ^ 55
  c_small = small (v * 2 ^ e) (suc j + e) k (sized_here (v * 2 ^ e) (inl refl)) k_is c (stands (v * 2 ^ e) (inl refl))

  pub c_large : 0 < k → 2 ^ 54 ≤ c
  c_large = large (v * 2 ^ e) (suc j + e) k (sized_here (v * 2 ^ e) (inl refl)) k_is c (stands (v * 2 ^ e) (inl refl))

  pub q_small : q ≤ 2 ^ 53
  q_small = omega (arith, c_small, nearest-le (c / 4) (compare (c % 4) 2))

  pub q_large : 0 < k → 2 ^ 52 ≤ q
  q_large p = omega (arith, c_large p, nearest-ge (c / 4) (compare (c % 4) 2))

  pub rounds_to : (n : ℕ) → IsRoundable v (2 ^ e) n → round binary64 false n (2 ^ 2404) ≡ units binary64 false (nearest (c / 4) (compare (c % 4) 2)) k
  rounds_to n R = rounds n (suc j + e) k (sized_here n R) k_is c (stands n R)

-- as the program has v * 2 ^ z, where z is the number of zeros above v
pub filled : (v : ℕ) → 0 < v → v < 2 ^ 128 → v * 2 ^ count_leading_zeros 128 v % 2 ^ 128 ≡ v * 2 ^ count_leading_zeros 128 v
filled v p h = let t = leading_top 128 v p h in shl_exact (suc t.0) (count_leading_zeros 128 v) 128 t.3 (omega (arith, t.1))

pub steps_of : {v e k c : ℕ} → 0 < v → v < 2 ^ 128 → 128 ≤ e → k ≡ e - count_leading_zeros 128 v - 1255
    → IsExactOrSticky c (2 ^ (k + 1328 - (e - count_leading_zeros 128 v))) (v * 2 ^ count_leading_zeros 128 v % 2 ^ 128)
    → (j : ℕ) × Steps v e (count_leading_zeros 128 v) j k c
steps_of {v} p h E K near =
    let t = leading_top 128 v p h in
    (t.0, record { full = t.1; lead = t.2; top = t.3; least = E; kept = K; near = rw (filled v p h) at near })
