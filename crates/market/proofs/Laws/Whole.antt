-- The whole number nearest to a fraction: by a shift, far below a half, and that it is the one to which the fraction is nearest, as is promised of what is written. Assumes nothing.
use mathlib.Core.Path.{◌≡◌, refl, sym, subst}
use mathlib.Core.Logic.{inl, inr}
use mathlib.Core.Bool.{Bool, true, false, not, cond, ◌&&◌}
use Prim.Native.Nat.{ℕ, suc, ◌+◌, ◌-◌, ◌*◌, ◌/◌, ◌%◌, ◌^◌, ◌≤◌, ◌<◌, compare, Ordering}
use native.Mathlib.Nat.{suc-mul, div-add-mod', mod-lt, mul-le-mul_right, lt_of_not-le, le_antisymm, eq-zero-or-pos}
use native.Mathlib.Decide.{dec_le}
use native.Mathlib.Omega.{arith}
use Rattle.std.proofs.Math.Nat.{div-eq_of_lt-le}
use borrow.Author.Tests.{lt-ltb, le-ltb}
use lib.Dec.{T, ltb}
use lib.IntN.{ℤ}
use lib.Ieee.{Float, nan, inf, fin, up, down, nearest}
use lib.Ieee.Fits.{down_pos}
use lib.Ieee.Scale.{finite}
use lib.Ieee.Nearest.{closest_mono}
use Rattle.elementary.proofs.Laws.Ordering.{Cmp, cmp}
use Rattle.std.specs.Prelude.{Ok, Err}
use Rattle.market.specs.declared.packed.Units.{Units}
use Rattle.market.specs.declared.refusal.Refusal.TheVariants.{Price}
use Rattle.market.specs.Packed.{nearest_whole, written, units_of}
use Rattle.market.specs.Promises.Packed.{apart, NearestWhole, Nearest}

-- ---- by adding almost a half
module _ (n h : ℕ) (H : 0 < h) where
  abbrev unit : ℕ
  unit = 2 * h

  abbrev q : ℕ
  q = n / unit

  parts : q * unit + n % unit ≡ n
  parts = div-add-mod' n unit

  rest_lt : n % unit < unit
  rest_lt = mod-lt n {m = unit} (omega arith)

  added : (o : Ordering) → Cmp o (n % unit * 2) unit → (n + (h - 1) + q % 2) / unit ≡ nearest q o
  added Ordering.lt c = div-eq_of_lt-le unit (omega (arith, parts)) (omega (arith, parts, rest_lt, suc-mul q unit))
  added Ordering.eq c =
      elim (eq-zero-or-pos (q % 2)) [
        | inl e ↦ div-eq_of_lt-le unit (rw e (omega (arith, parts))) (rw e (omega (arith, parts, suc-mul q unit)))
        | inr o ↦
            let one : q % 2 ≡ 1 = omega arith in
            div-eq_of_lt-le unit (rw one (omega (arith, parts, suc-mul q unit))) (rw one (omega (arith, parts, suc-mul q unit, suc-mul (suc q) unit)))
      ]
  added Ordering.gt c = div-eq_of_lt-le unit (omega (arith, parts, suc-mul q unit)) (omega (arith, parts, rest_lt, suc-mul q unit, suc-mul (suc q) unit))

  pub shifted : (n + (h - 1) + q % 2) / unit ≡ nearest_whole n unit
  shifted = added (compare (n % unit * 2) unit) (cmp (n % unit * 2) unit)

-- ---- less than a quarter
pub far_below : (n c : ℕ) → n * 4 ≤ c → 0 < c → nearest_whole n c ≡ 0
far_below n c h C = let l = closest_mono n c 1 4 C (omega arith) (omega arith) in omega arith

-- ---- the promise, by what is left of the quotient
module _ (a c : ℕ) (C : 0 < c) where
  abbrev w : ℕ
  w = a / c

  abbrev r : ℕ
  r = a % c

  whole : w * c + r ≡ a
  whole = div-add-mod' a c

  left : r < c
  left = mod-lt a {m = c} C

  -- how far off a whole number is: one from w down by r or more, one above it by c - r or more
  low : (k : ℕ) → k ≤ w → k * c ≤ w * c
  low k l = mul-le-mul_right c l

  lower : (k : ℕ) → k < w → k * c + c ≤ w * c
  lower k l = omega (arith, mul-le-mul_right c l, suc-mul k c)

  high : (k : ℕ) → w < k → w * c + c ≤ k * c
  high k l = omega (arith, mul-le-mul_right c l, suc-mul w c)

  higher : (k : ℕ) → suc w < k → w * c + c + c ≤ k * c
  higher k l = omega (arith, mul-le-mul_right c l, suc-mul w c, suc-mul (suc w) c)

  at_low : r * 2 ≤ c → (r * 2 ≡ c → w % 2 ≡ 0) → NearestWhole a c w
  at_low h e = record {
    nearest = λ k. elim (dec_le k w) [
      | yes l ↦ omega (arith, whole, left, low k l)
      | no g ↦ omega (arith, whole, left, high k (lt_of_not-le g))
    ];
    even = λ k n t. elim (dec_le k w) [
      | yes l ↦ absurd (omega (arith, whole, left, lower k (omega (arith, n))))
      | no g ↦ e (omega (arith, whole, left, high k (lt_of_not-le g)))
    ];
  }

  at_high : c ≤ r * 2 → (r * 2 ≡ c → suc w % 2 ≡ 0) → NearestWhole a c (suc w)
  at_high h e = record {
    nearest = λ k. elim (dec_le k w) [
      | yes l ↦ omega (arith, whole, left, low k l, suc-mul w c)
      | no g ↦ omega (arith, whole, left, high k (lt_of_not-le g), suc-mul w c)
    ];
    even = λ k n t. elim (dec_le k w) [
      | yes l ↦ e (omega (arith, whole, left, low k l, suc-mul w c))
      | no g ↦ absurd (omega (arith, whole, left, higher k (omega (arith, n, lt_of_not-le g)), suc-mul w c))
    ];
  }

  near : (o : Ordering) → Cmp o (r * 2) c → NearestWhole a c (nearest w o)
  near Ordering.lt h = at_low (omega arith) (λ e. absurd (omega arith))
  near Ordering.gt h = at_high (omega arith) (λ e. absurd (omega arith))
  near Ordering.eq h =
      elim (eq-zero-or-pos (w % 2)) [
        | inl z ↦ subst (NearestWhole a c) (omega arith) (at_low (omega arith) (λ e. z))
        | inr z ↦ subst (NearestWhole a c) (omega arith) (at_high (omega arith) (λ e. omega arith))
      ]

  pub whole_nearest : NearestWhole a c (nearest_whole a c)
  whole_nearest = near (compare (r * 2) c) (cmp (r * 2) c)

-- ---- of two nearest ones neither is below the other: both would be even, and one between them nearer
no_two : (a c n k : ℕ) → 0 < c → NearestWhole a c n → NearestWhole a c k → n < k → ⊥
no_two a c n k C x y l =
    let same : apart (k * c) a ≡ apart (n * c) a = le_antisymm (y.nearest n) (x.nearest k) in
    let e = x.even k (λ i. omega arith) same in
    let f = y.even n (λ i. omega arith) (sym same) in
    let two : suc (suc n) ≤ k = omega arith in
    let far : n * c + c + c ≤ k * c = omega (arith, mul-le-mul_right c two, suc-mul n c, suc-mul (suc n) c) in
    omega (arith, x.nearest (suc n), suc-mul n c)

pub nearest_one : (a c n k : ℕ) → 0 < c → NearestWhole a c n → NearestWhole a c k → n ≡ k
nearest_one a c n k C x y = omega (arith, no_two a c n k C x y, no_two a c k n C y x)

-- ---- what is written of a sign and a size
pub written_as : (s : Bool) (n : ℕ) (u : Units) → written s n ≡ Ok u → u ≡ record { minus = s && ltb 0 n; size = n }
written_as s n u e = go (ltb n (10 ^ 15)) e
  where
    go : (b : Bool) → cond b (Ok (record { minus = s && ltb 0 n; size = n })) (Err Price) ≡ Ok u → u ≡ record { minus = s && ltb 0 n; size = n }
    go true i = cc
    go false i = cc

module _ (s : Bool) (m : ℕ) (e : ℤ) where
  abbrev size : ℕ
  size = nearest_whole (m * up e * 10000) (down e)

  pub written_nearest : (u : Units) → units_of (fin s m e) ≡ Ok u → Nearest m e u.size × (u.minus ≡ (s && ltb 0 u.size))
  unfolding units_of
  written_nearest u i = rw (written_as s size u i) (whole_nearest (m * up e * 10000) (down e) (down_pos e), refl)

  is_size : (n : ℕ) → Nearest m e n → n ≡ size
  is_size n h = nearest_one (m * up e * 10000) (down e) n size (down_pos e) h (whole_nearest (m * up e * 10000) (down e) (down_pos e))

  pub refused_many : (n : ℕ) → Nearest m e n → 10 ^ 15 ≤ n → units_of (fin s m e) ≡ Err Price
  unfolding units_of
  refused_many n h l = rw (← is_size n h, le-ltb n (10 ^ 15) l) refl

  pub accepted_few : (n : ℕ) → Nearest m e n → n < 10 ^ 15 → units_of (fin s m e) ≡ Ok (record { minus = s && ltb 0 n; size = n })
  unfolding units_of
  accepted_few n h l = rw (← is_size n h, lt-ltb n (10 ^ 15) l) refl

pub refused_other : (x : Float) → T (not (finite x)) → units_of x ≡ Err Price
unfolding units_of
refused_other nan h = refl
refused_other (inf s) h = refl
refused_other (fin s m e) h = absurd h
