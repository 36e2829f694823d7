-- `round` is roundTiesToEven of every fraction, and so are the operations that round their exact result by it: p × 2^k and fused multiply-add. Assumes nothing.
use mathlib.Core.Path.{◌≡◌, refl}
use mathlib.Core.Bool.{Bool, true, false, not, cond, ◌&&◌}
use Prim.Native.Nat.{ℕ, suc, ◌+◌, ◌-◌, ◌*◌, ◌/◌, ◌%◌, ◌^◌, ◌≤◌, ◌<◌, compare, Ordering}
use native.Mathlib.Nat.{le_trans, le_refl, mul_assoc, mul_comm, mul-le-mul_right, mul-lt-mul_of_pos_right, mul-pos, add-mul, add_comm, one-mul, lt_of_not-le, div-mul-le_self, div-lt_iff_lt-mul, div-add-mod', div-div-eq-div-mul}
use native.Mathlib.Decide.{dec_le}
use native.Mathlib.Omega.{arith}
use lib.IntN.{ℤ}
use lib.Pow.{pow_pos}
use borrow.Author.Tests.{lt-ltb, le-ltb}
use lib.Dec.{T, ltb, eqb}
use lib.Ieee.{Float, nan, inf, fin, Format, prec, low, up, down, unlike, round, sum, add, mul}
use lib.Ieee.Fits.{down_pos, round_is}
use lib.Ieee.Scale.{finite}
use Rattle.elementary.specs.MulAdd.{fma}
use Rattle.elementary.specs.Exp.{scaled}
use Rattle.elementary.specs.Promises.{Rounded, sum_size, sum_sign}
use Rattle.elementary.proofs.Laws.Ordering.{Cmp, cmp}
use Rattle.elementary.proofs.mul_add.Sums.{sum_same, sum_more, sum_less, sum_comm}
use Rattle.elementary.proofs.Laws.Places.{tail, lead}
use Rattle.elementary.proofs.Laws.Nearest.{middle, units_nearest, nearest_one}

-- ---- a fraction's double compares with a whole number n as 2 a does with n * c
cmp_add : (o : Ordering) (c a b : ℕ) → Cmp o a b → Cmp o (c + a) (c + b)
cmp_add Ordering.lt c a b h = omega arith
cmp_add Ordering.eq c a b h = omega arith
cmp_add Ordering.gt c a b h = omega arith

module _ (p n c : ℕ) (C : 0 < c) where
  abbrev k : ℕ
  k = tail p (n / c)

  abbrev q : ℕ
  q = lead p (n / c)

  from : 2 * (q * 2 ^ k) * c ≤ 2 * n
  from =
      let l = le_trans (mul-le-mul_right c (div-mul-le_self (n / c) (2 ^ k))) (div-mul-le_self n c) in
      rw (mul_assoc 2 (q * 2 ^ k) c) (omega arith)

  to : 2 * n < 2 * (suc q * 2 ^ k) * c
  to =
      let l : n < suc q * 2 ^ k * c = (div-lt_iff_lt-mul C).0 ((div-lt_iff_lt-mul (pow_pos k)).0 (le_refl (suc q))) in
      rw (mul_assoc 2 (suc q * 2 ^ k) c) (omega arith)

  -- the quotient by the unit and what is left of it
  abbrev u : ℕ
  u = c * 2 ^ k

  q_is : q ≡ n / u
  q_is = div-div-eq-div-mul n c (2 ^ k)

  whole : 2 * n ≡ 2 * (q * u) + n % u * 2
  whole = let e : q * u + n % u ≡ n = rw q_is (div-add-mod' n u) in omega arith

  middle_is : middle p (n / c) * c ≡ 2 * (q * u) + u
  middle_is = rw (mul_assoc (2 * q + 1) (2 ^ k) c, mul_comm (2 ^ k) c, add-mul (2 * q) 1 u, one-mul u, mul_assoc 2 q u)

  order : Cmp (compare (n % u * 2) u) (2 * n) (middle p (n / c) * c)
  order = rw (whole, middle_is) (cmp_add (compare (n % u * 2) u) (2 * (q * u)) (n % u * 2) u (cmp (n % u * 2) u))

pub round_rounded : (f : Format) (s : Bool) (a c : ℕ) → 0 < c → Rounded f s a c (round f s a c)
round_rounded f s a c C =
    let n = a * 2 ^ low f in
    let p = prec f in
    rw (round_is f s a c, ← q_is p n c C)
    (units_nearest f (n / c) (2 * n) (λ (x : ℕ). x * c) (λ a b l. mul-lt-mul_of_pos_right l C) (from p n c C) (to p n c C) s (compare (n % u p n c C * 2) (u p n c C)) (order p n c C))

pub fraction_one : (f : Format) (s : Bool) (a c : ℕ) (r q : Float) → 0 < c → Rounded f s a c r → Rounded f s a c q → r ≡ q
fraction_one f s a c r q C = nearest_one f s (2 * (a * 2 ^ low f)) (λ (x : ℕ). x * c) (λ a b l. mul-lt-mul_of_pos_right l C) r q

pub scaled_rounded : (f : Format) (s : Bool) (m : ℕ) (e k : ℤ) → Rounded f s (m * up e * up k) (down e * down k) (scaled f (fin s m e) k)
unfolding scaled
scaled_rounded f s m e k = round_rounded f s (m * up e * up k) (down e * down k) (mul-pos (down_pos e) (down_pos k))

-- ---- fused multiply-add
unlike_rounded : (f : Format) (a b c : ℕ) → 0 < c → Rounded f (ltb b a) (a - b + (b - a)) c (sum f true a false b c)
unlike_rounded f a b c C = go (dec_le a b)
  where
    go : Dec (a ≤ b) → Rounded f (ltb b a) (a - b + (b - a)) c (sum f true a false b c)
    go (yes h) = let z : a - b + (b - a) ≡ b - a = omega arith in rw (sum_less f true false a b c refl h, le-ltb b a h, z) (round_rounded f false (b - a) c C)
    go (no n) =
        let h = lt_of_not-le n in
        let z : a - b + (b - a) ≡ a - b = omega arith in
        rw (sum_more f true false a b c refl h, lt-ltb b a h, z) (round_rounded f true (a - b) c C)

sum_rounded : (f : Format) (s : Bool) (a : ℕ) (t : Bool) (b c : ℕ) → 0 < c → Rounded f (sum_sign s a t b) (sum_size s a t b) c (sum f s a t b c)
sum_rounded f true a true b c C = rw (sum_same f true true a b c refl) (round_rounded f true (a + b) c C)
sum_rounded f false a false b c C = rw (sum_same f false false a b c refl) (round_rounded f false (a + b) c C)
sum_rounded f true a false b c C = unlike_rounded f a b c C
sum_rounded f false a true b c C = rw (sum_comm f false true a b c, add_comm (a - b) (b - a)) (unlike_rounded f b a c C)

pub fma_rounded : (f : Format) (s t v : Bool) (m n p : ℕ) (e d g : ℤ)
    → let P = m * up e * (n * up d) * down g in
    let A = p * up g * (down e * down d) in
    let D = down e * down d * down g in
    Rounded f (sum_sign (unlike s t) P v A) (sum_size (unlike s t) P v A) D (fma f (fin s m e) (fin t n d) (fin v p g))
unfolding fma
fma_rounded f s t v m n p e d g =
    sum_rounded f (unlike s t) (m * up e * (n * up d) * down g) v (p * up g * (down e * down d)) (down e * down d * down g)
    (mul-pos (mul-pos (down_pos e) (down_pos d)) (down_pos g))

pub fma_addend : (f : Format) (x y z : Float) → T (finite x) → T (finite y) → T (not (finite z)) → fma f x y z ≡ z
unfolding fma
fma_addend f nan y z a b c = absurd a
fma_addend f (inf s) y z a b c = absurd a
fma_addend f (fin s m e) nan z a b c = absurd b
fma_addend f (fin s m e) (inf t) z a b c = absurd b
fma_addend f (fin s m e) (fin t n d) nan a b c = refl
fma_addend f (fin s m e) (fin t n d) (inf v) a b c = refl
fma_addend f (fin s m e) (fin t n d) (fin v p g) a b c = absurd c

zero_or : (f : Format) (b : Bool) (x z : Float) → cond b nan (add f x z) ≡ add f (cond b nan x) z
unfolding add
zero_or f true x z = refl
zero_or f false x z = refl

pub fma_factor : (f : Format) (x y z : Float) → T (not (finite x && finite y)) → fma f x y z ≡ add f (mul f x y) z
unfolding fma mul add
fma_factor f nan y z h = refl
fma_factor f (inf s) nan z h = refl
fma_factor f (inf s) (inf t) z h = refl
fma_factor f (inf s) (fin t n d) z h = zero_or f (eqb n 0) (inf (unlike s t)) z
fma_factor f (fin s m e) nan z h = refl
fma_factor f (fin s m e) (inf t) z h = zero_or f (eqb m 0) (inf (unlike s t)) z
fma_factor f (fin s m e) (fin t n d) z h = absurd h
