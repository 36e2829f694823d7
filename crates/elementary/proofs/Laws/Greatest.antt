-- `floor_of f x`, for a finite x of the format f, is exact, and is the greatest whole number not above x. Assumes nothing.
use mathlib.Core.Path.{◌≡◌, refl, sym, ◌∙◌}
use mathlib.Core.Bool.{Bool, true, false, not}
use Prim.Native.Nat.{ℕ, zero, suc, ◌+◌, ◌-◌, ◌*◌, ◌/◌, ◌^◌, ◌≤◌, ◌<◌}
use native.Mathlib.Nat.{le_refl, le_trans, le_antisymm, lt_of_le_of_lt, lt_of_not-le, le_of_suc-le-suc, mul_assoc, mul-one, suc-mul, mul-le-mul_right, mul-lt-mul_of_pos_right, lt_of_mul-lt-mul_right, le-mul_of_pos_right, div-mul-le_self, div-lt_iff_lt-mul}
use native.Mathlib.Omega.{arith}
use lib.IntN.{ℤ, pos, negsuc}
use lib.Dec.{T}
use lib.Pow.{pow-add, pow_pos}
use lib.Ieee.{Float, nan, inf, fin, Format, prec, low, up, down, round, fits}
use lib.Ieee.Fits.{down_pos, round-fits, nan-fits, inf-fits}
use lib.Ieee.Exact.{HasValue}
use lib.Ieee.Back.{round_whole, whole_unique}
use lib.Ieee.Scale.{finite}
use Rattle.elementary.specs.Methods.{sign_of}
use Rattle.elementary.proofs.Laws.Order.{Le, le→fractions, fractions→le}
use Rattle.elementary.proofs.Laws.Held.{holds}
use Rattle.elementary.specs.Floor.{floor_size, floor_of}
use Rattle.elementary.specs.Promises.{GreatestWhole}
use Rattle.elementary.proofs.Laws.Places.{sign_of_lem, exact_under}

-- ---- n is the size of the greatest whole number not above ±a / c
abbrev pub IsFloor : Bool → ℕ → ℕ → ℕ → Type 0
IsFloor false a c n = (n * c ≤ a) × (a < suc n * c)
IsFloor true a c n = (a ≤ n * c) × (n * c < a + c)

pub size_floor : (s : Bool) (a c : ℕ) → 0 < c → IsFloor s a c (floor_size s a c)
size_floor false a c p = (div-mul-le_self a c, (div-lt_iff_lt-mul p).0 (le_refl (suc (a / c))))
size_floor true a c p =
    let n = (a + (c - 1)) / c in
    let lo = div-mul-le_self (a + (c - 1)) c in
    let hi : a + (c - 1) < suc n * c = (div-lt_iff_lt-mul p).0 (le_refl (suc n)) in
    (omega (arith, suc-mul n c), omega arith)

-- fractions of the same size have one such number
floor_size_unique : (s : Bool) (a c b d n m : ℕ) → 0 < c → 0 < d → a * d ≡ b * c → IsFloor s a c n → IsFloor s b d m → n ≡ m
floor_size_unique s a c b d n m C D e h k = le_antisymm (not_above s a c b d n m C D e h k) (not_above s b d a c m n D C (sym e) k h)
  where
    not_above : (s : Bool) (a c b d n m : ℕ) → 0 < c → 0 < d → a * d ≡ b * c → IsFloor s a c n → IsFloor s b d m → n ≤ m
    not_above false a c b d n m C D e h k = le_of_suc-le-suc (lt_of_mul-lt-mul_right (c * d) {m = n} {n = suc m} (omega (arith, mul-le-mul_right d h.0, mul-lt-mul_of_pos_right k.1 C)))
    not_above true a c b d n m C D e h k = le_of_suc-le-suc (lt_of_mul-lt-mul_right (c * d) {m = n} {n = suc m} (omega (arith, mul-lt-mul_of_pos_right h.1 D, mul-le-mul_right c k.0)))

pub whole_floor : (s : Bool) (a : ℕ) → IsFloor s a 1 a
whole_floor false a = (omega arith, omega arith)
whole_floor true a = (omega arith, omega arith)

-- the size is at most a
floor_size_le : (s : Bool) (a c n : ℕ) → 0 < c → IsFloor s a c n → n ≤ a
floor_size_le false a c n p h = le_trans (le-mul_of_pos_right n p) h.0
floor_size_le true a c n p h =
    omega (arith, lt_of_not-le {n = suc a} {m = n} (λ (g : suc a ≤ n). omega (arith, mul-le-mul_right c g, suc-mul a c, le-mul_of_pos_right a p)))

-- ---- `round` changes nothing
module _ (f : Format) (s : Bool) where
  whole_size : (a : ℕ) → floor_size s a 1 ≡ a
  whole_size a = floor_size_unique s a 1 a 1 (floor_size s a 1) a (omega arith) (omega arith) refl (size_floor s a 1 (omega arith)) (whole_floor s a)

  small_exact : (a c : ℕ) → 0 < c → a ≤ 2 ^ prec f → HasValue (round f s (floor_size s a c) 1) s (floor_size s a c) 1
  small_exact a c p l = round_whole f s (floor_size s a c) (le_trans (floor_size_le s a c (floor_size s a c) p (size_floor s a c p)) l)

  floor_exact : (m : ℕ) (e : ℤ) → T (fits f (fin s m e)) → HasValue (floor_of f (fin s m e)) s (floor_size s (m * up e) (down e)) 1
  unfolding floor_of
  floor_exact zero e h = small_exact (0 * up e) (down e) (down_pos e) (omega arith)
  floor_exact (suc m) (pos i) h =
      let z = holds f s m (pos i) h in
      rw (whole_size (suc m * 2 ^ i))
      (exact_under f s (suc m * 2 ^ i) 1 (suc m) (i + low f) (omega arith) z.0 z.2 (rw (pow-add 2 i (low f), mul-one) (mul_assoc (suc m) (2 ^ i) (2 ^ low f))))
  floor_exact (suc m) (negsuc i) h = small_exact (suc m * 1) (2 ^ suc i) (pow_pos (suc i)) (omega (arith, (holds f s m (negsuc i) h).0))

-- the same of any fraction that x equals
pub floor_value : (f : Format) (x : Float) (s : Bool) (a c n : ℕ) → T (fits f x) → 0 < c → HasValue x s a c → IsFloor s a c n → HasValue (floor_of f x) s n 1
floor_value f nan s a c n h p v k = absurd v
floor_value f (inf t) s a c n h p v k = absurd v
floor_value f (fin t m e) s a c n h p v k =
    let same = floor_size_unique s (m * up e) (down e) a c (floor_size s (m * up e) (down e)) n (down_pos e) p v.1 (size_floor s (m * up e) (down e) (down_pos e)) k in
    rw (v.0, ← same) (floor_exact f s m e (rw v.0 at h))

pub floor_fits : (f : Format) (x : Float) → T (fits f (floor_of f x))
unfolding floor_of
floor_fits f nan = nan-fits f
floor_fits f (inf s) = inf-fits f s
floor_fits f (fin s m e) = round-fits f s (floor_size s (m * up e) (down e)) 1

-- ---- the theorem
floor_size_below : (s : Bool) (a c n : ℕ) → IsFloor s a c n → Le s (n * c) s a
floor_size_below false a c n h = h.0
floor_size_below true a c n h = h.0

floor_size_greatest : (t s : Bool) (k a c n : ℕ) → 0 < c → IsFloor s a c n → Le t (k * c) s a → Le t k s n
floor_size_greatest false false k a c n p h l = omega (arith, lt_of_mul-lt-mul_right c {m = k} {n = suc n} (lt_of_le_of_lt l h.1))
floor_size_greatest false true k a c n p h l = (omega (arith, le-mul_of_pos_right k p), omega (arith, floor_size_le true a c n p h))
floor_size_greatest true false k a c n p h l = tt
floor_size_greatest true true k a c n p h l = omega (arith, lt_of_mul-lt-mul_right c {m = n} {n = suc k} (omega (arith, suc-mul k c)))

pub floor_greatest : (f : Format) (x : Float) → T (fits f x) → T (finite x) → GreatestWhole f x (floor_of f x)
unfolding floor_of sign_of
floor_greatest f nan h t = absurd t
floor_greatest f (inf s) h t = absurd t
floor_greatest f (fin s m e) h t =
    let x = fin s m e in
    let a = m * up e in
    let c = down e in
    let n = floor_size s a c in
    let r = round f s n 1 in
    let k : IsFloor s a c n = size_floor s a c (down_pos e) in
    let v : HasValue r s n 1 = floor_exact f s m e h in
    record {
      of_format = floor_fits f x;
      whole = (s, n, v);
      sign = sign_of_lem r s n 1 v;
      not_above = fractions→le s s n a 1 c (omega arith) (down_pos e) r x v (refl, refl) (rw (mul-one a) (floor_size_below s a c n k));
      greatest = λ y w l.
          fractions→le w.0 s w.1 n 1 1 (omega arith) (omega arith) y r w.2 v
          (rw (mul-one w.1, mul-one n) (floor_size_greatest w.0 s w.1 a c n (down_pos e) k
          (rw (mul-one a) at (le→fractions w.0 s w.1 a 1 c (omega arith) (down_pos e) y x w.2 (refl, refl) l))));
    }

level : (s : Bool) (n m : ℕ) → Le s (n * 1) s (m * 1) → Le s (m * 1) s (n * 1) → n ≡ m
level false n m g h = omega arith
level true n m g h = omega arith

-- There is only one such value, so `GreatestWhole` says all of `floor_of` at a finite x.
pub greatest_unique : (f : Format) (x q r : Float) → GreatestWhole f x q → GreatestWhole f x r → q ≡ r
greatest_unique f x q r a b =
    let v = a.whole.2 in
    let w = b.whole.2 in
    let signs : a.whole.0 ≡ b.whole.0 = sym (sign_of_lem q _ _ 1 v) ∙ a.sign ∙ sym b.sign ∙ sign_of_lem r _ _ 1 w in
    let up = le→fractions _ _ _ _ 1 1 (omega arith) (omega arith) q r v w (b.greatest q a.whole a.not_above) in
    let down = le→fractions _ _ _ _ 1 1 (omega arith) (omega arith) r q w v (a.greatest r b.whole b.not_above) in
    let sizes = level b.whole.0 a.whole.1 b.whole.1 (rw signs at up) (rw signs at down) in
    whole_unique f q r b.whole.0 b.whole.1 a.of_format b.of_format (rw (← signs, ← sizes) v) w

pub floor_other : (f : Format) (x : Float) → T (not (finite x)) → floor_of f x ≡ x
unfolding floor_of
floor_other f nan h = refl
floor_other f (inf s) h = refl
floor_other f (fin s m e) h = absurd h
