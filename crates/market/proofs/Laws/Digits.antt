-- The halves of a packed price: their digits, one behind the other, and a byte's two. Assumes nothing.
use mathlib.Core.Path.{◌≡◌, refl, ap, ◌∙◌}
use mathlib.Core.Bool.{Bool, true, false, cond, ◌&&◌}
use mathlib.Core.List.{List, [], ◌∷◌}
use Prim.Native.Nat.{ℕ, zero, suc, ◌+◌, ◌*◌, ◌/◌, ◌%◌, ◌^◌, ◌≤◌, ◌<◌}
use native.Mathlib.Nat.{pow-suc}
use Rattle.std.proofs.Math.Arith.{mod-mul}
use native.Mathlib.Omega.{arith}
use borrow.Author.Tests.{le-ltb, lt-ltb, ltb-true, ltb-false, eqb-true}
use lib.Dec.{ltb, eqb}
use lib.ListN.{length}
use Rattle.std.specs.Prelude.{Result, Ok, Err}
use Rattle.market.specs.declared.packed.Units.{Units}
use Rattle.market.specs.declared.refusal.Refusal.{Refusal}
use Rattle.market.specs.declared.refusal.Refusal.TheVariants.{Packed}
use Rattle.market.specs.Packed.{halves, signed_units, units_behind, units_in, digits_before, bytes_from, packed_of}
use Rattle.market.specs.Promises.Packed.{AreUnits}
use Rattle.market.specs.Inside.Packed.{digit_behind}

-- ---- a digit
pub digit_of : (n d k : ℕ) → digit_behind n d ≡ Ok k → (d ≤ 9) × (k ≡ n * 10 + d)
digit_of n d k e = go (ltb 9 d) refl e
  where
    go : (b : Bool) → ltb 9 d ≡ b → ◌≡◌ {A = Result ℕ Refusal} (cond b (Err Packed) (Ok (n * 10 + d))) (Ok k) → (d ≤ 9) × (k ≡ n * 10 + d)
    go true h i = cc
    go false h i = (omega (arith, ltb-false 9 d h), cc)

pub no_digit : (n d : ℕ) (refusal : Refusal) → digit_behind n d ≡ Err refusal → (9 < d) × (refusal ≡ Packed)
no_digit n d refusal e = go (ltb 9 d) refl e
  where
    go : (b : Bool) → ltb 9 d ≡ b → ◌≡◌ {A = Result ℕ Refusal} (cond b (Err Packed) (Ok (n * 10 + d))) (Err refusal) → (9 < d) × (refusal ≡ Packed)
    go true h i = (ltb-true 9 d h, cc)
    go false h i = cc

-- where the lower half of a byte that is not the last one is no digit
pub lower_refused : (n b : ℕ) (bs : List ℕ) (k : ℕ) → digit_behind n (b / 16) ≡ Ok k → (c : ℕ) (cs : List ℕ) → bs ≡ c ∷ cs
    → (refusal : Refusal) → digit_behind k (b % 16) ≡ Err refusal → Err refusal ≡ units_behind n (halves (b ∷ bs))
lower_refused n b bs k upper c cs more refusal e =
    let d = digit_of n (b / 16) k upper in
    let l = no_digit k (b % 16) refusal e in
    rw (more, le-ltb 9 (b / 16) d.0, lt-ltb 9 (b % 16) l.0, l.1) refl

-- ---- 15 digits and a sign
abbrev sign_half : Units → ℕ
sign_half u = cond u.minus 0xD 0xC

-- what is accepted behind n, which has j digits: k more, and the sign
record Accepted (j k n : ℕ) (hs : List ℕ) (u : Units) : Type 0 where
  digits : u.size < 10 ^ (j + k)
  minus : u.minus ≡ true → 0 < u.size
  same : digits_before (j + k) u.size (sign_half u ∷ []) ≡ digits_before j n hs

signed : (j n sign : ℕ) (u : Units) → n < 10 ^ j → signed_units sign n ≡ Ok u → Accepted j 0 n (sign ∷ []) u
signed j n sign u h e = go (eqb sign 0xC) (eqb sign 0xD) (ltb 0 n) refl refl refl e
  where
    zero_more : j + 0 ≡ j
    zero_more = omega arith

    go : (c d p : Bool) → eqb sign 0xC ≡ c → eqb sign 0xD ≡ d → ltb 0 n ≡ p
        → ◌≡◌ {A = Result Units Refusal} (cond c (Ok (record { minus = false; size = n })) (cond (d && p) (Ok (record { minus = true; size = n })) (Err Packed))) (Ok u)
        → Accepted j 0 n (sign ∷ []) u
    go true d p x y z i =
        let same : u ≡ record { minus = false; size = n } = cc in
        let s : sign ≡ 0xC = eqb-true sign 0xC x in
        rw (same, s) (record { digits = rw zero_more h; minus = λ k. cc; same = rw zero_more refl })
    go false true true x y z i =
        let same : u ≡ record { minus = true; size = n } = cc in
        let s : sign ≡ 0xD = eqb-true sign 0xD y in
        rw (same, s) (record { digits = rw zero_more h; minus = λ k. ltb-true 0 n z; same = rw zero_more refl })
    go false true false x y z i = cc
    go false false p x y z i = cc

-- a digit more before the others
digit_more : (j n d : ℕ) → d ≤ 9 → (hs : List ℕ) → digits_before (suc j) (n * 10 + d) hs ≡ digits_before j n (d ∷ hs)
digit_more j n d h hs =
    let q : (n * 10 + d) / 10 ≡ n = omega arith in
    let r : (n * 10 + d) % 10 ≡ d = omega arith in
    rw (q, r) refl

digit_first : (d : ℕ) (rest : Result Units Refusal) (u : Units) → cond (ltb 9 d) (Err Packed) rest ≡ Ok u → (d ≤ 9) × (rest ≡ Ok u)
digit_first d rest u e = go (ltb 9 d) refl e
  where
    go : (b : Bool) → ltb 9 d ≡ b → cond b (Err Packed) rest ≡ Ok u → (d ≤ 9) × (rest ≡ Ok u)
    go true x i = cc
    go false x i = (ltb-false 9 d x, i)

accepted : (j k n : ℕ) (hs : List ℕ) (u : Units) → length hs ≡ suc k → n < 10 ^ j → units_behind n hs ≡ Ok u → Accepted j k n hs u
accepted j k n [] u l h e = cc
accepted j zero n (sign ∷ []) u l h e = signed j n sign u h e
accepted j (suc k) n (sign ∷ []) u l h e = absurd (omega arith)
accepted j zero n (d ∷ s ∷ hs) u l h e = absurd (omega arith)
accepted j (suc k) n (d ∷ s ∷ hs) u l h e =
    let f = digit_first d (units_behind (n * 10 + d) (s ∷ hs)) u e in
    let room : n * 10 + d < 10 ^ suc j = rw (pow-suc 10 j) (omega (arith, f.0)) in
    let a = accepted (suc j) k (n * 10 + d) (s ∷ hs) u (omega arith) room f.1 in
    let places : suc j + k ≡ j + suc k = omega arith in
    record {
      digits = rw (← places) a.digits;
      minus = a.minus;
      same = rw (← places) (a.same ∙ digit_more j n d f.0 (s ∷ hs));
    }

-- ---- what refuses them
other_sign : (sign n : ℕ) (refusal : Refusal) → signed_units sign n ≡ Err refusal → refusal ≡ Packed
other_sign sign n refusal e = go _ _ e
  where
    go : (c d : Bool)
        → ◌≡◌ {A = Result Units Refusal} (cond c (Ok (record { minus = false; size = n })) (cond d (Ok (record { minus = true; size = n })) (Err Packed))) (Err refusal)
        → refusal ≡ Packed
    go true d i = cc
    go false true i = cc
    go false false i = cc

refused_by : (n : ℕ) (hs : List ℕ) (refusal : Refusal) → units_behind n hs ≡ Err refusal → refusal ≡ Packed
refused_by n [] refusal e = cc
refused_by n (sign ∷ []) refusal e = other_sign sign n refusal e
refused_by n (d ∷ h ∷ hs) refusal e = first _ _ (refused_by (n * 10 + d) (h ∷ hs) refusal) e
  where
    first : (b : Bool) (rest : Result Units Refusal) → (rest ≡ Err refusal → refusal ≡ Packed) → cond b (Err Packed) rest ≡ Err refusal → refusal ≡ Packed
    first true rest h i = cc
    first false rest h i = h i

pub refused_bytes : (packed : List ℕ) (refusal : Refusal) → units_in packed ≡ Err refusal → refusal ≡ Packed
unfolding units_in
refused_bytes packed refusal e = refused_by 0 (halves packed) refusal e

-- ---- 8 bytes
length_halves : (bs : List ℕ) → length (halves bs) ≡ length bs * 2
length_halves [] = refl
length_halves (b ∷ bs) = omega (arith, length_halves bs)

bytes_back : (bs : List ℕ) → bytes_from (halves bs) ≡ bs
bytes_back [] = refl
bytes_back (b ∷ bs) = let e : b / 16 * 16 + b % 16 ≡ b = omega arith in rw (e, bytes_back bs) refl

pub of_bytes : (packed : List ℕ) (u : Units) → length packed ≡ 8 → units_in packed ≡ Ok u → AreUnits u × (packed_of u ≡ packed)
unfolding units_in packed_of
of_bytes packed u l e =
    let a = accepted 0 15 0 (halves packed) u (omega (arith, length_halves packed, l)) (omega arith) e in
    (record { digits = a.digits; minus = a.minus }, ap bytes_from a.same ∙ bytes_back packed)

-- ---- and back
-- pairs of halves, the lower one of four bits
AreHalves : List ℕ → Type 0
AreHalves [] = Unit
AreHalves (h ∷ []) = ⊥
AreHalves (h ∷ l ∷ hs) = (l < 16) × AreHalves hs

halves_back : (hs : List ℕ) → AreHalves hs → halves (bytes_from hs) ≡ hs
unfolding AreHalves
halves_back [] p = refl
halves_back (h ∷ []) p = absurd p
halves_back (h ∷ l ∷ hs) p =
    let s : l < 16 = p.0 in
    let q : (h * 16 + l) / 16 ≡ h = omega (arith, s) in
    let r : (h * 16 + l) % 16 ≡ l = omega (arith, s) in
    rw (q, r, halves_back hs p.1) refl

pow_pos_10 : (k : ℕ) → 0 < 10 ^ k
pow_pos_10 zero = omega arith
pow_pos_10 (suc k) = rw (pow-suc 10 k) (omega (arith, pow_pos_10 k))

-- the digits of m behind n
units_are : (k n m h : ℕ) (hs : List ℕ) → units_behind n (digits_before k m (h ∷ hs)) ≡ units_behind (n * 10 ^ k + m % 10 ^ k) (h ∷ hs)
units_are zero n m h hs = let e : n * 1 + m % 1 ≡ n = omega arith in rw e refl
units_are (suc k) n m h hs =
    let d : m % 10 ≤ 9 = omega arith in
    let t = 10 ^ k in
    let e : (n * t + m / 10 % t) * 10 + m % 10 ≡ n * 10 ^ suc k + m % 10 ^ suc k = rw (pow-suc 10 k, mod-mul m {m = t} {c = 10} (pow_pos_10 k) (omega arith)) (omega arith) in
    units_are k n (m / 10) (m % 10) (h ∷ hs) ∙ rw (le-ltb 9 (m % 10) d, e) refl

-- those that are written
halves_of : (u : Units) → List ℕ
halves_of u = digits_before 15 u.size (sign_half u ∷ [])

small : (n : ℕ) → n % 10 < 16
small n = omega arith

sign_small : (u : Units) → sign_half u < 16
sign_small u = go u.minus
  where
    go : (b : Bool) → cond b 0xD 0xC < 16
    go true = omega arith
    go false = omega arith

halves_are : (u : Units) → AreHalves (halves_of u)
unfolding AreHalves halves_of
halves_are u = (small _, (small _, (small _, (small _, (small _, (small _, (small _, (sign_small u, tt))))))))

sign_read : (u : Units) → (u.minus ≡ true → 0 < u.size) → signed_units (sign_half u) u.size ≡ Ok u
sign_read u h = go u.minus u.size refl h
  where
    go : (b : Bool) (n : ℕ) → b ≡ u.minus → (b ≡ true → 0 < n) → signed_units (cond b 0xD 0xC) n ≡ Ok (record { minus = b; size = n })
    go true n e h = rw (lt-ltb 0 n (h refl)) refl
    go false n e h = refl

pub of_units : (u : Units) → AreUnits u → units_in (packed_of u) ≡ Ok u
unfolding units_in packed_of halves_of
of_units u a =
    let e : 0 * 10 ^ 15 + u.size % 10 ^ 15 ≡ u.size = omega (arith, a.digits) in
    ap (units_behind 0) (halves_back (halves_of u) (halves_are u)) ∙ units_are 15 0 u.size (sign_half u) [] ∙ ap (signed_units (sign_half u)) e ∙ sign_read u a.minus

pub length_packed : (u : Units) → length (packed_of u) ≡ 8
unfolding packed_of
length_packed u = refl
