-- Rounding to nearest, ties to even, once for every real number that is given by how its double compares with whole numbers: `units` of the leading
-- digits, moved up by one where the number is past the middle, is the nearest value of the format, and there is one such value. Assumes nothing.
use mathlib.Core.Path.{◌≡◌, refl, sym, ap, ◌∙◌, subst}
use mathlib.Core.Logic.{inl, inr}
use mathlib.Core.Bool.{Bool}
use Prim.Native.Nat.{ℕ, suc, ◌+◌, ◌-◌, ◌*◌, ◌%◌, ◌^◌, ◌≤◌, ◌<◌, Ordering}
use native.Mathlib.Nat.{le_trans, le_of_eq, le_of_lt, le_refl, le_antisymm, lt_irrefl, lt_of_not-le, not-le_of_lt, lt_of_lt_of_le, lt_of_le_of_lt, eq-or-lt_of_le, eq-zero-or-pos, add_comm, mul-le-mul_right, mul-lt-mul_of_pos_right, div-mul-le_self, div-lt_iff_lt-mul}
use lib.Arith.{lt_of_le-ne}
use borrow.Author.Tests.{lt-ltb, le-ltb}
use native.Mathlib.Decide.{dec_le}
use native.Mathlib.Omega.{arith}
use lib.Dec.{T}
use lib.Pow.{pow-lt, pow_pos}
use lib.Ieee.{Float, Format, inf, prec, nearest, units, fits, is_nan}
use lib.Ieee.Fits.{two, kept-lt, nearest-le, odd-fits, inf-fits}
use lib.Ieee.Exact.{units_val}
use lib.Ieee.Nearest.{nearest-ge}
use lib.Ieee.Scale.{overflow}
use Rattle.elementary.specs.Methods.{sign_of}
use Rattle.elementary.specs.Promises.{place, NearestTo}
use Rattle.elementary.proofs.Laws.Ordering.{Cmp}
use Rattle.elementary.proofs.Laws.Places.{InDigits, tail, lead, full, gap, lower, lead_even, lead_next, place_of, sign_of_lem, is_number, digits_of, overflow_digits, place_le, last_digit, infinity_even, same_value}

-- twice the middle of lead * 2 ^ tail and the next
abbrev pub middle : ℕ → ℕ → ℕ
middle p w = (2 * lead p w + 1) * 2 ^ tail p w

pub units_fits : (f : Format) (s : Bool) (q k : ℕ) → q ≤ 2 ^ prec f → q * 2 ^ k < overflow f → T (fits f (units f s q k))
unfolding units
units_fits f s q k a h =
    rw (lt-ltb (q * 2 ^ k) (overflow f) h)
    (odd-fits f (suc (prec f)) s q k (lt_of_le_of_lt a (pow-lt (le_refl (suc (prec f))))) a h)

-- `scale` grows
module _ (scale : ℕ → ℕ) (grows : (a b : ℕ) → a < b → scale a < scale b) where
  scale_le : (a b : ℕ) → a ≤ b → scale a ≤ scale b
  scale_le a b h = elim (eq-or-lt_of_le h) [ inl e ↦ le_of_eq (ap scale e) | inr l ↦ le_of_lt (grows a b l) ]

-- a number between lead * 2 ^ tail and the next
module _
    (f : Format) (w twice : ℕ) (scale : ℕ → ℕ) (grows : (a b : ℕ) → a < b → scale a < scale b)
    (from : scale (2 * (lead (prec f) w * 2 ^ tail (prec f) w)) ≤ twice) (to : twice < scale (2 * (suc (lead (prec f) w) * 2 ^ tail (prec f) w)))
  where
    abbrev p : ℕ
    p = prec f

    abbrev k : ℕ
    k = tail p w

    abbrev q : ℕ
    q = lead p w

    abbrev mid : ℕ
    mid = middle p w

    -- Q * 2 ^ k is no farther from the number than v, and as far only at the middle and with an even Q
    record NoFarther (Q v : ℕ) : Type 0 where
      over : Q * 2 ^ k < v → twice ≤ scale (Q * 2 ^ k + v)
      below : v < Q * 2 ^ k → scale (Q * 2 ^ k + v) ≤ twice
      tie : (v ≡ Q * 2 ^ k → ⊥) → scale (Q * 2 ^ k + v) ≡ twice → (twice ≡ scale mid) × (Q % 2 ≡ 0)

    -- not past the middle: q
    near_q : twice ≤ scale mid → (twice ≡ scale mid → q % 2 ≡ 0) → (v : ℕ) → InDigits p v → NoFarther q v
    near_q h even v d =
        let above : q * 2 ^ k < v → scale mid ≤ scale (q * 2 ^ k + v) = λ l. scale_le scale grows mid (q * 2 ^ k + v) (omega (arith, gap p w (two f) v d l)) in
        let under : v < q * 2 ^ k → scale (q * 2 ^ k + v) < twice = λ l. lt_of_lt_of_le (grows (q * 2 ^ k + v) (2 * (q * 2 ^ k)) (omega arith)) from in
        record {
          over = λ l. le_trans h (above l);
          below = λ l. le_of_lt (under l);
          tie = λ x e.
              let l : q * 2 ^ k < v = lt_of_not-le (λ (l : v ≤ q * 2 ^ k). not-le_of_lt (under (lt_of_le-ne l x)) (le_of_eq (sym e))) in
              let t = le_antisymm h (le_trans (above l) (le_of_eq e)) in
              (t, even t);
        }

    -- not before the middle: the next
    near_next : scale mid ≤ twice → (twice ≡ scale mid → suc q % 2 ≡ 0) → (v : ℕ) → InDigits p v → NoFarther (suc q) v
    near_next h even v d =
        let above : suc q * 2 ^ k < v → twice < scale (suc q * 2 ^ k + v) = λ l. lt_of_lt_of_le to (scale_le scale grows (2 * (suc q * 2 ^ k)) (suc q * 2 ^ k + v) (omega arith)) in
        let under : v < suc q * 2 ^ k → scale (suc q * 2 ^ k + v) ≤ scale mid = λ l. scale_le scale grows (suc q * 2 ^ k + v) mid (omega (arith, lower p w (two f) v d l)) in
        record {
          over = λ l. le_of_lt (above l);
          below = λ l. le_trans (under l) h;
          tie = λ x e.
              let l : v < suc q * 2 ^ k = lt_of_not-le (λ (l : suc q * 2 ^ k ≤ v). not-le_of_lt (above (lt_of_le-ne l (λ y. x (sym y)))) (le_of_eq e)) in
              let t = le_antisymm (le_trans (le_of_eq (sym e)) (under l)) h in
              (t, even t);
        }

    near : (o : Ordering) → Cmp o twice (scale mid) → (v : ℕ) → InDigits p v → NoFarther (nearest q o) v
    near Ordering.lt c v d = near_q (le_of_lt c) (λ e. absurd (lt_irrefl twice (lt_of_lt_of_le c (le_of_eq (sym e))))) v d
    near Ordering.gt c v d = near_next (le_of_lt c) (λ e. absurd (lt_irrefl twice (lt_of_le_of_lt (le_of_eq e) c))) v d
    near Ordering.eq c v d =
        elim (eq-zero-or-pos (q % 2)) [
          | inl z ↦ subst (λ (x : ℕ). NoFarther x v) (omega arith) (near_q (le_of_eq c) (λ e. z) v d)
          | inr z ↦ subst (λ (x : ℕ). NoFarther x v) (omega arith) (near_next (le_of_eq (sym c)) (λ e. omega arith) v d)
        ]

    module _ (s : Bool) (o : Ordering) (c : Cmp o twice (scale mid)) where
      abbrev Q : ℕ
      Q = nearest q o

      close : (y : Float) → T (fits f y) → NoFarther Q (place f y)
      close y u = near o c (place f y) (digits_of f y u)

      few : Q ≤ 2 ^ p
      few = le_trans (nearest-le q o) (kept-lt p w)

      lots : 0 < k → 2 ^ (p - 1) ≤ Q
      lots h = le_trans (full p w (two f) h) (nearest-ge q o)

      -- where it is at no middle, there is no tie
      pub no_tie : Q * 2 ^ k < overflow f → (twice ≡ scale mid → ⊥) → (y : Float) → T (fits f y) → (place f y ≡ place f (units f s Q k) → ⊥) → scale (place f (units f s Q k) + place f y) ≡ twice → ⊥
      no_tie h n y u x e =
          let at = place_of f (units f s Q k) s (Q * 2 ^ k) (units_val f s Q k h) in
          n ((close y u).tie (rw at at x) (rw at at e)).0

      within : Q * 2 ^ k < overflow f → NearestTo f s twice scale (units f s Q k)
      within h =
          let r = units f s Q k in
          let v = units_val f s Q k h in
          let at = place_of f r s (Q * 2 ^ k) v in
          record {
            of_format = units_fits f s Q k few h;
            number = is_number r s _ _ v;
            sign = sign_of_lem r s _ _ v;
            from_above = λ y u. rw at (close y u).over;
            from_below = λ y u. rw at (close y u).below;
            even = λ y u x e.
                rw (last_digit f r (is_number r s _ _ v), at) (lead_even p Q k (two f) few lots ((close y u).tie (rw at at x) (rw at at e)).1);
          }

      -- past the largest value: the infinity
      overflow_is : overflow f ≤ Q * 2 ^ k → NearestTo f s twice scale (inf s)
      unfolding place is_nan sign_of
      overflow_is h = record {
        of_format = inf-fits f s;
        number = tt;
        sign = refl;
        from_above = λ y u l. absurd (not-le_of_lt l (place_le f y u));
        from_below = λ y u l. elim (dec_le (overflow f) (q * 2 ^ k)) [
          | yes g ↦ le_trans (scale_le scale grows (overflow f + place f y) (2 * (q * 2 ^ k)) (omega arith)) from
          | no g ↦
              let m : suc q * 2 ^ k ≤ overflow f = gap p w (two f) (overflow f) (overflow_digits f) (lt_of_not-le g) in
              let e : Q * 2 ^ k ≡ overflow f = le_antisymm (le_trans (mul-le-mul_right (2 ^ k) (nearest-le q o)) m) h in
              rw (← e) ((close y u).below (rw e l))
        ];
        even = λ y u x e. infinity_even f s;
      }

      pub units_nearest : NearestTo f s twice scale (units f s Q k)
      unfolding units
      units_nearest = elim (dec_le (overflow f) (Q * 2 ^ k)) [
        | yes h ↦ rw (le-ltb (Q * 2 ^ k) (overflow f) h) (overflow_is h)
        | no h ↦ within (lt_of_not-le h)
      ]

-- ---- of two such values neither is below the other. Else the number would be at their middle, both would end in 0, and no value would lie between them:
-- but of two neighbours one ends in 1.
module _ (f : Format) (s : Bool) (twice : ℕ) (scale : ℕ → ℕ) (grows : (a b : ℕ) → a < b → scale a < scale b) where
  ends : (r q : Float) → NearestTo f s twice scale r → T (fits f q) → (place f q ≡ place f r → ⊥) → scale (place f r + place f q) ≡ twice → lead (prec f) (place f r) % 2 ≡ 0
  ends r q a t x e = sym (last_digit f r a.number) ∙ a.even q t x e

  no_two : (r q : Float) → NearestTo f s twice scale r → NearestTo f s twice scale q → place f r < place f q → ⊥
  no_two r q a b l =
      let m = lead (prec f) (place f r) in
      let k = tail (prec f) (place f r) in
      let next = suc m * 2 ^ k in
      let here : place f r ≡ m * 2 ^ k =
      le_antisymm (lower (prec f) (place f r) (two f) (place f r) (digits_of f r a.of_format) ((div-lt_iff_lt-mul (pow_pos k)).0 (le_refl (suc m))))
      (div-mul-le_self (place f r) (2 ^ k)) in
      let after : next ≤ place f q = gap (prec f) (place f r) (two f) (place f q) (digits_of f q b.of_format) (rw (← here) l) in
      let tie : scale (place f r + place f q) ≡ twice = le_antisymm (rw (add_comm (place f r) (place f q)) (b.from_below r a.of_format l)) (a.from_above q b.of_format l) in
      elim (eq-or-lt_of_le after) [
        | inl e ↦
            lead_next (prec f) (place f r) (two f) (ends r q a b.of_format (λ x. omega arith) tie)
            (rw e (ends q r b a.of_format (λ x. omega arith) (rw (add_comm (place f q) (place f r)) tie)))
        | inr h ↦
            let u : next < overflow f = lt_of_lt_of_le h (place_le f q b.of_format) in
            let e : place f (units f s (suc m) k) ≡ next = place_of f (units f s (suc m) k) s next (units_val f s (suc m) k u) in
            let i = a.from_above (units f s (suc m) k) (units_fits f s (suc m) k (kept-lt (prec f) (place f r)) u) (rw e (lt_of_le_of_lt (le_of_eq here) (mul-lt-mul_of_pos_right (le_refl (suc m)) (pow_pos k)))) in
            not-le_of_lt (lt_of_lt_of_le (grows (place f r + next) (place f r + place f q) (omega arith)) (le_of_eq tie)) (rw e at i)
      ]

  pub nearest_one : (r q : Float) → NearestTo f s twice scale r → NearestTo f s twice scale q → r ≡ q
  nearest_one r q a b =
      same_value f r q a.of_format b.of_format a.number b.number (a.sign ∙ sym b.sign)
      (omega (arith, no_two r q a b, no_two q r b a))
