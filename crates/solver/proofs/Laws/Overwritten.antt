-- Bytes written into a list: what two stores, one run behind the other, leave is what one store of both runs leaves; and what stays. Theorems.
use mathlib.Core.Path.{◌≡◌, sym, ap, ◌∙◌}
use mathlib.Core.List.{List, [], ◌∷◌, ◌++◌, append_assoc}
use Prim.Native.Nat.{ℕ, ◌+◌, ◌-◌, ◌≤◌}
use native.Mathlib.Nat.{add_assoc}
use native.Mathlib.Numerals.{add-one}
use native.Mathlib.Omega.{arith}
use lib.ListN.{length, take, drop, set, length-append, length-drop, take-append-drop}
use lib.Seq.{length-take-le, take_at, drop_at, drop-drop, drop-append-add, set_split}
use Rattle.solver.specs.LittleEndian.{overwritten}

module _ (at : ℕ) (xs ys old : List ℕ) (room : at ≤ length old) where
  front_length : length (take at old ++ xs) ≡ at + length xs
  front_length = length-append (take at old) xs ∙ rw (length-take-le at old room)

  pub overwritten_twice : overwritten (at + length xs) ys (overwritten at xs old) ≡ overwritten at (xs ++ ys) old
  overwritten_twice =
      let front : List ℕ = take at old ++ xs in
      let back : List ℕ = drop (at + length xs) old in
      let ahead : take (at + length xs) (front ++ back) ≡ front = take_at front back (at + length xs) front_length in
      let behind : drop (at + length xs + length ys) (front ++ back) ≡ drop (at + length xs + length ys) old =
      rw (← drop-drop (length ys) (at + length xs) (front ++ back), drop_at front back (at + length xs) front_length) (drop-drop (length ys) (at + length xs) old)
      in rw (← append_assoc (take at old) xs back, ahead, behind, length-append xs ys, ← add_assoc at (length xs) (length ys), append_assoc xs ys, append_assoc (take at old) xs)

-- the run xs stands from `at` on, and `end` is the place behind it
abbrev pub Put : ℕ → List ℕ → List ℕ → ℕ → List ℕ → Type 0
Put at xs old end new = (end ≡ at + length xs) × (new ≡ overwritten at xs old)

pub put_both : (at : ℕ) (xs ys old : List ℕ) (end : ℕ) (mid : List ℕ) (last : ℕ) (new : List ℕ) → at ≤ length old → Put at xs old end mid → Put end ys mid last new → Put at (xs ++ ys) old last new
put_both at xs ys old end mid last new room p q =
    (rw (q.0, p.0, length-append xs ys, ← add_assoc at (length xs) (length ys)), q.1 ∙ rw (p.1, p.0) (overwritten_twice at xs ys old room))

pub put_none : (at : ℕ) (old : List ℕ) → Put at [] old at old
put_none at old = let z : at + 0 ≡ at = omega arith in (omega arith, rw (z, take-append-drop))

pub put_one : (at byte : ℕ) (old : List ℕ) → at + 1 ≤ length old → set old at byte ≡ overwritten at (byte ∷ []) old
put_one at byte old room = rw add-one (set_split old at byte (omega arith))

-- ---- what is overwritten keeps its length, and what stands behind it

module _ (at : ℕ) (bs old : List ℕ) where
  pub length_overwritten : at + length bs ≤ length old → length (overwritten at bs old) ≡ length old
  length_overwritten room = rw (length-append, length-append, length-drop, length-take-le at old (omega arith)) (omega arith)

  pub drop_overwritten : (n : ℕ) → at + length bs ≤ n → n ≤ length old → drop n (overwritten at bs old) ≡ drop n old
  drop_overwritten n h room =
      let front : List ℕ = take at old ++ bs in
      let rest : List ℕ = drop (at + length bs) old in
      let long = front_length at bs [] old (omega arith) in
      let there : n ≡ length front + (n - length front) = rw long (omega arith) in
      let back : at + length bs + (n - length front) ≡ n = rw long (omega arith) in
      ap (λ zs. drop n zs) (sym (append_assoc (take at old) bs rest)) ∙ ap (λ j. drop j (front ++ rest)) there ∙ drop-append-add front rest (n - length front) ∙ drop-drop (n - length front) (at + length bs) old ∙ ap (λ j. drop j old) back
