-- The lines of a block that ends with a whole record, and then those of what follows, are the lines of both. Theorems.
use mathlib.Core.Path.{◌≡◌, refl}
use mathlib.Core.List.{List, [], ◌∷◌, ◌++◌, append_assoc}
use Prim.Native.Nat.{ℕ, zero, suc, ◌+◌, ◌*◌, ◌/◌, ◌≤◌}
use native.Mathlib.Omega.{arith}
use lib.ListN.{length, take, drop, length-append, length-drop}
use lib.Seq.{take-append-le, drop-append-le}
use Rattle.elementary.specs.RuleSets.{rule_set_0}
use Rattle.solver.specs.Listing.{line_of}
use Rattle.relist.specs.Lines.{lines_by, lines_of}

pub lines_none : (i : ℕ) (bytes : List ℕ) → length bytes ≡ 0 → lines_of i bytes ≡ []
unfolding lines_of lines_by
lines_none i bytes e = rw e

pub lines_more : (i : ℕ) (bytes : List ℕ) → 1 ≤ length bytes → lines_of i bytes ≡ line_of rule_set_0 i (take 64 bytes) ++ lines_of (i + 1) (drop 64 bytes)
unfolding lines_of lines_by
lines_more i bytes h =
    let e : (length bytes + 63) / 64 ≡ suc ((length (drop 64 bytes) + 63) / 64) = simp length-drop (omega arith) in
    rw e

pub lines_append : (k i : ℕ) (xs ys : List ℕ) → length xs ≡ 64 * k → lines_of i (xs ++ ys) ≡ lines_of i xs ++ lines_of (i + k) ys
lines_append zero i [] ys e = let z : i + 0 ≡ i = omega arith in rw (lines_none i [] refl, z)
lines_append zero i (x ∷ xs) ys e = absurd (omega arith)
lines_append (suc k) i xs ys e =
    let long : 64 ≤ length xs = omega arith in
    let some : 1 ≤ length (xs ++ ys) = simp length-append (omega arith) in
    let rest : length (drop 64 xs) ≡ 64 * k = simp length-drop (omega arith) in
    let next : i + suc k ≡ i + 1 + k = omega arith in
    rw (
      lines_more i (xs ++ ys) some,
      take-append-le 64 xs ys long,
      drop-append-le 64 xs ys long,
      lines_append k (i + 1) (drop 64 xs) ys rest,
      lines_more i xs (omega arith),
      append_assoc,
      next,
    )
