-- A line put into the part of a buffer from a place on stands at that place of the buffer. Assumes nothing.
use mathlib.Core.Path.{◌≡◌}
use mathlib.Core.List.{List, [], append-nil}
use Prim.Native.Nat.{ℕ, ◌+◌, ◌-◌, ◌≤◌}
use native.Mathlib.Nat.{le_refl, zero-add}
use native.Mathlib.Omega.{arith}
use lib.ListN.{length, drop, length-drop, drop_of_length-le}
use lib.Seq.{take_all, drop-drop}
use borrow.Rule.Slice.PartMut.{mid_of, post_of, put_mid}
use Rattle.elementary.specs.RuleSets.{rule_set_0}
use Rattle.solver.specs.LittleEndian.{overwritten}
use Rattle.solver.specs.Listing.{line_of, line_in}
use Rattle.solver.proofs.Laws.Lines.{line_in_lem}

module _ (at : ℕ) (out : List ℕ) where
  whole_mid : mid_of at (length out - at) out ≡ drop at out
  whole_mid = take_all (length out - at) (drop at out) (simp length-drop (le_refl _))

  none_post : post_of at (length out - at) out ≡ []
  none_post = drop_of_length-le (drop at out) {i = length out - at} (simp length-drop (le_refl _))

  put_in_part : (bs ys : List ℕ) → ys ≡ overwritten 0 bs (drop at out) → put_mid at (length out - at) out ys ≡ overwritten at bs out
  put_in_part bs ys e = rw (e, none_post, append-nil, zero-add (length bs), drop-drop)

  pub line_in_part : (i : ℕ) (bytes ys : List ℕ) (n : ℕ) → at + 128 ≤ length out
      → n ≡ (line_in rule_set_0 i bytes (mid_of at (length out - at) out)).count
      → ys ≡ (line_in rule_set_0 i bytes (mid_of at (length out - at) out)).bytes
      → (n ≡ length (line_of rule_set_0 i bytes)) × (put_mid at (length out - at) out ys ≡ overwritten at (line_of rule_set_0 i bytes) out)
  line_in_part i bytes ys n room count held =
      let there : 128 ≤ length (drop at out) = simp length-drop (omega arith) in
      let e = line_in_lem rule_set_0 i bytes (drop at out) there in
      (rw (whole_mid, e) at count, put_in_part (line_of rule_set_0 i bytes) ys (rw (whole_mid, e) at held))
