-- Bytes written into a list from a place on, bytes behind what stands in front, and a list's chunks. Theorems.
use mathlib.Core.Path.{◌≡◌, refl, ◌∙◌}
use mathlib.Core.List.{List, [], ◌++◌, append-nil, append_assoc}
use Prim.Native.Nat.{ℕ, zero, suc, ◌+◌, ◌-◌, ◌*◌, ◌<◌}
use native.Mathlib.Omega.{arith}
use native.Mathlib.Nat.{le_refl, mul-zero, mul-suc, add_comm}
use lib.ListN.{length, drop, get_or, length-append, length-drop, drop_of_length-le}
use lib.Seq.{take_all, drop-drop, take-append_seam, drop-append-add}
use borrow.Rule.Slice.PartMut.{mid_of, post_of, put_mid}
use Rattle.std.specs.Simd.{first_chunks}
use Rattle.solver.specs.LittleEndian.{part, overwritten}

-- a part `&mut xs[a..]` that comes back with other bytes at its start
module _ (a : ℕ) (xs : List ℕ) where
  whole_mid : mid_of a (length xs - a) xs ≡ drop a xs
  whole_mid = take_all (length xs - a) (drop a xs) (simp length-drop (le_refl _))

  none_post : post_of a (length xs - a) xs ≡ []
  none_post = drop_of_length-le (drop a xs) {i = length xs - a} (simp length-drop (le_refl _))

  pub part_overwritten : (bs ys : List ℕ) → ys ≡ bs ++ drop (length bs) (mid_of a (length xs - a) xs) → put_mid a (length xs - a) xs ys ≡ overwritten a bs xs
  part_overwritten bs ys e = rw (e, whole_mid, none_post, drop-drop, append-nil)

-- bytes behind what stands in front
pub behind : (fs bs old l l' : List ℕ) → l ≡ fs ++ drop (length fs) old → l' ≡ overwritten (length fs) bs l → l' ≡ fs ++ bs ++ drop (length (fs ++ bs)) old
behind fs bs old l l' e f = rw (f, e, take-append_seam, drop-append-add, drop-drop, append_assoc, length-append)

-- the k-th of a list's first n chunks of w
pub chunk : (w n k : ℕ) (bytes : List ℕ) → k < n → get_or (first_chunks w n bytes) k [] ≡ part (w * k) w bytes
chunk w zero k bytes h = absurd (omega arith)
chunk w (suc n) zero bytes h = rw mul-zero refl
chunk w (suc n) (suc k) bytes h = let m : w * suc k ≡ w + w * k = mul-suc w k ∙ add_comm (w * k) w in rw (chunk w n k (drop w bytes) (omega arith), m, drop-drop) refl
