-- `little_endian::put_number_at` meets its contract. After i bytes of the part its first i are the number's, and `rest` has the number's bytes from i on.
use mathlib.Core.Path.{◌≡◌}
use mathlib.Core.List.{List, [], ◌∷◌, ◌++◌, append_assoc}
use Prim.Native.Nat.{ℕ, suc, ◌+◌, ◌-◌, ◌/◌, ◌%◌, ◌<◌}
use native.Mathlib.Numerals.{add-one}
use native.Mathlib.Omega.{arith}
use borrow.Rule.Slice.PartMut.{mid_len}
use lib.ListN.{length, take, set}
use lib.Seq.{take-suc-set}
use Rattle.solver.proofs.little_endian.put_number_at.Goals as goal
use Rattle.solver.proofs.little_endian.put_number_at.Invariants.{Written}

more : (width n : ℕ) (part : List ℕ) (rest i : ℕ) → Written width n part rest i → i < width → i < length part → Written width n (set part i (rest % 256)) (rest / 256) (i + 1)
more width n part rest i w h l =
    let k : width - i ≡ suc (width - (i + 1)) = omega arith in
    let t : take (i + 1) (set part i (rest % 256)) ≡ take i part ++ (rest % 256 ∷ []) = rw add-one (take-suc-set part i (rest % 256) l) in
    record { within = omega arith; front = rw (t, append_assoc) (rw k at w.front) }

pub loop-byte-preserved : goal.loop-byte-preserved
loop-byte-preserved c =
    let a = c.args in
    let long = mid_len a.at (a.at + a.width) a.out.now c.requires in
    more _ _ _ _ _ c.loop-byte.invariant (omega (arith, long)) (omega (arith, long))
