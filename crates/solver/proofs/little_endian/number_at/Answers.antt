-- `little_endian::number_at` meets its contract: the part's bytes and zeros above them are the number's eight bytes.
use mathlib.Core.Path.{◌≡◌, ◌∙◌, ap}
use mathlib.Core.List.{List, ◌++◌}
use Prim.Native.Nat.{ℕ, ◌+◌, ◌-◌, ◌≤◌}
use native.Mathlib.Omega.{arith}
use borrow.Rule.Slice.PartMut.{put_mid, mid_of}
use lib.ListN.{length, replicate, length-drop}
use lib.Seq.{length-take-le}
use Rattle.std.proofs.lemmas.List.{drop-replicate}
use Rattle.std.specs.Int.{w64, from_le_bytes}
use Rattle.solver.specs.LittleEndian.{part, number_at}
use Rattle.solver.proofs.Laws.Bytes.{number_padded}
use Rattle.solver.proofs.little_endian.number_at.Goals as goal

module _ (at width : ℕ) (bytes : List ℕ) (room : at + width ≤ length bytes) (h : width ≤ 8) where
  padded : (ys : List ℕ) → ys ≡ mid_of at (at + width - at) bytes → from_le_bytes w64 (put_mid 0 width (replicate 8 0) ys) ≡ number_at at width bytes
  padded ys e =
      let k : at + width - at ≡ width = omega arith in
      let is : ys ≡ part at width bytes = rw k at e in
      let long : length (part at width bytes) ≡ width = length-take-le width _ (simp length-drop (omega arith)) in
      number_padded (part at width bytes) _ (8 - width) (ap (λ zs. ys ++ zs) (drop-replicate width 8 0) ∙ ap (λ bs. bs ++ replicate (8 - width) 0) is) (omega (arith, long))

pub returns : goal.returns
returns c =
    let a = c.args in
    c.from_le_bytes.ensures ∙ padded a.at a.width a.bytes.now c.requires.width_in_bounds c.requires.width_bound _ c.copy_from_slice.ensures.after
