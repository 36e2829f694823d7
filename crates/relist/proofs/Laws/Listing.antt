-- The lines of a block, one record at a time: the text so far, and what is left. Assumes nothing.
use mathlib.Core.Path.{◌≡◌, refl, ap, ◌∙◌}
use mathlib.Core.Logic.{inl, inr}
use mathlib.Core.List.{List, [], ◌++◌, append_assoc, append-nil}
use Prim.Native.Nat.{ℕ, min, ◌+◌, ◌*◌, ◌/◌, ◌≤◌, ◌<◌}
use native.Mathlib.Nat.{zero-add}
use native.Mathlib.Omega.{arith}
use lib.ListN.{length, take, drop, length-append, drop_of_length-le}
use lib.Seq.{take_all, take-append_seam, drop-append_seam}
use Rattle.std.proofs.lemmas.Bool.{cases_lt}
use Rattle.std.proofs.lemmas.List.{nil_from_length}
use Rattle.elementary.specs.RuleSets.{rule_set_0}
use Rattle.solver.specs.LittleEndian.{overwritten}
use Rattle.solver.specs.Listing.{line_of}
use Rattle.solver.proofs.Laws.Overwritten.{Put, put_both, put_none}
use Rattle.solver.proofs.Laws.Lines.{line_length}
use Rattle.relist.specs.Lines.{lines_of}
use Rattle.relist.proofs.Laws.Blocks.{lines_none, lines_more}

-- a record is 64 bytes or all that is left
module _ (left record_bytes left' : List ℕ) (parts : left ≡ record_bytes ++ left') (size : length record_bytes ≡ min 64 (length left)) where
  one_record : take 64 left ≡ record_bytes
  one_record =
      let sum = ap length parts ∙ length-append record_bytes left' in
      elim (cases_lt (length left) 64) [
        | inl short ↦ let none : left' ≡ [] = nil_from_length left' (omega arith) in rw (take_all 64 left (omega arith), parts, none, append-nil)
        | inr long ↦ let whole : length record_bytes ≡ 64 = omega arith in rw (parts, ← whole, take-append_seam)
      ]

  behind_it : drop 64 left ≡ left'
  behind_it =
      let sum = ap length parts ∙ length-append record_bytes left' in
      elim (cases_lt (length left) 64) [
        | inl short ↦ let none : left' ≡ [] = nil_from_length left' (omega arith) in rw none (drop_of_length-le left {i = 64} (omega arith))
        | inr long ↦ let whole : length record_bytes ≡ 64 = omega arith in rw (parts, ← whole, drop-append_seam)
      ]

-- After some of a block's records: the lines are used bytes, and the record with the number index is the first of what is left.
pub record SoFar (first : ℕ) (block old lines : List ℕ) (index : ℕ) (left : List ℕ) (used : ℕ) : Type 0 where
  text : List ℕ
  pub put : Put 0 text old used lines
  rest : lines_of first block ≡ text ++ lines_of index left
  pub long : length lines ≡ length old
  pub room : used + 128 * ((length left + 63) / 64) ≤ length old
  pub numbers : index + length left ≤ first + length block

module _ (first : ℕ) (block old : List ℕ) where
  pub none_yet : 2 * length block + 128 ≤ length old → SoFar first block old old first block 0
  none_yet room = record { text = []; put = put_none 0 old; rest = refl; long = refl; room = omega arith; numbers = omega arith }

  module _ (lines : List ℕ) (index : ℕ) (left : List ℕ) (used : ℕ) (so_far : SoFar first block old lines index left used) where
    pub one_more : (bytes left' : List ℕ) (index' n : ℕ) (lines' : List ℕ) → left ≡ bytes ++ left' → length bytes ≡ min 64 (length left) → 0 < length left
        → index' ≡ index + 1 → n ≡ length (line_of rule_set_0 index bytes)
        → lines' ≡ overwritten used (line_of rule_set_0 index bytes) lines
        → length lines' ≡ length lines → SoFar first block old lines' index' left' (used + n)
    one_more bytes left' index' n lines' parts size some next count held long =
        let line : List ℕ = line_of rule_set_0 index bytes in
        let short = line_length rule_set_0 index bytes in
        let sum = ap length parts ∙ length-append bytes left' in
        record {
          text = so_far.text ++ line;
          put = put_both 0 so_far.text line old used lines (used + n) lines' (omega arith) so_far.put (rw count, held);
          rest = so_far.rest ∙ rw (lines_more index left some, one_record left bytes left' parts size, behind_it left bytes left' parts size, append_assoc, next);
          long = long ∙ so_far.long;
          room = omega arith;
          numbers = omega arith;
        }

    pub all : length left ≡ 0 → (used ≡ length (lines_of first block)) × (lines ≡ overwritten 0 (lines_of first block) old)
    all none =
        let e : lines_of first block ≡ so_far.text = so_far.rest ∙ rw (lines_none index left none, append-nil) in
        rw e (so_far.put.0 ∙ zero-add _, so_far.put.1)

pub short_line : (i : ℕ) (bytes : List ℕ) (n : ℕ) → n ≡ length (line_of rule_set_0 i bytes) → n ≤ 101
short_line i bytes n e = omega (arith, line_length rule_set_0 i bytes)

-- what is put into a buffer lies within it
pub put_within : (bs old new : List ℕ) (n : ℕ) → n ≡ length bs → new ≡ overwritten 0 bs old → n ≤ length new
put_within bs old new n e f = rw f (simp length-append (omega arith))
