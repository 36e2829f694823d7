-- `listing::line` meets its contract: the record's number, what it answers and the line feed, one behind the other, of which 128 bytes have the room. Assumes nothing.
use mathlib.Core.Path.{◌≡◌, refl, ◌∙◌}
use mathlib.Core.List.{[], ◌∷◌, ◌++◌}
use Prim.Native.Nat.{◌≤◌}
use native.Mathlib.Nat.{zero-add}
use native.Mathlib.Omega.{arith}
use lib.ListN.{length}
use borrow.Author.Tests.{lt-ltb, le-ltb}
use Rattle.solver.specs.Listing.{decimal_by, answer_at, answer_bytes, line_of, line_in}
use Rattle.solver.proofs.Laws.Overwritten.{put_both}
use Rattle.solver.proofs.Laws.Lines.{decimal_length, answer_length}
use Rattle.solver.proofs.Laws.BySet.{by_set}
use Rattle.solver.proofs.listing.line.Goals as goal

pub returns-then-out-lt-LINE_BYTES : goal.returns-then-out-lt-LINE_BYTES
unfolding line_in
returns-then-out-lt-LINE_BYTES c =
    let small = lt-ltb (length c.args.out.now) 128 c.if-out-lt-LINE_BYTES.true in
    record { value = rw small refl; out_after = rw small refl }

pub put_answer-end-requires : goal.put_answer-end-requires
put_answer-end-requires c = omega (arith, decimal_length 20 c.args.index)

pub put_byte-requires : goal.put_byte-requires
put_byte-requires c = omega (arith, decimal_length 20 c.args.index, answer_length c.answer_of.result)

pub returns : goal.returns
unfolding line_in line_of
returns c =
    let a = c.args in
    let answer = c.answer_of in
    let said = by_set (λ s. answer.result ≡ answer_at s a.bytes.now) a.set answer.ensures refl in
    let number = decimal_by 20 a.index in
    let room : 0 ≤ length a.out.now = omega arith in
    let p₁ = c.put_decimal-end.ensures in
    let p₂ = c.put_answer-end.ensures in
    let p₃ = c.put_byte.ensures in
    let q₂ = put_both 0 number (answer_bytes answer.result) a.out.now _ _ _ _ room (p₁.value, p₁.out_after) (p₂.value, p₂.out_after) in
    let q₃ = put_both 0 (number ++ answer_bytes answer.result) (10 ∷ []) a.out.now _ _ _ _ room q₂ (p₃.value, p₃.out_after) in
    let large = le-ltb (length a.out.now) 128 c.if-out-lt-LINE_BYTES.false in
    record { value = rw (large, ← said) (q₃.0 ∙ zero-add _); out_after = rw (large, ← said) q₃.1 }
