-- `listing::answer_of` meets its contract: under 64 bytes the definition refuses as the code does, from 64 on both solve the record again.
use mathlib.Core.Path.{◌∙◌}
use native.Mathlib.Omega.{arith}
use borrow.Author.Tests.{lt-ltb, le-ltb}
use lib.ListN.{length}
use Rattle.solver.specs.Listing.{answer_at}
use Rattle.solver.proofs.book.Front.{solve_record_front}
use Rattle.solver.proofs.listing.answer_of.Goals as goal

pub returns-in_default : goal.returns-in_default
unfolding answer_at
returns-in_default c = rw (lt-ltb (length c.args.bytes.now) 64 c.in_default.ensures.cases, c.from.ensures)

pub returns : goal.returns
unfolding answer_at
returns c =
    let a = c.args in
    let front = c.in-Some.ensures.cases in
    rw (le-ltb (length a.bytes.now) 64 front.enough) (c.solve_record.ensures ∙ rw front.same (solve_record_front 64 a.bytes.now a.set (omega arith)))
