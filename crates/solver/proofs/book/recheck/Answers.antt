-- `book::recheck` meets its contract: the record is checked where it exists.
use mathlib.Core.Path.{◌≡◌, ◌∙◌}
use Rattle.std.proofs.Common.{rules}
use Rattle.std.specs.Prelude.{Err}
use Rattle.solver.specs.Answers.{at_once}
use Rattle.solver.specs.Book.{recheck_of}
use Rattle.solver.proofs.book.Slots.{exists, missing}
use Rattle.solver.proofs.book.recheck.Goals as goal

pub returns-in_err-record : goal.returns-in_err-record
unfolding recheck_of
returns-in_err-record c =
    let a = c.args in
    let m = missing a.book.now a.used a.k _ c.in_err-record.ensures in
    let own : c.from_residual.result ≡ Err (at_once c.in_err-record.field-0.0) = search rules in
    own ∙ rw (m.0, m.1)

pub returns : goal.returns
unfolding recheck_of
returns c =
    let a = c.args in
    let x = exists a.book.now a.used a.k _ c.in_ok-record.ensures in
    rw (x.0, ← x.1) c.check_record.ensures
