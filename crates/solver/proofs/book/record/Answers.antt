-- `book::record` meets its contract: the record is a whole chunk of the book, where there is one.
use mathlib.Core.Path.{sym, ◌∙◌}
use Rattle.solver.specs.Book.{read_of}
use Rattle.solver.proofs.book.Slots.{read_existing}
use Rattle.solver.proofs.book.record.Goals as goal

pub returns-then-not-record_exists : goal.returns-then-not-record_exists
unfolding read_of
returns-then-not-record_exists c = rw (sym c.record_exists.ensures ∙ c.if-not-record_exists.true)

pub returns : goal.returns
returns c =
    let a = c.args in
    rw c.as_chunks.ensures.front (read_existing a.book.now a.used a.k (sym c.record_exists.ensures ∙ c.if-not-record_exists.false))
