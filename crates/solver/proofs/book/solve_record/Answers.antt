-- `book::solve_record` meets its contract: the quote is solved, or its refusal passes up.
use mathlib.Core.Path.{◌≡◌, refl}
use Rattle.std.proofs.Common.{rules}
use Rattle.std.specs.Prelude.{Ok}
use Rattle.solver.specs.Solve.{solve_of}
use Rattle.solver.specs.Book.{solve_record}
use Rattle.solver.proofs.Laws.BySet.{by_set}
use Rattle.solver.proofs.book.solve_record.Goals as goal

pub returns-in_err-filed_quote : goal.returns-in_err-filed_quote
unfolding solve_record
returns-in_err-filed_quote = search rules

pub returns : goal.returns
unfolding solve_record
returns c =
    let e : c.filed_quote.result ≡ Ok c.in_ok-filed_quote.field-0 = search rules in
    rw (← c.filed_quote.ensures, e, ← c.filed_steps.ensures)
    (by_set (λ s. c.solve.result ≡ (solve_of s c.in_ok-filed_quote.field-0 c.filed_steps.result).answer) c.args.set c.solve.ensures refl)
