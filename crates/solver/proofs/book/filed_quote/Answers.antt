-- `book::filed_quote` meets its contract: a case of the definition for each way out.
use Rattle.std.proofs.Common.{rules}
use Rattle.solver.specs.Book.{filed_quote}
use Rattle.solver.proofs.book.filed_quote.Goals as goal

pub returns-in_err-option_type : goal.returns-in_err-option_type
unfolding filed_quote
returns-in_err-option_type = search rules

pub returns-then-not-in_layout : goal.returns-then-not-in_layout
unfolding filed_quote
returns-then-not-in_layout = search rules

pub returns : goal.returns
unfolding filed_quote
returns = search rules
