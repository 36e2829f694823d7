-- `book::check_record` meets its contract: a case of the definition for each way out.
use Rattle.std.proofs.Common.{rules}
use Rattle.solver.specs.Book.{check_record}
use Rattle.solver.proofs.book.check_record.Goals as goal

pub returns-in_err-quote : goal.returns-in_err-quote
unfolding check_record
returns-in_err-quote = search rules

pub returns-in_err-set : goal.returns-in_err-set
unfolding check_record
returns-in_err-set = search rules

pub returns-in_err-a : goal.returns-in_err-a
unfolding check_record
returns-in_err-a = search rules

pub returns : goal.returns
unfolding check_record
returns = search rules
