-- `bid_ask::solve_range` meets its contract: a refusal, or both ends. Assumes nothing.
use Rattle.std.proofs.Common.{rules}
use Rattle.solver.specs.BidAsk.{solve_range}
use Rattle.solver.proofs.bid_ask.solve_range.Goals as goal

pub returns-in_err-check_range : goal.returns-in_err-check_range
unfolding solve_range
returns-in_err-check_range c = search rules

pub returns : goal.returns
unfolding solve_range
returns c = search rules
