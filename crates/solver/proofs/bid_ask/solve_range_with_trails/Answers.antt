-- `bid_ask::solve_range_with_trails` meets its contract: a refusal, or both ends with their trails. Assumes nothing.
use Rattle.std.proofs.Common.{rules}
use Rattle.solver.specs.BidAsk.{solve_range_with_trails}
use Rattle.solver.proofs.bid_ask.solve_range_with_trails.Goals as goal

pub returns-in_err-check_range_with_trails : goal.returns-in_err-check_range_with_trails
unfolding solve_range_with_trails
returns-in_err-check_range_with_trails c = search rules

pub returns : goal.returns
unfolding solve_range_with_trails
returns c = search rules
