-- `board::check_arrival` meets its contract: the three tests in their order, over the quotes as chunks. Assumes nothing.
use Rattle.std.proofs.Common.{rules}
use Rattle.market.specs.Board.{arrival_check}
use Rattle.market.proofs.Laws.Quotes.{length_same}
use Rattle.market.proofs.board.check_arrival.Goals as goal

pub returns-then-is_nan : goal.returns-then-is_nan
unfolding arrival_check
returns-then-is_nan c = search rules

pub returns-then-place_of-live : goal.returns-then-place_of-live
unfolding arrival_check
returns-then-place_of-live c = search (rules, length_same)

pub returns-then-live-ge-MOST_QUOTES : goal.returns-then-live-ge-MOST_QUOTES
unfolding arrival_check
returns-then-live-ge-MOST_QUOTES c = search (rules, length_same)

pub returns : goal.returns
unfolding arrival_check
returns c = search (rules, length_same)
