-- `board::take_away` meets its contract: the quotes behind the place move down, and then the count. Assumes nothing.
use Rattle.std.proofs.Common.{rules}
use Rattle.market.specs.Board.{without_place}
use Rattle.market.proofs.board.take_away.Goals as goal

pub returns : goal.returns
unfolding without_place
returns c = search rules
