-- `board::put_behind` meets its contract: the quote's bytes and then the count. Assumes nothing.
use mathlib.Core.Path.{refl}
use Rattle.market.specs.Board.{with_quote}
use Rattle.market.proofs.board.put_behind.Goals as goal

pub returns : goal.returns
unfolding with_quote
returns c = rw (c.put_number_at.ensures, c.put_quote.ensures, c.live_count-live.ensures.value) refl
