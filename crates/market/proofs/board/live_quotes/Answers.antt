-- `board::live_quotes` meets its contract: the first of the board's 256 chunks of 12 bytes. Assumes nothing.
use mathlib.Core.Path.{sym}
use native.Mathlib.Omega.{arith}
use lib.Seq.{length-take-le}
use Rattle.market.specs.Board.{live_quotes}
use Rattle.market.proofs.Laws.Quotes.{of_chunks}
use Rattle.market.proofs.board.live_quotes.Goals as goal

pub slice_bounds-result-end : goal.slice_bounds-result-end
slice_bounds-result-end c =
    let e = c.as_chunks.ensures.front_len in
    sym (length-take-le c.live_count.result c.as_chunks.result.0.now (omega (arith, c.live_count.ensures.bound, e, c.told-board)))

pub returns : goal.returns
unfolding live_quotes
returns c =
    rw (c.as_chunks.ensures.front, c.told-board, c.live_count.ensures.value) (of_chunks _ 256 c.args.board.now (rw c.live_count.ensures.value at c.live_count.ensures.bound))
