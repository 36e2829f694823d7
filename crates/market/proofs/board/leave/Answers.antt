-- `board::leave` meets its contract: a quote of the series is live where its place is among the live ones. Assumes nothing.
use mathlib.Core.Path.{sym, ◌∙◌}
use Rattle.std.proofs.Common.{rules}
use Rattle.market.specs.Board.{leave_of}
use Rattle.market.proofs.Laws.Quotes.{length_same, length_live}
use Rattle.market.proofs.board.leave.Goals as goal

pub returns-then-place-live-clause-value : goal.returns-then-place-live-clause-value
unfolding leave_of
returns-then-place-live-clause-value c = search (rules, length_same)

pub returns-then-place-live-clause-board_after : goal.returns-then-place-live-clause-board_after
unfolding leave_of
returns-then-place-live-clause-board_after c = search (rules, length_same)

pub take_away-requires : goal.take_away-requires
take_away-requires c =
    let e = sym (length_same _ _ c.live_quotes-live.ensures) ∙ length_live c.args.board.now in
    rw e at c.if-place-live.false

pub returns-clause-value : goal.returns-clause-value
unfolding leave_of
returns-clause-value c = search (rules, length_same)

pub returns-clause-board_after : goal.returns-clause-board_after
unfolding leave_of
returns-clause-board_after c = search (rules, length_same)
