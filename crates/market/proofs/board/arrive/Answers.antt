-- `board::arrive` meets its contract: what the check says, and where it says nothing a place is free. Assumes nothing.
use mathlib.Core.Path.{sym, ◌∙◌}
use Rattle.std.proofs.Common.{rules}
use Rattle.market.specs.Board.{arrive_of}
use Rattle.market.proofs.Laws.Quotes.{room}
use Rattle.market.proofs.board.arrive.Goals as goal

pub returns-in_err-check_arrival-clause-value : goal.returns-in_err-check_arrival-clause-value
unfolding arrive_of
returns-in_err-check_arrival-clause-value c = search rules

pub returns-in_err-check_arrival-clause-board_after :
    goal.returns-in_err-check_arrival-clause-board_after
unfolding arrive_of
returns-in_err-check_arrival-clause-board_after c = search rules

pub put_behind-requires : goal.put_behind-requires
put_behind-requires c = room c.args.quote c.args.board.now _ (sym c.check_arrival.ensures ∙ c.in_ok-check_arrival.was)

pub returns-clause-value : goal.returns-clause-value
unfolding arrive_of
returns-clause-value c = search rules

pub returns-clause-board_after : goal.returns-clause-board_after
unfolding arrive_of
returns-clause-board_after c = search rules
