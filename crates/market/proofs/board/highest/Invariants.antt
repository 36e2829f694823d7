-- `board::highest` meets its contract: what is shown so far and the quotes that are left yield what the first and all others do.
use mathlib.Core.Path.{◌≡◌}
use mathlib.Core.List.{map}
use lib.ListN.{drop}
use Rattle.market.specs.Board.{quote_in, highest_from}
use Rattle.market.proofs.board.highest.Given as goal

abbrev pub invariant-loop-bytes : goal.invariant-loop-bytes
invariant-loop-bytes l =
    highest_from l.initial.shown (map quote_in l.others) ≡ highest_from l.shown (map quote_in (drop l.bytes-index l.others))
