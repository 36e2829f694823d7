-- `board::place_of` meets its contract: no quote before the one that is looked at has the series.
use mathlib.Core.Path.{◌≡◌}
use Prim.Native.Nat.{◌+◌}
use mathlib.Core.List.{map}
use lib.ListN.{drop}
use Rattle.market.specs.Board.{quote_in, place_of}
use Rattle.market.proofs.board.place_of.Given as goal

abbrev pub invariant-loop-bytes : goal.invariant-loop-bytes
invariant-loop-bytes l =
    (l.place ≡ l.bytes-index) × (place_of l.series (map quote_in l.quotes) ≡ l.bytes-index + place_of l.series (map quote_in (drop l.bytes-index l.quotes)))
