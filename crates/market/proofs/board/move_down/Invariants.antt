-- `board::move_down` meets its contract: the quotes up to the next one stand a place further down.
use Prim.Native.Nat.{suc, ◌-◌}
use Rattle.market.proofs.Laws.Moves.{Moved}
use Rattle.market.proofs.board.move_down.Given as goal

abbrev pub invariant-loop-next : goal.invariant-loop-next
invariant-loop-next l = Moved l.place (l.next - suc l.place) l.initial.board l.board
