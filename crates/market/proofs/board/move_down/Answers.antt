-- `board::move_down` meets its contract: the quotes up to the next one stand a place further down. Assumes nothing.
use mathlib.Core.Path.{◌≡◌}
use native.Mathlib.Omega.{arith}
use Prim.Native.Nat.{suc, ◌+◌, ◌-◌}
use Rattle.market.proofs.Laws.Moves.{none_moved, one_moved, all_moved}
use Rattle.market.proofs.board.move_down.Goals as goal

pub loop-next-init : goal.loop-next-init
loop-next-init c =
    let none : c.args.place + 1 - suc c.args.place ≡ 0 = omega arith in
    rw none (none_moved c.args.place c.args.board.now c.told-board (omega (arith, c.requires.place_bound, c.requires.live_bound)))

pub loop-next-preserved : goal.loop-next-preserved
loop-next-preserved c =
    let l = c.loop-next in
    let k = c.args.place in
    let more : l.next + 1 - suc k ≡ suc (l.next - suc k) = omega (arith, l.auto.next) in
    let chunks = rw l.invariant.whole at c.as_chunks.ensures.front in
    rw more (one_moved k (l.next - suc k) c.args.board.now l.board l.invariant l.next c.put_place.new.board (omega (arith, l.auto.next)) (omega (arith, c.loop-next-test.true, c.requires.live_bound)) c.put_place.array_long (rw chunks at c.put_place.ensures))

pub returns : goal.returns
returns c =
    let l = c.loop-next in
    let k = c.args.place in
    let end = l.auto.next-end (omega (arith, c.requires.place_bound)) in
    all_moved k (l.next - suc k) c.args.board.now l.board l.invariant c.args.live _ (omega (arith, l.auto.next, end, c.loop-next-test.false)) c.put_place-2.ensures
