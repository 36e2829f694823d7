-- `list` meets its contract: after each record its line stands behind those before it, and what is left of the block has the other lines. Assumes nothing.
use mathlib.Core.Path.{◌≡◌, refl, ◌∙◌}
use Prim.Native.Nat.{◌+◌}
use native.Mathlib.Omega.{arith}
use Rattle.std.specs.Slice.Iter.{chunks_rest}
use Rattle.std.specs.Iterator.Adapters.{enumerate_source, enumerate_count}
use Rattle.relist.proofs.Laws.Listing.{none_yet, one_more, all, short_line}
use Rattle.relist.proofs.list.Goals as goal

pub loop-i-init : goal.loop-i-init
loop-i-init c =
    let a = c.args in
    let zero : a.first + 0 ≡ a.first = omega arith in
    rw (c.into_iter-i-iterator.ensures.into_iter_gives, c.enumerate-i-items.ensures.source, c.enumerate-i-items.ensures.count, c.chunks.ensures.size, c.chunks.ensures.rest, zero)
    (refl, none_yet a.first a.block.now a.lines.now c.requires.block_in_bounds)

pub overflow_add-used : goal.overflow_add-used
overflow_add-used c = omega (arith, short_line _ _ _ c.line_at-used.ensures.value)

pub loop-i-preserved : goal.loop-i-preserved
loop-i-preserved c =
    let a = c.args in
    let l = c.loop-i in
    let steps = c.in-Some.ensures.steps in
    let size = l.invariant.0 in
    let record_bytes = c.in-Some.record.now in
    let left = chunks_rest (enumerate_source l.i-iterator) in (
      steps.0.0 ∙ size,
      one_more a.first a.block.now a.lines.now l.lines (a.first + enumerate_count l.i-iterator) left l.used l.invariant.1
          record_bytes
          (chunks_rest (enumerate_source c.next.new.self))
          (a.first + enumerate_count c.next.new.self)
          c.line_at-used.result
          c.line_at-used.new.lines
          steps.0.1.0
          (rw size at steps.0.1.1)
          steps.0.1.2
          (omega arith)
          (rw steps.1 at c.line_at-used.ensures.value)
          (rw steps.1 at c.line_at-used.ensures.lines_after)
          (omega arith),
    )

pub returns : goal.returns
returns c =
    let a = c.args in
    let l = c.loop-i in
    let t = all a.first a.block.now a.lines.now l.lines (a.first + enumerate_count l.i-iterator) (chunks_rest (enumerate_source l.i-iterator)) l.used l.invariant.1
    c.in-None.ensures.steps.0.1.0 in
    record { value = t.0; lines_after = t.1 }
