-- `board::place_of` meets its contract: no quote before the one that is looked at has the series. Assumes nothing.
use mathlib.Core.Path.{refl, sym, ◌∙◌}
use native.Mathlib.Omega.{arith}
use Rattle.market.proofs.Laws.Quotes.{place_here, place_further, none_left}
use Rattle.market.proofs.board.place_of.Goals as goal

pub loop-bytes-init : goal.loop-bytes-init
loop-bytes-init c = (refl, omega arith)

pub returns-then-series_in-series : goal.returns-then-series_in-series
returns-then-series_in-series c =
    let i = c.loop-bytes.invariant in
    let h = place_here c.args.quotes.now c.loop-bytes.bytes-index c.loop-bytes-test.true c.args.series (sym c.series_in.ensures ∙ c.if-series_in-series.true) in
    omega (arith, i.0, i.1, h)

pub overflow_add-place : goal.overflow_add-place
overflow_add-place c = omega (arith, c.loop-bytes.invariant.0, c.loop-bytes-test.true)

pub loop-bytes-preserved : goal.loop-bytes-preserved
loop-bytes-preserved c =
    let i = c.loop-bytes.invariant in
    let h = place_further c.args.quotes.now c.loop-bytes.bytes-index c.loop-bytes-test.true c.args.series (λ e. c.if-series_in-series.false (c.series_in.ensures ∙ e)) in
    (omega (arith, i.0), omega (arith, i.1, h))

pub returns : goal.returns
returns c =
    let i = c.loop-bytes.invariant in
    let e = none_left c.args.quotes.now c.loop-bytes.bytes-index c.loop-bytes-test.false in
    omega (arith, i.0, rw e at i.1)
