-- `board::highest` meets its contract: what is shown so far and the quotes that are left yield what the first and all others do. Assumes nothing.
use mathlib.Core.Path.{refl, ◌∙◌}
use Rattle.std.proofs.lemmas.List.{nil_from_length}
use Rattle.market.specs.Board.{highest_of}
use Rattle.market.proofs.Laws.Quotes.{highest_further, none_left}
use Rattle.market.proofs.board.highest.Goals as goal

pub returns-in_err-first : goal.returns-in_err-first
unfolding highest_of
returns-in_err-first c =
    let none = nil_from_length c.live_quotes.result.now (c.in_err-first.ensures).cases in
    rw (← c.live_quotes.ensures, none) c.from_residual.ensures

pub loop-bytes-init : goal.loop-bytes-init
loop-bytes-init c = refl

pub loop-bytes-preserved : goal.loop-bytes-preserved
loop-bytes-preserved c =
    let l = c.loop-bytes in
    rw (c.shown_of-shown.ensures, c.quote_in.ensures) (l.invariant ∙ highest_further c.in_ok-first.others.now l.bytes-index c.loop-bytes-test.true l.shown)

pub returns : goal.returns
unfolding highest_of
returns c =
    let parts = (c.in_ok-first.ensures).cases.0 in
    let e = c.loop-bytes.invariant ∙ rw (none_left c.in_ok-first.others.now c.loop-bytes.bytes-index c.loop-bytes-test.false) refl in
    rw (← c.live_quotes.ensures, parts, ← c.quote_in-shown.ensures, e) refl
