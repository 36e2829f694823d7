-- `ln::ln` meets its contract: its tests are the definition's, in the same order. Assumes nothing.
use mathlib.Core.Path.{sym, ◌∙◌}
use lib.Ieee.{of_bits}
use Rattle.elementary.specs.Ln.{ln_of}
use Rattle.elementary.proofs.Laws.Bits.{ne_self}
use Rattle.elementary.proofs.ln.Ends.{above}
use Rattle.elementary.proofs.ln.ln.Goals as goal
use Rattle.elementary.proofs.ln.ln.Goals.{then-is_nan-via-then-is_nan, then-is_nan-via-else-is_nan+then-y}

pub returns-then-is_nan : goal.returns-then-is_nan
unfolding ln_of of_bits
returns-then-is_nan c =
    elim c.then-is_nan.branch [
      | then-is_nan-via-then-is_nan w ↦ rw (ne_self c.args.y, ← w.if-is_nan.ensures.value)
      | then-is_nan-via-else-is_nan+then-y w ↦ rw (ne_self c.args.y, ← w.if-is_nan.ensures.value, w.if-y.true)
    ]

pub returns-then-y-2 : goal.returns-then-y-2
unfolding ln_of of_bits
returns-then-y-2 c = rw (ne_self c.args.y, ← c.if-is_nan.ensures.value, c.if-y.false, c.if-y-2.true)

pub returns-then-y-3 : goal.returns-then-y-3
unfolding ln_of of_bits
returns-then-y-3 c = rw (ne_self c.args.y, ← c.if-is_nan.ensures.value, c.if-y.false, c.if-y-2.false, c.if-y-3.true)

pub ln_inner-requires : goal.ln_inner-requires
unfolding of_bits
ln_inner-requires c = above c.args.y (ne_self c.args.y ∙ sym c.if-is_nan.ensures.value) c.if-y.false c.if-y-2.false c.if-y-3.false

pub returns : goal.returns
unfolding ln_of of_bits
returns c = rw (c.ln_inner.ensures, ne_self c.args.y, ← c.if-is_nan.ensures.value, c.if-y.false, c.if-y-2.false, c.if-y-3.false)
