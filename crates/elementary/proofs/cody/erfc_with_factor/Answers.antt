-- `cody::erfc_with_factor` meets its contract: each way out is the arm that the test leaves. Assumes nothing.
use Rattle.elementary.specs.Cody.{erfc_of}
use Rattle.elementary.proofs.cody.erfc_with_factor.Goals as goal

pub returns-then-y : goal.returns-then-y
unfolding erfc_of
returns-then-y g c = rw (c.ab.ensures, ← c.requires.y_is, c.if-y.true)

pub returns : goal.returns
unfolding erfc_of
returns g c = rw (c.on_side.ensures, c.erfc_abs.ensures, ← c.requires.y_is, c.if-y.false)
