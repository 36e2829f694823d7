-- `mul_add::sum` meets its contract: `sum` is the same in either order. Assumes nothing.
use mathlib.Core.Path.{◌∙◌}
use lib.Ieee.{binary64}
use Rattle.elementary.proofs.mul_add.Sums.{sum_comm}
use Rattle.elementary.proofs.mul_add.sum.Goals as goal

pub returns-else-b-a : goal.returns-else-b-a
returns-else-b-a c r R = c.sum_ordered-else-b-a.ensures r R ∙ sum_comm binary64 c.args.b.neg c.args.a.neg _ _ _
