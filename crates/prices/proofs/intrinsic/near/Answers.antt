-- `intrinsic::near` meets its contract. Assumes nothing.
use mathlib.Core.Path.{◌∙◌}
use lib.Ieee.{of_bits, of_int}
use Rattle.prices.proofs.intrinsic.near.Goals as goal

pub returns : goal.returns
unfolding of_bits of_int
returns c = c.max.ensures ∙ rw c.mul.ensures
