-- `black::normalised_black` meets its contract. Assumes nothing.
use mathlib.Core.Path.{◌∙◌}
use Rattle.prices.specs.Black.{normalised_black_of}
use Rattle.prices.proofs.black.normalised_black.Goals as goal

pub returns : goal.returns
unfolding normalised_black_of
returns c = c.normalised_black_call.ensures ∙ rw c.mul.ensures
