-- `cody::smoothened_exponential_of_positive_square` meets its contract: each call is its definition. Assumes nothing.
use Rattle.elementary.specs.Cody.{smoothened_exponential_of_positive_square}
use Rattle.elementary.proofs.cody.smoothened_exponential_of_positive_square.Goals as goal

pub returns : goal.returns
unfolding smoothened_exponential_of_positive_square
returns c = rw (c.exp.ensures, c.exp-2.ensures, c.tilde-x_tilde.ensures)
