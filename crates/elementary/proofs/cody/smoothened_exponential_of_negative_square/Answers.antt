-- `cody::smoothened_exponential_of_negative_square` meets its contract: each call is its definition. Assumes nothing.
use Rattle.elementary.specs.Cody.{smoothened_exponential_of_negative_square}
use Rattle.elementary.proofs.cody.smoothened_exponential_of_negative_square.Goals as goal

pub returns : goal.returns
unfolding smoothened_exponential_of_negative_square
returns c = rw (c.exp_of_negative_square.ensures, c.exp.ensures, c.tilde-y_tilde.ensures)
