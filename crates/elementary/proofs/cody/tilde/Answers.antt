-- `cody::tilde` meets its contract. Assumes nothing.
use Rattle.elementary.specs.Cody.{tilde_of}
use Rattle.elementary.proofs.cody.tilde.Goals as goal

pub returns : goal.returns
unfolding tilde_of
returns c = rw c.d_int.ensures
