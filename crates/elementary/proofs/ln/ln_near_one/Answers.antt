-- `ln::ln_near_one` meets its contract: the operations are the definition's. Assumes nothing.
use Rattle.elementary.specs.Ln.{ln_at}
use Rattle.elementary.proofs.ln.ln_near_one.Goals as goal

pub returns : goal.returns
unfolding ln_at
returns c = rw c.series-q.ensures
