-- `relist_block` meets its contract: the step is that of the bytes that came. Assumes nothing.
use Rattle.relist.specs.Inside.Steps.{listing}
use Rattle.relist.proofs.relist_block.Goals as goal

pub returns : goal.returns
returns c = listing c.in_ok-n.n (rw c.in_ok-n.ensures at c.fill.ensures) c.list-used.ensures.lines_after c.step_after.ensures
