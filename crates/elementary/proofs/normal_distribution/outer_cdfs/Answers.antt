-- `normal_distribution::outer_cdfs` meets its contract. Assumes nothing.
use borrow.Author.Rules.{rules}
use Rattle.elementary.proofs.Laws.Eight.{in_each}
use Rattle.elementary.proofs.normal_distribution.outer_cdfs.Goals as goal

pub returns : goal.returns
returns c = in_each (λ at p. search rules) c.zip3.ensures
