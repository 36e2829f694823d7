-- `normal_distribution::factors` meets its contract: each is the product of its two exponentials. Assumes nothing.
use borrow.Author.Rules.{rules}
use Rattle.elementary.proofs.Laws.Eight.{in_each, factors_of}
use Rattle.elementary.proofs.normal_distribution.factors.Goals as goal

pub returns : goal.returns
returns c = factors_of _ _ _ _ _ _ c.requires.tildes c.requires.exponentials c.zip.ensures c.exps-c.ensures (in_each (λ at p. search rules) c.zip-2.ensures)
