-- `black::asymptotic` meets its contract: each call is its definition. Assumes nothing.
use mathlib.Core.Path.{◌∙◌}
use Rattle.prices.specs.Black.{asymptotic_inner}
use Rattle.prices.proofs.black.asymptotic.Goals as goal

pub returns : goal.returns
unfolding asymptotic_inner
returns c = c.abs.ensures ∙ rw (c.exp-exp_term.ensures, c.exponent.ensures, c.series-2.ensures, c.series.ensures)
