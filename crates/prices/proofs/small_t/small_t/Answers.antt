-- `small_t::small_t` meets its contract: each call is its definition. Assumes nothing.
use mathlib.Core.Path.{◌∙◌}
use Rattle.prices.specs.Black.{small_t_inner}
use Rattle.prices.proofs.small_t.small_t.Goals as goal

pub returns : goal.returns
unfolding small_t_inner
returns c = c.max.ensures ∙ rw (c.taylor.ensures, c.erfcx.ensures, c.requires)
