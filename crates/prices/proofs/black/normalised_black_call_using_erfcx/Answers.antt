-- `black::normalised_black_call_using_erfcx` meets its contract: each call is its definition. Assumes nothing.
use mathlib.Core.Path.{◌∙◌}
use Rattle.prices.specs.Black.{using_erfcx_of}
use Rattle.prices.proofs.black.normalised_black_call_using_erfcx.Goals as goal

pub returns : goal.returns
unfolding using_erfcx_of
returns c = c.max.ensures ∙ rw (c.bell.ensures, c.erfcx-2.ensures, c.erfcx.ensures)
