-- `black::normalised_black_call_with_optimal_use_of_codys_functions` meets its contract: the exponentials are those of x. Assumes nothing.
use mathlib.Core.Path.{◌∙◌}
use Rattle.prices.proofs.Laws.Exponentials.{codys_own}
use Rattle.prices.proofs.black.normalised_black_call_with_optimal_use_of_codys_functions.Goals as goal

pub returns : goal.returns
returns c = c.codys.ensures ∙ codys_own _ _ _
