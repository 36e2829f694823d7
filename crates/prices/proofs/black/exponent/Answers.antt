-- `black::exponent` meets its contract: from 1 on the halved square is exact (Halving). Assumes nothing.
use mathlib.Core.Path.{sym, subst}
use lib.Dec.{T}
use lib.Ieee.{binary64}
use lib.Ieee.Fits.{mul-fits}
use Rattle.elementary.proofs.Laws.Halving.{fma_minus_half}
use Rattle.prices.proofs.black.exponent.Goals as goal

pub returns-then-square : goal.returns-then-square
returns-then-square c = sym (fma_minus_half _ _ (mul-fits binary64 c.args.h c.args.h) (subst T (sym c.if-square.true) tt))
