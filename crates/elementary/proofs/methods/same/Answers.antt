-- `methods::same` meets its contract: floats of one pattern are one float. Assumes nothing.
use mathlib.Core.Path.{sym, subst}
use lib.Dec.{T, eqb→eq}
use Rattle.elementary.proofs.Laws.Bits.{equal_right, same_bits}
use Rattle.elementary.proofs.methods.same.Goals as goal

pub float_to_bits-result-then-a-b : goal.float_to_bits-result-then-a-b
float_to_bits-result-then-a-b c = equal_right _ _ c.if-a-b.true

pub returns-then-a-b : goal.returns-then-a-b
returns-then-a-b c = λ h.
    same_bits _ _ (subst T (sym c.well_formed.0.1) tt) (subst T (sym c.well_formed.1.0.1) tt) (eqb→eq _ _ (subst T (sym h) tt))
