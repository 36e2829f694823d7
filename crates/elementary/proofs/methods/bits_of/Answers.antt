-- `bits_of` meets its contract: a NaN has one pattern there. Assumes nothing.
use mathlib.Core.Path.{refl}
use lib.Ieee.{to_bits}
use Rattle.elementary.proofs.Laws.Bits.{nan_by}
use Rattle.elementary.proofs.methods.bits_of.Goals as goal

pub returns-then-is_nan : goal.returns-then-is_nan
unfolding to_bits
returns-then-is_nan c = rw (nan_by c.args.x c.if-is_nan.ensures.value) refl
