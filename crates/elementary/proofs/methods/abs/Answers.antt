-- `abs` meets its contract: a NaN stays, and of any other float the bits below the sign are those of its size. Assumes nothing.
use mathlib.Core.Path.{refl}
use Rattle.elementary.specs.Methods.{abs_of}
use Rattle.elementary.proofs.Laws.Bits.{nan_by, abs_bits, abs_bits_no_nan}
use Rattle.elementary.proofs.methods.abs.Goals as goal

pub returns-then-is_nan : goal.returns-then-is_nan
unfolding abs_of
returns-then-is_nan c = rw (nan_by c.args.x c.if-is_nan.ensures.value) refl

pub float_from_bits-result : goal.float_from_bits-result
float_from_bits-result c = abs_bits_no_nan c.args.x (rw c.well_formed.0.1 tt) c.if-is_nan.ensures.not_nan

pub returns : goal.returns
returns c = abs_bits c.args.x (rw c.well_formed.0.1 tt) c.if-is_nan.ensures.not_nan
