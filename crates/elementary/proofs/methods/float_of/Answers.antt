-- `float_of` meets its contract: the size of a NaN's bits is above an infinity's, and no other is. Assumes nothing.
use mathlib.Core.Path.{sym}
use lib.Ieee.{of_bits}
use Rattle.elementary.proofs.Laws.Bits.{nan_pattern, no_nan_pattern}
use Rattle.elementary.proofs.methods.float_of.Goals as goal

pub returns-then-b-gt9218868437227405312 : goal.returns-then-b-gt9218868437227405312
unfolding of_bits
returns-then-b-gt9218868437227405312 c = sym (nan_pattern c.args.b c.if-b-gt9218868437227405312.true)

pub float_from_bits-result : goal.float_from_bits-result
float_from_bits-result c = no_nan_pattern c.args.b c.if-b-gt9218868437227405312.false
