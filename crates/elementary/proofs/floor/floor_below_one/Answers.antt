-- `floor_below_one` meets its contract: the sign decides between 0 and −1, and −0.0 stays. Assumes nothing.
use native.Mathlib.Omega.{arith}
use lib.Ieee.{neg, of_bits}
use Rattle.elementary.specs.Floor.{floor_of}
use Rattle.elementary.proofs.floor.Laws.{floor_small, floor_small_negative}
use Rattle.elementary.proofs.floor.floor_below_one.Goals as goal

pub returns-then-b-lt9223372036854775808 : goal.returns-then-b-lt9223372036854775808
returns-then-b-lt9223372036854775808 c = floor_small c.args.b c.if-b-lt9223372036854775808.true c.requires

pub returns-then-b-eq9223372036854775808 : goal.returns-then-b-eq9223372036854775808
unfolding neg of_bits floor_of
returns-then-b-eq9223372036854775808 c = rw c.if-b-eq9223372036854775808.true

pub returns : goal.returns
returns c = floor_small_negative c.args.b (omega (arith, c.if-b-eq9223372036854775808.false)) (omega arith) c.requires
