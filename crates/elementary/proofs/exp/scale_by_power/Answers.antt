-- `exp::scale_by_power` meets its contract: the product with a float that is a power of two is rounded once. Assumes nothing.
use native.Mathlib.Omega.{arith}
use lib.Ieee.{binary64}
use Rattle.elementary.proofs.exp.Power as power
use Rattle.elementary.proofs.exp.scale_by_power.Goals as goal

pub returns : goal.returns
returns c =
    let a = c.before.before.before in
    power.mul_power binary64 a.args.p c.float_of_fields.result a.args.e 2048
    (power.field_power c.float_of_fields.result a.args.e (omega arith) c.float_of_fields.ensures)
