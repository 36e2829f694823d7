-- `round::parts_of` meets its contract: a subnormal pattern has no leading digit, any other has (Decode). Assumes nothing.
use mathlib.Core.Path.{sym, subst}
use mathlib.Core.Bool.{Bool}
use native.Mathlib.Omega.{arith}
use Rattle.elementary.specs.Inside.Round.{PartsOf}
use Rattle.elementary.proofs.Laws.Bits.{fits_by}
use Rattle.elementary.proofs.Laws.Decode as decode
use Rattle.elementary.proofs.round.parts_of.Goals as goal

pub float_to_bits-b : goal.float_to_bits-b
float_to_bits-b c = decode.finite_no_nan c.args.x c.requires

pub returns-then-f-eq0 : goal.returns-then-f-eq0
returns-then-f-eq0 c =
    let r = c.subnormal_parts in
    subst (λ (s : Bool). PartsOf c.args.x s r.result.m r.result.e) (sym r.ensures.neg) (decode.low_value c.args.x (fits_by c.args.x c.well_formed.0.1) c.if-f-eq0.true r.result.m r.result.e r.ensures.value)

pub returns : goal.returns
returns c = decode.normal_value c.args.x (fits_by c.args.x c.well_formed.0.1) (omega arith) (decode.finite_field c.args.x (fits_by c.args.x c.well_formed.0.1) c.requires)
