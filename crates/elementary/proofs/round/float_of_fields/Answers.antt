-- `round::float_of_fields` meets its contract: the fields read back from the pattern (Fields). Assumes nothing.
use Rattle.elementary.proofs.Laws.Fields as fields
use Rattle.elementary.proofs.round.float_of_fields.Goals as goal

pub float_from_bits-result : goal.float_from_bits-result
float_from_bits-result c = fields.pattern_no_nan c.args.f c.args.t c.requires.f_high c.requires.t_high

pub returns : goal.returns
returns c = fields.pattern_value c.args.f c.args.t c.requires.f_high c.requires.t_high c.requires.f_low
