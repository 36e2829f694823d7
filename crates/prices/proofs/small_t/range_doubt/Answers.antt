-- `small_t::range_doubt` meets its contract: a finite float has bits to read. Assumes nothing.
use Rattle.elementary.proofs.Laws.Decode.{finite_no_nan}
use Rattle.prices.proofs.small_t.range_doubt.Goals as goal

pub float_to_bits-result : goal.float_to_bits-result
float_to_bits-result c = finite_no_nan c.args.x c.requires
