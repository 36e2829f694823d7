-- `tables::cdf_of_thirty_seconds` meets its contract: each entry is the cdf. Assumes nothing.
use Rattle.elementary.proofs.tables.Laws.{cdf_number, cdf_entry}
use Rattle.elementary.proofs.tables.cdf_of_thirty_seconds.Goals as goal

pub float_from_bits-result : goal.float_from_bits-result
float_from_bits-result c = cdf_number _ c.requires.from_one c.requires.to_31

pub returns : goal.returns
returns c = λ set. cdf_entry set _ c.requires.from_one c.requires.to_31
