-- `normal_distribution::inverse_f_upper_map` meets its contract. Assumes nothing.
use Rattle.elementary.specs.NormalDistribution.{inverse_f_upper_map_of}
use Rattle.elementary.proofs.normal_distribution.inverse_f_upper_map.Goals as goal

pub returns : goal.returns
unfolding inverse_f_upper_map_of
returns c = rw c.inverse_normal_cdf.ensures
