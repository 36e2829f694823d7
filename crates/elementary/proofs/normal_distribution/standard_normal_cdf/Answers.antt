-- `normal_distribution::standard_normal_cdf` meets its contract. Assumes nothing.
use Rattle.elementary.specs.NormalDistribution.{cdf_of}
use Rattle.elementary.proofs.normal_distribution.standard_normal_cdf.Goals as goal

pub returns : goal.returns
unfolding cdf_of
returns c = rw c.erfc.ensures
