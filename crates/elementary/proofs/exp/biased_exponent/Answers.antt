-- `exp::biased_exponent` meets its contract. Assumes nothing.
use Rattle.elementary.proofs.exp.Bias.{cast, biased}
use Rattle.elementary.proofs.exp.biased_exponent.Goals as goal

pub float_to_int-result : goal.float_to_int-result
float_to_int-result c = (cast c.args.k c.requires).0

pub returns : goal.returns
returns c = biased c.args.k c.requires
