-- `normal_distribution::Argument::cdf_up_to_four` meets its contract: erfc's tests are known. Assumes nothing.
use Rattle.elementary.specs.Cody.{erfc_of, erfc_abs, erfcx_above_threshold}
use Rattle.elementary.proofs.normal_distribution.Argument.cdf_up_to_four.Goals as goal

pub returns : goal.returns
unfolding erfc_of erfc_abs erfcx_above_threshold
returns c = λ set.
    let h = c.requires in
    rw (c.on_side.ensures, c.cd.ensures, c.args.self.factor_is, ← c.args.self.y_is, h.over, h.short, h.side)
