-- `rational_cubic::convex_rational_cubic_control_parameter` meets its contract: the greater of what the two calls ensure. Assumes nothing.
use mathlib.Core.Path.{◌∙◌, ap₂}
use Rattle.elementary.specs.Methods.{max_of}
use Rattle.prices.specs.RationalCubic.{convex_parameter_of}
use Rattle.prices.proofs.rational_cubic.convex_rational_cubic_control_parameter.Goals as goal

pub returns : goal.returns
unfolding convex_parameter_of
returns c = c.max.ensures ∙ ap₂ max_of c.rational_cubic_control_parameter-r.ensures c.minimum_rational_cubic_control_parameter-r_min.ensures
