-- `rational_cubic::minimum_rational_cubic_control_parameter` meets its contract: at one way out the slopes are neither monotonic nor convex or concave, and at the other, where two paths join, they are one of these. Assumes nothing.
use mathlib.Core.Path.{sym, ◌∙◌}
use Rattle.prices.specs.RationalCubic.{minimum_parameter_of}
use Rattle.prices.proofs.rational_cubic.minimum_rational_cubic_control_parameter.Goals as goal
use Rattle.prices.proofs.rational_cubic.minimum_rational_cubic_control_parameter.Goals.{else-not-monotonic-via-then-not-monotonic+else-not-curved, else-not-monotonic-via-else-not-monotonic}

pub returns-then-not-curved : goal.returns-then-not-curved
unfolding minimum_parameter_of
returns-then-not-curved c = rw (sym c.is_monotonic-monotonic.ensures ∙ c.if-not-monotonic.true, sym c.is_convex_or_concave-curved.ensures ∙ c.if-not-curved.true)

pub returns : goal.returns
unfolding minimum_parameter_of
returns c =
    rw (c.max-2.ensures, c.max.ensures, c.shape_parameter-r2.ensures, c.monotonic_parameter-r1.ensures, ← c.is_monotonic-monotonic.ensures, ← c.is_convex_or_concave-curved.ensures)
    (elim c.else-not-monotonic.branch [
      | else-not-monotonic-via-then-not-monotonic+else-not-curved w ↦ rw (w.if-not-monotonic.true, w.if-not-curved.false)
      | else-not-monotonic-via-else-not-monotonic w ↦ rw w.if-not-monotonic.false
    ])
