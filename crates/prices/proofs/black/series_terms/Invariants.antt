-- `black::series_terms` meets its contract: before term i, the terms from 3 on are those from i on with the present sum, sign and term. Assumes nothing.
use Rattle.std.proofs.Common.{◌≡◌, ◌-◌}
use Rattle.elementary.specs.Ops.{one}
use Rattle.std.specs.Float.Ieee.{neg}
use Rattle.prices.specs.Black.{series_terms}
use Rattle.prices.proofs.black.series_terms.Given as goal

abbrev pub invariant-loop-i : goal.invariant-loop-i
invariant-loop-i l = series_terms 15 3 l.z2 l.start (neg one) l.first ≡ series_terms (18 - l.i) l.i l.z2 l.y l.sign l.term
