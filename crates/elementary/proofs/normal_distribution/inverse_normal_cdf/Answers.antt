-- `normal_distribution::inverse_normal_cdf` meets its contract: each way out is the arm that the tests before it leave. Assumes nothing.
use mathlib.Core.Path.{sym, ◌∙◌}
use lib.Ieee.{of_bits}
use Rattle.elementary.specs.NormalDistribution.{inverse_of}
use Rattle.elementary.proofs.Laws.Bits.{ne_self, is_nan_lem}
use Rattle.elementary.proofs.Laws.Inverse.{lowest_under, highest_over}
use Rattle.elementary.proofs.normal_distribution.inverse_normal_cdf.Goals as goal

pub returns-then-is_nan : goal.returns-then-is_nan
unfolding inverse_of
returns-then-is_nan c =
    let t = c.if-is_nan.ensures.value in
    rw (ne_self, ← t) (is_nan_lem _ (rw (← t) tt))

pub returns-then-p : goal.returns-then-p
unfolding inverse_of of_bits
returns-then-p c = rw (ne_self, ← c.if-is_nan.ensures.value, c.if-p.true)

pub returns-then-p-2 : goal.returns-then-p-2
unfolding inverse_of of_bits
returns-then-p-2 c = rw (ne_self, ← c.if-is_nan.ensures.value, c.if-p.false, c.if-p-2.true)

pub bisect-requires-clause-lowest_brackets : goal.bisect-requires-clause-lowest_brackets
bisect-requires-clause-lowest_brackets c = lowest_under _ _ (ne_self _ ∙ sym c.if-is_nan.ensures.value) c.if-p.false

pub bisect-requires-clause-highest_brackets : goal.bisect-requires-clause-highest_brackets
bisect-requires-clause-highest_brackets c = highest_over _ _ c.if-p-2.false

pub returns : goal.returns
unfolding inverse_of
returns c = rw (ne_self, ← c.if-is_nan.ensures.value, c.if-p.false, c.if-p-2.false) c.bisect.ensures
