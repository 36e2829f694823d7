-- `small_t::ByErrorsSteps::fma` meets its contract: the step is right where it is certain. Assumes nothing.
use mathlib.Core.Path.{◌∙◌}
use Rattle.prices.proofs.Laws.Flags.{or_left, or_right}
use Rattle.prices.proofs.small_t.FusedStep.{sum_small, error_small, step_is, step_grows}
use Rattle.prices.proofs.small_t.ByErrorsSteps.fma.Goals as goal

pub certain_sum-requires : goal.certain_sum-requires
certain_sum-requires c = let w = c.well_formed.1 in record { s_within = sum_small w.0.1 w.1.0.1 w.1.1.0.1 (c.requires tt); w_within = rw c.product_error.ensures (error_small w.0.1 w.1.0.1 w.1.1.0.1 (c.requires tt)) }

pub returns-clause-value : goal.returns-clause-value
returns-clause-value c = λ z.
    let w = c.well_formed.1 in
    let e = c.product_error.ensures in
    let sum = c.certain_sum.ensures in
    let x = c.range_doubt.result in
    let y = c.range_doubt-2.result in
    let earlier = sum.no_earlier_doubt z in
    let first = c.range_doubt.ensures (or_left x y earlier) in
    let second = c.range_doubt-2.ensures (or_right x y earlier) in
    sum.value ∙ rw e (step_is w.0.1 w.1.0.1 w.1.1.0.1 (c.requires tt) first second (rw e at (sum.certain_unless_doubt z)))

pub returns-clause-grows : goal.returns-clause-grows
returns-clause-grows c = λ r. let w = c.well_formed.1 in rw (c.certain_sum.ensures.value, c.product_error.ensures) (step_grows w.0.1 w.1.0.1 w.1.1.0.1 (c.requires tt))
