-- `small_t::ByErrorsSteps::fma_ordered` meets its contract: the step is right where it is certain, and the product is not the smaller one. Assumes nothing.
use mathlib.Core.Path.{◌∙◌}
use lib.Bits.{bit_or}
use Rattle.prices.proofs.Laws.Flags.{or_left, or_right}
use Rattle.prices.proofs.Laws.Sizes.{is_finite}
use Rattle.prices.proofs.small_t.FusedStep.{product_finite, sum_small, ordered_error_small, ordered_step_is, ordered_step_grows}
use Rattle.prices.proofs.small_t.ByErrorsSteps.fma_ordered.Goals as goal

pub order_doubt-requires : goal.order_doubt-requires
order_doubt-requires c = let w = c.well_formed.1 in record { x_finite = product_finite w.0.1 w.1.0.1 w.1.1.0.1 (c.requires tt); y_finite = is_finite (c.requires tt).c_within }

pub certain_sum-requires : goal.certain_sum-requires
certain_sum-requires c =
    let w = c.well_formed.1 in
    record { s_within = sum_small w.0.1 w.1.0.1 w.1.1.0.1 (c.requires tt); w_within = rw c.product_error.ensures (ordered_error_small w.0.1 w.1.0.1 w.1.1.0.1 (c.requires tt)) }

pub returns-clause-value : goal.returns-clause-value
returns-clause-value c = λ z.
    let w = c.well_formed.1 in
    let e = c.product_error.ensures in
    let sum = c.certain_sum.ensures in
    let x = c.range_doubt.result in
    let y = c.range_doubt-2.result in
    let o = c.order_doubt.result in
    let earlier = sum.no_earlier_doubt z in
    let ranges = or_left (bit_or x y) o earlier in
    let first = c.range_doubt.ensures (or_left x y ranges) in
    let second = c.range_doubt-2.ensures (or_right x y ranges) in
    let ordered = c.order_doubt.ensures (or_right (bit_or x y) o earlier) in
    sum.value ∙ rw e (ordered_step_is w.0.1 w.1.0.1 w.1.1.0.1 (c.requires tt) first second ordered (rw e at (sum.certain_unless_doubt z)))

pub returns-clause-grows : goal.returns-clause-grows
returns-clause-grows c = λ r. let w = c.well_formed.1 in rw (c.certain_sum.ensures.value, c.product_error.ensures) (ordered_step_grows w.0.1 w.1.0.1 w.1.1.0.1 (c.requires tt))
