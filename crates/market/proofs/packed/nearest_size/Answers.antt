-- `packed::nearest_size` meets its contract: the aligned significand's ten-thousandths, shifted (Aligned). Assumes nothing.
use mathlib.Core.Path.{sym, ◌∙◌}
use native.Mathlib.Omega.{arith}
use Rattle.elementary.specs.Sqrt.{aligned_of}
use Rattle.elementary.proofs.Laws.Bits.{fits_by}
use Rattle.market.proofs.Laws.Aligned.{sized, places_in, no_overflow, cast_is, left_fits, none_left}
use Rattle.market.proofs.packed.nearest_size.Goals as goal

pub overflow_sub-places : goal.overflow_sub-places
overflow_sub-places c =
    let z = sized c.args.price (fits_by c.args.price c.well_formed.0.1) c.requires.sign c.requires.below in
    rw c.sqrt_aligned-aligned.ensures (no_overflow (aligned_of c.args.price).exponent z.range)

pub overflow_cast-places : goal.overflow_cast-places
overflow_cast-places c =
    let z = sized c.args.price (fits_by c.args.price c.well_formed.0.1) c.requires.sign c.requires.below in
    let E = (aligned_of c.args.price).exponent in
    rw (c.sqrt_aligned-aligned.ensures, cast_is E z.range) (tt, record { fits = omega (arith, places_in E z.range) })

pub returns-then-places-gt127 : goal.returns-then-places-gt127
returns-then-places-gt127 c =
    let z = sized c.args.price (fits_by c.args.price c.well_formed.0.1) c.requires.sign c.requires.below in
    let E = (aligned_of c.args.price).exponent in
    sym (none_left E z.range (aligned_of c.args.price).significand z.few (rw (c.sqrt_aligned-aligned.ensures, cast_is E z.range) at c.if-places-gt127.true)) ∙ z.size

pub nearest_shifted-requires-clause-number_bound :
    goal.nearest_shifted-requires-clause-number_bound
nearest_shifted-requires-clause-number_bound c =
    let z = sized c.args.price (fits_by c.args.price c.well_formed.0.1) c.requires.sign c.requires.below in
    rw c.sqrt_aligned-aligned.ensures (omega (arith, z.few))

pub nearest_shifted-requires-clause-places_low : goal.nearest_shifted-requires-clause-places_low
nearest_shifted-requires-clause-places_low c =
    let z = sized c.args.price (fits_by c.args.price c.well_formed.0.1) c.requires.sign c.requires.below in
    let E = (aligned_of c.args.price).exponent in
    rw (c.sqrt_aligned-aligned.ensures, cast_is E z.range) (omega (arith, places_in E z.range))

pub overflow_cast-result : goal.overflow_cast-result
overflow_cast-result c =
    let z = sized c.args.price (fits_by c.args.price c.well_formed.0.1) c.requires.sign c.requires.below in
    let E = (aligned_of c.args.price).exponent in
    let r = rw (c.sqrt_aligned-aligned.ensures, cast_is E z.range) at c.nearest_shifted.ensures in
    record { fits = omega (arith, r, left_fits E z.range (aligned_of c.args.price).significand z.few) }

pub returns : goal.returns
returns c =
    let z = sized c.args.price (fits_by c.args.price c.well_formed.0.1) c.requires.sign c.requires.below in
    let E = (aligned_of c.args.price).exponent in
    rw (c.sqrt_aligned-aligned.ensures, cast_is E z.range) at c.nearest_shifted.ensures ∙ z.size
