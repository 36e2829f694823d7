-- `small_t::ByErrorsSteps::coefficient` meets its contract: all but the last sum is exact (Whole). Assumes nothing.
use mathlib.Core.Path.{sym, subst}
use lib.Dec.{T}
use lib.Ieee.{binary64, fits}
use Rattle.elementary.proofs.Laws.Errors.Whole.{high_number, split_is}
use Rattle.prices.proofs.Laws.Sizes.{split_within}
use Rattle.prices.proofs.small_t.ByErrorsSteps.coefficient.Goals as goal

fits_a : (c : goal.Start) → T (fits binary64 c.args.a)
fits_a c = subst T (sym c.well_formed.1.0.1) tt

pub float_from_bits-high : goal.float_from_bits-high
float_from_bits-high c = high_number c.args.a (fits_a c) c.args.p c.args.q (c.requires tt)

pub returns : goal.returns
returns c =
    let s = c.args in
    let f = fits_a c.before.before in
    record { value = split_is s.a f s.p s.q (c.requires tt); within = λ r. split_within s.a f s.p s.q (c.requires tt) }
