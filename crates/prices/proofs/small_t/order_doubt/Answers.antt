-- `small_t::order_doubt` meets its contract, by its test. Assumes nothing.
use mathlib.Core.Path.{sym, subst}
use lib.Dec.{T}
use Rattle.elementary.proofs.Laws.Decode.{finite_no_nan}
use Rattle.prices.proofs.Laws.Sizes.{size_number}
use Rattle.prices.proofs.small_t.order_doubt.Goals as goal

pub float_to_bits-p : goal.float_to_bits-p
float_to_bits-p c = finite_no_nan c.args.x c.requires.x_finite

pub float_from_bits-p : goal.float_from_bits-p
float_from_bits-p c = size_number c.args.x (subst T (sym c.well_formed.0.1) tt) c.requires.x_finite

pub float_to_bits-q : goal.float_to_bits-q
float_to_bits-q c = finite_no_nan c.args.y c.requires.y_finite

pub float_from_bits-q : goal.float_from_bits-q
float_from_bits-q c = size_number c.args.y (subst T (sym c.well_formed.1.0.1) tt) c.requires.y_finite
