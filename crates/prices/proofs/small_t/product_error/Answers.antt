-- `small_t::product_error` meets its contract: a finite float has bits to cut and to round. Assumes nothing.
use mathlib.Core.Path.{sym, subst}
use lib.Dec.{T}
use lib.Ieee.{binary64, fits}
use native.Mathlib.Omega.{arith}
use Rattle.elementary.proofs.Laws.Decode.{finite_no_nan}
use Rattle.prices.proofs.Laws.Sizes.{rounded_room, rounded_number, cut_number}
use Rattle.prices.proofs.small_t.product_error.Goals as goal

module _ (c : goal.Start) where
  first : T (fits binary64 c.args.a)
  first = subst T (sym c.well_formed.0.1) tt

  second : T (fits binary64 c.args.b)
  second = subst T (sym c.well_formed.1.0.1) tt

pub float_to_bits-x : goal.float_to_bits-x
float_to_bits-x c = finite_no_nan c.args.a c.requires.a_finite

pub float_to_bits-y : goal.float_to_bits-y
float_to_bits-y c = finite_no_nan c.args.b c.requires.b_finite

pub overflow_add-ah : goal.overflow_add-ah
overflow_add-ah c = omega (arith, rounded_room c.args.a (first c) c.requires.a_finite)

pub overflow_mul-ah : goal.overflow_mul-ah
overflow_mul-ah c = omega (arith, rounded_room c.args.a (first c) c.requires.a_finite)

pub float_from_bits-ah : goal.float_from_bits-ah
float_from_bits-ah c = rounded_number c.args.a (first c) c.requires.a_finite

pub float_from_bits-bh : goal.float_from_bits-bh
float_from_bits-bh c = cut_number c.args.b (second c) c.requires.b_finite
