-- `tables::exp_of_negative_square_of_sixteenths` meets its contract: each entry is the exponential. Assumes nothing.
use mathlib.Core.Path.{◌≡◌}
use Rattle.std.proofs.Common.{rules, ◌<◌, slice_index_or}
use Rattle.elementary.specs.declared.tables.TheConstants.{SQUARES}
use Rattle.elementary.proofs.tables.Laws.{square_number, square_entry}
use Rattle.elementary.proofs.tables.exp_of_negative_square_of_sixteenths.Goals as goal

pub float_from_bits-result : goal.float_from_bits-result
float_from_bits-result c =
    let inside : c.args.k < 96 = search rules in
    let entry : c.in_ok-bits.bits.now ≡ slice_index_or SQUARES c.args.k 0 = search rules in
    rw entry (square_number c.args.k inside)

pub returns : goal.returns
returns c =
    let inside : c.args.k < 96 = search rules in
    let entry : c.in_ok-bits.bits.now ≡ slice_index_or SQUARES c.args.k 0 = search rules in
    rw entry (square_entry c.args.k inside)
