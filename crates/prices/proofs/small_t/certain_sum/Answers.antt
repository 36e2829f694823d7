-- `small_t::certain_sum` meets its contract: the flag is 0 only where both sums have the same bits. Assumes nothing.
use mathlib.Core.Path.{sym, subst}
use lib.Dec.{T}
use lib.Bits.{bit_xor}
use lib.Ieee.{Float, binary64, fits, to_bits}
use Rattle.elementary.specs.Ops.{◌⊕◌}
use Rattle.elementary.specs.Inside.Errors.{inward, outward}
use Prim.Native.Nat.{ℕ}
use native.Mathlib.Omega.{arith}
use Rattle.prices.proofs.Laws.Flags.{xor_same, or_left, or_right}
use Rattle.prices.proofs.Laws.Sizes.{is_finite, is_number, rounded_room, next_number, outward_sum, inward_sum}
use Rattle.prices.proofs.small_t.certain_sum.Goals as goal

abbrev differ : Float → Float → ℕ
differ s w = bit_xor (to_bits binary64 (s ⊕ inward w)) (to_bits binary64 (s ⊕ outward w))

fits_w : (c : goal.Start) → T (fits binary64 c.args.w)
fits_w c = subst T (sym c.well_formed.1.0.1) tt

pub float_to_bits-outward : goal.float_to_bits-outward
float_to_bits-outward c = is_number c.requires.w_within

pub overflow_add-outward : goal.overflow_add-outward
overflow_add-outward c = omega (arith, rounded_room c.args.w (fits_w c) (is_finite c.requires.w_within))

pub float_from_bits-outward : goal.float_from_bits-outward
float_from_bits-outward c = next_number c.args.w (fits_w c) (is_finite c.requires.w_within)

pub float_to_bits-result : goal.float_to_bits-result
float_to_bits-result c = is_number (inward_sum (fits_w c) c.requires.s_within c.requires.w_within)

pub float_to_bits-result-2 : goal.float_to_bits-result-2
float_to_bits-result-2 c = is_number (outward_sum (fits_w c) c.requires.s_within c.requires.w_within)

pub returns-clause-no_earlier_doubt : goal.returns-clause-no_earlier_doubt
returns-clause-no_earlier_doubt c z = or_right (differ c.args.s c.args.w) c.args.doubt z

pub returns-clause-certain_unless_doubt : goal.returns-clause-certain_unless_doubt
returns-clause-certain_unless_doubt c z =
    let d = c.args in
    xor_same (to_bits binary64 (d.s ⊕ inward d.w)) (to_bits binary64 (d.s ⊕ outward d.w)) (or_left (differ d.s d.w) d.doubt z)
