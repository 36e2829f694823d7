-- `floor` meets its contract: it and its parts go by the bits b, and x is the float with those bits. Assumes nothing.
use mathlib.Core.Path.{◌≡◌, refl, ap, ◌∙◌}
use native.Mathlib.Omega.{arith}
use mathlib.Core.Bool.{true}
use lib.Ieee.{Float, fits, binary64, of_bits, to_bits}
use lib.Ieee.Bits.{of_bits-to_bits}
use Rattle.elementary.specs.Floor.{floor_of}
use Rattle.elementary.proofs.Laws.Bits.{nan_by}
use Rattle.elementary.proofs.floor.Laws.{floor_large}
use Rattle.elementary.proofs.floor.floor.Goals as goal

back : (x : Float) → fits binary64 x ≡ true → of_bits binary64 (to_bits binary64 x) ≡ x
back x h = of_bits-to_bits binary64 x (rw h tt)

pub returns-then-is_nan : goal.returns-then-is_nan
unfolding floor_of
returns-then-is_nan c = rw (nan_by c.args.x c.if-is_nan.ensures.value) refl

pub returns-then-e-ge1075 : goal.returns-then-e-ge1075
returns-then-e-ge1075 c = rw (back c.args.x c.well_formed.0.1) at (floor_large (to_bits binary64 c.args.x) (omega arith))

pub returns-then-e-lt1023 : goal.returns-then-e-lt1023
returns-then-e-lt1023 c = c.floor_below_one.ensures ∙ ap (floor_of binary64) (back c.args.x c.well_formed.0.1)

pub returns : goal.returns
returns c = c.floor_from_one.ensures ∙ ap (floor_of binary64) (back c.args.x c.well_formed.0.1)
