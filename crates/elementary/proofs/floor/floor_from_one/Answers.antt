-- `floor_from_one` meets its contract: what is cut off `c` leaves the floor's own bits. Assumes nothing.
use mathlib.Core.Path.{ap, ◌∙◌}
use mathlib.Core.Logic.{inl, inr}
use Prim.Native.Nat.{ℕ, ◌+◌, ◌-◌, ◌^◌, ◌<◌}
use native.Mathlib.Omega.{arith}
use lib.Pow.{pow_mono}
use Rattle.elementary.proofs.floor.Laws.{AddUnit, unit_is, floor_cut, floor_cut_no_nan}
use Rattle.elementary.proofs.floor.floor_from_one.Goals as goal
use Rattle.elementary.proofs.floor.floor_from_one.Goals.{then-b-ge9223372036854775808, else-b-ge9223372036854775808}

module _ (c : goal.After-row_known-1) where
  abbrev b : ℕ
  b = c.args.b

  abbrev d : ℕ
  d = c.args.d

  width : b < 2 ^ 64
  width = omega arith

  add_unit : AddUnit b (2 ^ d) c.if-b-ge9223372036854775808.c
  add_unit = elim c.if-b-ge9223372036854775808.branch [ then-b-ge9223372036854775808 w ↦ inl (w.if-b-ge9223372036854775808.true, w.c-is ∙ ap (λ (z : ℕ). b + (z - 1)) (unit_is d c.requires.1)) | else-b-ge9223372036854775808 w ↦ inr (w.if-b-ge9223372036854775808.false, w.c-is) ]

pub overflow_add-c : goal.overflow_add-c
overflow_add-c c = omega (arith, unit_is c.args.d c.requires.1, pow_mono c.requires.1)

pub float_from_bits-result : goal.float_from_bits-result
float_from_bits-result c =
    let p = c.requires in
    rw (unit_is (d c) p.1) (floor_cut_no_nan (b c) (d c) p.0 p.1 (width c) p.2 c.if-b-ge9223372036854775808.c (add_unit c))

pub returns : goal.returns
returns c =
    let p = c.requires in
    rw (unit_is (d c) p.1) (floor_cut (b c) (d c) p.0 p.1 (width c) p.2 c.if-b-ge9223372036854775808.c (add_unit c))
