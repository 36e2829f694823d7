-- `packed::units_of` meets its contract: what is not below 10 ^ 11 has too many digits, and what is below zero and not written as zero has a minus. Assumes nothing.
use mathlib.Core.Path.{refl, sym}
use Prim.Native.Nat.{◌^◌}
use native.Mathlib.Omega.{arith}
use borrow.Author.Tests.{lt-ltb, le-ltb}
use Rattle.market.proofs.Laws.Written.{abs_plus, written_below, refused_from, minus_below, zero_else}
use Rattle.market.proofs.packed.units_of.Goals as goal

pub returns-then-not-positive : goal.returns-then-not-positive
returns-then-not-positive c = sym (refused_from c.args.price (rw c.abs-positive.ensures at c.if-not-positive.true))

pub nearest_size-size-requires-clause-sign : goal.nearest_size-size-requires-clause-sign
nearest_size-size-requires-clause-sign c = rw c.abs-positive.ensures (abs_plus c.args.price)

pub nearest_size-size-requires-clause-below : goal.nearest_size-size-requires-clause-below
nearest_size-size-requires-clause-below c = rw c.if-not-positive.false tt

pub returns-then-size-gt-MOST_UNITS : goal.returns-then-size-gt-MOST_UNITS
returns-then-size-gt-MOST_UNITS c =
    let n = c.nearest_size-size.result in
    let is = written_below c.args.price (rw c.abs-positive.ensures at c.if-not-positive.false) in
    let size = rw c.abs-positive.ensures at c.nearest_size-size.ensures in
    rw (is, ← size, le-ltb n (10 ^ 15) (omega (arith, c.if-size-gt-MOST_UNITS.true))) refl

pub returns-then-price : goal.returns-then-price
returns-then-price c =
    let n = c.nearest_size-size.result in
    let is = written_below c.args.price (rw c.abs-positive.ensures at c.if-not-positive.false) in
    let size = rw c.abs-positive.ensures at c.nearest_size-size.ensures in
    rw (is, ← size, lt-ltb n (10 ^ 15) (omega (arith, c.if-size-gt-MOST_UNITS.false)), minus_below c.args.price c.if-price.true) refl

pub returns-else-price : goal.returns-else-price
returns-else-price c =
    let n = c.nearest_size-size.result in
    let is = written_below c.args.price (rw c.abs-positive.ensures at c.if-not-positive.false) in
    let size = rw c.abs-positive.ensures at c.nearest_size-size.ensures in
    rw (is, c.if-price.false, zero_else c.args.price c.if-price.false, ← size, lt-ltb n (10 ^ 15) (omega (arith, c.if-size-gt-MOST_UNITS.false))) refl
