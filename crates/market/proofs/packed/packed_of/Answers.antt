-- `packed::packed_of` meets its contract: a quotient by a power of ten has the digits in front. Assumes nothing.
use Rattle.std.proofs.Common.{rules}
use native.Mathlib.Nat.{div-div-eq-div-mul}
use Rattle.market.specs.Packed.{packed_of}
use Rattle.market.proofs.packed.packed_of.Goals as goal
use Rattle.market.proofs.packed.packed_of.Goals.{then-units, else-units}

pub returns : goal.returns
unfolding packed_of
returns c = search (rules, div-div-eq-div-mul)
