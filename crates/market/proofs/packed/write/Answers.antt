-- `packed::write` meets its contract. Assumes nothing.
use Rattle.std.proofs.Common.{rules}
use Rattle.market.specs.Packed.{write_of}
use Rattle.market.proofs.packed.write.Goals as goal

pub returns-in_err-units-clause-value : goal.returns-in_err-units-clause-value
unfolding write_of
returns-in_err-units-clause-value c = search rules

pub returns-in_err-units-clause-packed_after : goal.returns-in_err-units-clause-packed_after
unfolding write_of
returns-in_err-units-clause-packed_after c = search rules

pub returns-clause-value : goal.returns-clause-value
unfolding write_of
returns-clause-value c = search rules

pub returns-clause-packed_after : goal.returns-clause-packed_after
unfolding write_of
returns-clause-packed_after c = search rules
