-- `export::export_answer` meets its contract: what is refused has a NaN's bits. Assumes nothing.
use lib.Ieee.{div, of_bits}
use Rattle.abi.proofs.export.export_answer.Goals as goal

pub returns-in-Err-clause-value : goal.returns-in-Err-clause-value
unfolding div of_bits
returns-in-Err-clause-value g c = rw (c.in-Err.is, c.bits_of-in-Err.ensures)
