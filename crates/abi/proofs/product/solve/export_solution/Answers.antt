-- `product::solve::export_solution` meets its contract: what is refused has a NaN's bits. Assumes nothing.
use lib.Ieee.{div, of_bits}
use Rattle.abi.proofs.product.solve.export_solution.Goals as goal

pub returns-in-Err-clause-value : goal.returns-in-Err-clause-value
unfolding div of_bits
returns-in-Err-clause-value c = rw (c.in-Err.is, c.bits_of-in-Err.ensures)
