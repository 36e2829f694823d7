-- `black::series` meets its contract. Assumes nothing.
use lib.Ieee.{of_bits, of_int}
use Rattle.prices.specs.Black.{series_of}
use Rattle.prices.proofs.black.series.Goals as goal

pub returns : goal.returns
unfolding series_of of_bits of_int
returns c = c.series_terms.ensures
