-- `black::codys` meets its contract, by what its callees ensure. Assumes nothing.
use Rattle.prices.specs.Inside.Exponentials.{codys_with}
use Rattle.prices.proofs.black.codys.Goals as goal

pub returns : goal.returns
unfolding codys_with
returns g c = rw (c.max.ensures, c.two_b.ensures)
