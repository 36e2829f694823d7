-- `vega::vega_with` meets its contract: each way out is the arm that the tests before it leave. Assumes nothing.
use Rattle.prices.specs.Vega.{vega_of}
use Rattle.prices.proofs.vega.vega_with.Goals as goal

pub returns-then-ax : goal.returns-then-ax
unfolding vega_of
returns-then-ax g c = rw (c.at_the_money.ensures, ← c.abs-ax.ensures, c.if-ax.true)

pub returns-then-vega_vanishes : goal.returns-then-vega_vanishes
unfolding vega_of
returns-then-vega_vanishes g c = rw (← c.abs-ax.ensures, c.if-ax.false, ← c.vega_vanishes.ensures, c.if-vega_vanishes.true)

pub returns : goal.returns
unfolding vega_of
returns g c = rw (← c.abs-ax.ensures, c.if-ax.false, ← c.vega_vanishes.ensures, c.if-vega_vanishes.false, c.bell.ensures)
