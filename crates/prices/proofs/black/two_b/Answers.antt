-- `black::two_b` meets its contract: each way out is the arm that the tests before it leave. Assumes nothing.
use Rattle.prices.specs.Inside.Exponentials.{two_b_with}
use Rattle.prices.proofs.black.two_b.Goals as goal

pub returns-then-q2 : goal.returns-then-q2
unfolding two_b_with
returns-then-q2 g c = rw (c.erfc-then-q2.ensures, c.down.ensures, c.erfc.ensures, c.up.ensures, c.if-q1.true, c.if-q2.true)

pub returns-then-q1 : goal.returns-then-q1
unfolding two_b_with
returns-then-q1 g c = rw (c.erfcx.ensures, c.bell.ensures, c.erfc.ensures, c.up.ensures, c.if-q1.true, c.if-q2.false)

pub returns-then-q2-2 : goal.returns-then-q2-2
unfolding two_b_with
returns-then-q2-2 g c = rw (c.erfc-then-q2-2.ensures, c.down-then-q2-2.ensures, c.erfcx-then-q2-2.ensures, c.bell-then-q2-2.ensures, c.if-q1.false, c.if-q2-2.true)

pub returns : goal.returns
unfolding two_b_with
returns g c = rw (c.erfcx-3.ensures, c.erfcx-2.ensures, c.bell-2.ensures, c.if-q1.false, c.if-q2-2.false)
