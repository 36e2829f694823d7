-- `intrinsic::normalised_intrinsic` meets its contract: each way out is the arm that the tests before it leave. Assumes nothing.
use Rattle.prices.specs.Intrinsic.{intrinsic_of}
use Rattle.prices.proofs.intrinsic.normalised_intrinsic.Goals as goal

pub returns-then-mul : goal.returns-then-mul
unfolding intrinsic_of
returns-then-mul c = rw (rw c.mul.ensures at c.if-mul.true)

pub returns-then-x : goal.returns-then-x
unfolding intrinsic_of
returns-then-x c = rw (rw c.mul.ensures at c.if-mul.false, c.if-x.true) c.near.ensures

pub returns : goal.returns
unfolding intrinsic_of
returns c = rw (rw c.mul.ensures at c.if-mul.false, c.if-x.false) c.far.ensures
