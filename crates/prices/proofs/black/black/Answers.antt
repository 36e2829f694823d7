-- `black::black` meets its contract: each way out is the arm that the tests before it leave. Assumes nothing.
use mathlib.Core.Path.{◌≡◌, sym, ◌∙◌}
use mathlib.Core.Bool.{Bool}
use Rattle.prices.specs.Black.{black_of}
use Rattle.prices.proofs.black.black.Goals as goal

-- what a call said of its argument, by the value that it gave
said : {r b v : Bool} → r ≡ b → r ≡ v → b ≡ v
said e h = sym e ∙ h

pub returns-then-not-is_positive_normal : goal.returns-then-not-is_positive_normal
unfolding black_of
returns-then-not-is_positive_normal c = rw (said c.is_positive_normal.ensures c.if-not-is_positive_normal.true)

pub returns-then-not-is_positive_normal-2 : goal.returns-then-not-is_positive_normal-2
unfolding black_of
returns-then-not-is_positive_normal-2 c = rw (said c.is_positive_normal.ensures c.if-not-is_positive_normal.false, said c.is_positive_normal-2.ensures c.if-not-is_positive_normal-2.true)

pub returns-then-not-is_finite : goal.returns-then-not-is_finite
unfolding black_of
returns-then-not-is_finite c = rw (said c.is_positive_normal.ensures c.if-not-is_positive_normal.false, said c.is_positive_normal-2.ensures c.if-not-is_positive_normal-2.false, said c.is_finite.ensures c.if-not-is_finite.true)

pub returns-then-not-is_positive_normal-3 : goal.returns-then-not-is_positive_normal-3
unfolding black_of
returns-then-not-is_positive_normal-3 c = rw (said c.is_positive_normal.ensures c.if-not-is_positive_normal.false, said c.is_positive_normal-2.ensures c.if-not-is_positive_normal-2.false, said c.is_finite.ensures c.if-not-is_finite.false, said c.is_positive_normal-3.ensures c.if-not-is_positive_normal-3.true)

pub returns : goal.returns
unfolding black_of
returns c = rw (said c.is_positive_normal.ensures c.if-not-is_positive_normal.false, said c.is_positive_normal-2.ensures c.if-not-is_positive_normal-2.false, said c.is_finite.ensures c.if-not-is_finite.false, said c.is_positive_normal-3.ensures c.if-not-is_positive_normal-3.false) c.black_at.ensures
