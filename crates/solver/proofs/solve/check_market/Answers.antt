-- `solve::check_market` meets its contract: each way out is the first test that fails. Assumes nothing.
use mathlib.Core.Path.{◌≡◌, sym, ◌∙◌}
use mathlib.Core.Bool.{Bool}
use Rattle.solver.specs.Solve.{market_check}
use Rattle.solver.proofs.solve.check_market.Goals as goal

-- what a call said of its argument, by the value that it gave
said : {r b v : Bool} → r ≡ b → r ≡ v → b ≡ v
said e h = sym e ∙ h

pub returns-then-not-is_positive_normal : goal.returns-then-not-is_positive_normal
unfolding market_check
returns-then-not-is_positive_normal c = rw (said c.is_positive_normal.ensures c.if-not-is_positive_normal.true)

pub returns-then-not-is_positive_normal-2 : goal.returns-then-not-is_positive_normal-2
unfolding market_check
returns-then-not-is_positive_normal-2 c = rw (said c.is_positive_normal.ensures c.if-not-is_positive_normal.false, said c.is_positive_normal-2.ensures c.if-not-is_positive_normal-2.true)

pub returns-then-not-is_positive_normal-3 : goal.returns-then-not-is_positive_normal-3
unfolding market_check
returns-then-not-is_positive_normal-3 c = rw (said c.is_positive_normal.ensures c.if-not-is_positive_normal.false, said c.is_positive_normal-2.ensures c.if-not-is_positive_normal-2.false, said c.is_positive_normal-3.ensures c.if-not-is_positive_normal-3.true)

pub returns : goal.returns
unfolding market_check
returns c = rw (said c.is_positive_normal.ensures c.if-not-is_positive_normal.false, said c.is_positive_normal-2.ensures c.if-not-is_positive_normal-2.false, said c.is_positive_normal-3.ensures c.if-not-is_positive_normal-3.false)
