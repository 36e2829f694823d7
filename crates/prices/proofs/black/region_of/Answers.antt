-- `black::region_of` meets its contract: each way out is the arm that the tests before it leave. Assumes nothing.
use Rattle.prices.proofs.black.region_of.Goals as goal

pub returns-then-s-abs : goal.returns-then-s-abs
returns-then-s-abs c = rw (rw c.abs.ensures at c.if-s-abs.true)

pub returns-then-is_asymptotic : goal.returns-then-is_asymptotic
returns-then-is_asymptotic c =
    let elsewhere = c.before.before in
    rw (rw elsewhere.abs.ensures at elsewhere.if-s-abs.false, rw c.is_asymptotic.ensures at c.if-is_asymptotic.true)

pub returns-then-s : goal.returns-then-s
returns-then-s c =
    let elsewhere = c.before.before.before in
    rw (rw elsewhere.abs.ensures at elsewhere.if-s-abs.false, rw c.is_asymptotic.ensures at c.if-is_asymptotic.false, c.if-s.true)

pub returns-else-s : goal.returns-else-s
returns-else-s c =
    let elsewhere = c.before.before.before in
    rw (rw elsewhere.abs.ensures at elsewhere.if-s-abs.false, rw c.is_asymptotic.ensures at c.if-is_asymptotic.false, c.if-s.false)
