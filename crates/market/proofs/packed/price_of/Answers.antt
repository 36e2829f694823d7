-- `packed::price_of` meets its contract: the quotient is the one rounding (Price). Assumes nothing.
use Rattle.market.proofs.Laws.Price.{plus, minus}
use Rattle.market.proofs.packed.price_of.Goals as goal
use Rattle.market.proofs.packed.price_of.Goals.{then-units, else-units}

pub returns : goal.returns
returns c =
    elim c.if-units.branch [
      | then-units w ↦ rw w.signed-is (minus c.args.units c.requires w.if-units.true)
      | else-units w ↦ rw w.signed-is (plus c.args.units c.requires w.if-units.false)
    ]
