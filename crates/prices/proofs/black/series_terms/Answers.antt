-- `black::series_terms` meets its contract: one more term is one unfolding, and after term 17 none is left. Assumes nothing.
use Rattle.std.proofs.Common.{◌≡◌, suc, ◌+◌, ◌-◌, sym, add-one, arith}
use Rattle.std.specs.Float.Ieee.{of_bits, of_int}
use Rattle.prices.specs.Black.{series_terms}
use Rattle.prices.proofs.black.series_terms.Goals as goal

pub loop-i-preserved : goal.loop-i-preserved
unfolding series_terms of_bits of_int
loop-i-preserved c =
    let i = c.loop-i.i in
    let k : 18 - i ≡ suc (18 - (i + 1)) = omega arith in
    rw (add-one i) (rw (k, add-one i) at c.loop-i.invariant)

pub returns : goal.returns
unfolding series_terms
returns c =
    let k : 18 - c.loop-i.i ≡ 0 = omega arith in
    sym (rw k at c.loop-i.invariant)
