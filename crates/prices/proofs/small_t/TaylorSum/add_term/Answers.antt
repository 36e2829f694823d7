-- `small_t::TaylorSum::add_term` meets its contract, as the fused step does. Assumes nothing.
use native.Mathlib.Omega.{arith}
use lib.Dec.{lit<, lit≤}
use Rattle.prices.proofs.Laws.Sizes.{looser, over}
use Rattle.prices.proofs.small_t.TaylorSum.add_term.Goals as goal

pub fma_ordered-f-requires : goal.fma_ordered-f-requires
fma_ordered-f-requires g c = λ r. let p = c.requires r in record { a_within = over (lit< tt) p.y_within p.factorial_over; b_within = looser 300 (lit≤ tt) p.power_within; c_within = p.sum_within }

pub returns-clause-bound : goal.returns-clause-bound
returns-clause-bound g c = λ r n m l s.
    let p = c.requires r in
    c.fma_ordered-f.ensures.grows r n 0 n (omega arith) l (looser n m (over (lit< tt) p.y_within p.factorial_over)) p.power_within s
