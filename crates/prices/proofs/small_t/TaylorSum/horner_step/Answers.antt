-- `small_t::TaylorSum::horner_step` meets its contract, as the fused step does. Assumes nothing.
use Prim.Native.Nat.{◌+◌}
use native.Mathlib.Omega.{arith}
use lib.Dec.{lit≤}
use Rattle.prices.proofs.Laws.Sizes.{looser}
use Rattle.prices.proofs.small_t.Ranges.{square_within, can_split}
use Rattle.prices.proofs.small_t.TaylorSum.horner_step.Goals as goal

pub coefficient-coefficient-requires : goal.coefficient-coefficient-requires
coefficient-coefficient-requires g c = λ r. can_split (c.args.self.now.in_ranges r) _ _ c.requires.p_high c.requires.q_high

pub fma-requires : goal.fma-requires
fma-requires g c = λ r.
    record {
      a_within = looser 300 (lit≤ tt) (square_within (c.args.self.now.in_ranges r));
      b_within = c.requires.sum_within r;
      c_within = looser 600 (lit≤ tt) (c.coefficient-coefficient.ensures.within r);
    }

pub returns-clause-bound : goal.returns-clause-bound
returns-clause-bound g c = λ r n l s.
    looser (n + 44) (omega arith) (c.fma.ensures.grows r 34 n (n + 34) (omega arith) (omega arith) (square_within (c.args.self.now.in_ranges r)) s (looser (n + 34) (omega arith) (c.coefficient-coefficient.ensures.within r)))
