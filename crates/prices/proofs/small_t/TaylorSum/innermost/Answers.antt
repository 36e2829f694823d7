-- `small_t::TaylorSum::innermost` meets its contract, as the fused step does. Assumes nothing.
use Prim.Native.Nat.{ℕ, ◌^◌, ◌<◌}
use native.Mathlib.Nat.{le_of_lt}
use lib.Dec.{lit<, lit≤}
use lib.Ieee.{Float, neg}
use Rattle.elementary.specs.Ops.{◌⊕◌, float, one}
use Rattle.prices.specs.Inside.SmallT.{Within}
use Rattle.prices.proofs.Laws.Sizes.{looser, plus, opposite, whole, of_pattern}
use Rattle.prices.proofs.small_t.Ranges.{a_within, square_within}
use Rattle.prices.proofs.small_t.TaylorSum.innermost.Goals as goal

minus_one : Within (neg one) 1
minus_one = opposite (of_pattern 0x3ff0_0000_0000_0000 1 (lit≤ tt) (lit< tt))

bracket : (h2 : Float) (c : ℕ) → Within h2 34 → c < 2 ^ 19 → Within (h2 ⊕ float c) 35
bracket h2 c h l = plus 35 (lit< tt) (lit< tt) (lit< tt) h (whole c 19 (le_of_lt l) (lit≤ tt))

pub fma-requires : goal.fma-requires
fma-requires g c = λ r.
    let h = c.args.self.now.in_ranges r in
    record { a_within = looser 300 (lit≤ tt) (a_within h); b_within = looser 300 (lit≤ tt) (bracket _ _ (square_within h) c.requires); c_within = looser 600 (lit≤ tt) minus_one }

pub returns-clause-within : goal.returns-clause-within
returns-clause-within g c = λ r.
    let h = c.args.self.now.in_ranges r in
    c.fma.ensures.grows r 1 35 36 (lit≤ tt) (lit≤ tt) (a_within h) (bracket _ _ (square_within h) c.requires) (looser 36 (lit≤ tt) minus_one)
