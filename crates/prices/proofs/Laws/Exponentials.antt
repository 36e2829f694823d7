-- A price over given exponentials is the plain one at those of x; and what price_and_vega yields is the answer's. Assumes nothing.
use mathlib.Core.Path.{◌≡◌, refl}
use mathlib.Core.Bool.{Bool, true, false, cond}
use lib.Ieee.{Float, lt}
use Rattle.elementary.specs.Ops.{+0}
use Rattle.elementary.specs.declared.rule_set.RuleSet.{RuleSet}
use Rattle.prices.specs.Answers.{Answer}
use Rattle.std.specs.Prelude.{Ok, Err}
use Rattle.prices.specs.Black.{codys_of, out_of_the_money, call_at, call_of}
use Rattle.prices.specs.declared.point.PriceAndVega.{PriceAndVega}
use Rattle.prices.specs.declared.refusal.Refusal.{Refusal}
use Rattle.prices.specs.Inside.Exponentials.{up_of, down_of, two_b_with, codys_with, out_of_the_money_with, call_with}
use Rattle.prices.specs.Inside.Regions.{region_at}
use Rattle.prices.proofs.Laws.Regions.{in_region_lem}
use Rattle.prices.specs.Inside.Point.{price_and_vega}

-- at exp(x / 2) and exp(−x / 2)
module _ (set : RuleSet) (x s : Float) where
  pub codys_own : codys_with set (up_of x) (down_of x) x s ≡ codys_of set x s
  unfolding codys_with two_b_with codys_of
  codys_own = refl

  pub out_own : out_of_the_money_with set (up_of x) (down_of x) x s ≡ out_of_the_money set x s
  unfolding out_of_the_money_with
  out_own = rw codys_own (in_region_lem set x s (region_at x s) (region_at x s) refl refl)

pub at_own_exponentials : (set : RuleSet) (x s : Float) → call_with set (up_of x) (down_of x) x s ≡ call_of set x s
unfolding call_at
at_own_exponentials set x s = go (lt +0 x) refl
  where
    go : (b : Bool) → lt +0 x ≡ b → cond b (call_of set x s) (out_of_the_money_with set (up_of x) (down_of x) x s) ≡ call_of set x s
    go true e = refl
    go false e = rw (e, out_own set x s)

-- a price with a vega is the answer's, and so is a refusal
pub answer_is_price : (a : Answer) (v : Float) (p : PriceAndVega) → Ok p ≡ price_and_vega a v → (a ≡ Ok p.price) × (v ≡ p.vega)
answer_is_price (Ok b) v p e = (cc, cc)
answer_is_price (Err r) v p e = (cc, cc)

pub answer_is_refusal : (a : Answer) (v : Float) (r : Refusal) → Err r ≡ price_and_vega a v → a ≡ Err r
answer_is_refusal (Ok b) v r e = cc
answer_is_refusal (Err s) v r e = cc
