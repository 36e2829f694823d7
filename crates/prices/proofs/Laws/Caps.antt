-- No rule of this layer looks at where a price is capped: rule sets that differ in that alone have the same prices. Assumes nothing.
use mathlib.Core.Path.{◌≡◌}
use mathlib.Core.Bool.{Bool}
use lib.Ieee.{Float}
use Rattle.elementary.specs.declared.rule_set.RuleSet.{RuleSet}
use Rattle.elementary.proofs.Laws.Caps.{capped, erfc_alike}
use Rattle.prices.specs.Black.{codys_of, region_of, out_of_the_money, call_at, call_of}

module _ (cap : Bool) (set : RuleSet) where
  codys_alike : (x s : Float) → codys_of (capped cap set) x s ≡ codys_of set x s
  unfolding codys_of
  codys_alike x s = rw (erfc_alike cap set _, erfc_alike cap set _)

  out_alike : (x s : Float) → out_of_the_money (capped cap set) x s ≡ out_of_the_money set x s
  unfolding out_of_the_money region_of
  out_alike x s = rw (codys_alike x s)

  pub call_alike : (x s : Float) → call_of (capped cap set) x s ≡ call_of set x s
  unfolding call_at
  call_alike x s = rw (out_alike x s, out_alike _ s)
