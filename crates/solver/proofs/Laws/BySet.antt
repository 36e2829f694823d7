-- What a call says by its own rule set, said by the one that is asked for. Where the two differ, it is this equation that is refused, and nothing else is compared. Assumes nothing.
use mathlib.Core.Path.{◌≡◌, subst}
use Rattle.elementary.specs.declared.rule_set.RuleSet.{RuleSet}

pub by_set : (P : RuleSet → Type 0) (set : RuleSet) {other : RuleSet} → P other → other ≡ set → P set
by_set P set h e = subst P e h
