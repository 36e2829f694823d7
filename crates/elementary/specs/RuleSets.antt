-- Rule sets (document 02's term). The struct in src/rule_set.rt says what a rule set decides, and each definition that it concerns takes it as an
-- argument: a later rule set is one more value, and one more number. Definitions only.
use Rattle.std.specs.Prelude.{true, false, cond, ℕ, eqb, Result, Ok, Err}
use Rattle.elementary.specs.declared.rule_set.RuleSet.{RuleSet}
use Rattle.elementary.specs.declared.rule_set.UnknownRuleSet.{UnknownRuleSet}

-- the rules of document 01, which are the Rust's
abbrev pub rule_set_0 : RuleSet
rule_set_0 = record { textbook_cap = false; far_factor = true }

-- document 02's ticket 2: a Call is capped at the forward and a Put at the strike; all else is rule set 0's
abbrev pub rule_set_1 : RuleSet
rule_set_1 = record { textbook_cap = true; far_factor = true }

-- the rule set that a number says: 0 and 1, and no other
abbrev pub rule_set_of : ℕ → Result RuleSet UnknownRuleSet
rule_set_of number = cond (eqb number 0) (Ok rule_set_0) (cond (eqb number 1) (Ok rule_set_1) (Err (record {})))
