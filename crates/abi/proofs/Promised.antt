-- The proof of the promise of specs/Promises: a number above 1 says no rule set, and each call looks at that first. Assumes nothing.
use mathlib.Core.Path.{refl}
use Rattle.elementary.proofs.RuleSets.{unknown_above_1}
use Rattle.solver.specs.Trail.{trail_after}
use Rattle.abi.specs.Promises.{UnknownRuleSets}

pub unknown_rule_sets : UnknownRuleSets
unfolding trail_after
unknown_rule_sets number h =
    let e = unknown_above_1 number h in
    record {
      solve = λ asked n. rw e;
      solve_with_trail = λ asked limit trail. rw e (refl, refl);
      target = λ asked. rw e;
      range = λ asked limit. rw e;
      range_with_trails = λ asked limit low high. rw e (refl, refl, refl);
      file = λ asked limit book used. rw e (refl, refl);
    }
