-- `inverse::Question::first_steps` meets its contract: each step halves the distance of the ends, in points. Assumes nothing.
use mathlib.Core.Bool.{true, false}
use Rattle.elementary.proofs.inverse.Laws.{at_start, next_points, test_of_cdf}
use Rattle.elementary.proofs.inverse.Question.first_steps.Goals as goal
use Rattle.elementary.proofs.inverse.Question.first_steps.Goals.{then-cdf_of_thirty_seconds-self, else-cdf_of_thirty_seconds-self}

pub loop-half-init : goal.loop-half-init
loop-half-init c = at_start c.requires.lowest_brackets c.requires.highest_brackets

pub loop-half-preserved : goal.loop-half-preserved
loop-half-preserved c =
    let l = c.loop-half in
    let is = c.cdf_of_thirty_seconds.ensures c.args.self.set in
    elim c.if-cdf_of_thirty_seconds-self.branch [
      | then-cdf_of_thirty_seconds-self w ↦ next_points l.half-index l.i c.loop-half-test.true l.invariant true (test_of_cdf _ _ _ _ _ is w.if-cdf_of_thirty_seconds-self.true) w.i-is
      | else-cdf_of_thirty_seconds-self w ↦ next_points l.half-index l.i c.loop-half-test.true l.invariant false (test_of_cdf _ _ _ _ _ is w.if-cdf_of_thirty_seconds-self.false) w.i-is
    ]
