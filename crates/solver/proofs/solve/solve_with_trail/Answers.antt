-- `solve::solve_with_trail` meets its contract: a trail is kept. Assumes nothing.
use lib.ListN.{length}
use mathlib.Core.Path.{◌≡◌, refl, ap}
use Rattle.std.proofs.Common.{rules}
use Rattle.solver.specs.Solve.{solve_with_trail}
use Rattle.solver.specs.Trail.{trail_after}
use Rattle.solver.proofs.Laws.BySet.{by_set}
use Rattle.solver.proofs.solve.solve_with_trail.Goals as goal

pub returns-clause-value : goal.returns-clause-value
unfolding solve_with_trail
returns-clause-value c =
    let a = c.args in
    by_set (λ s. c.solve_keeping.result ≡ (solve_with_trail s a.quote a.limit (length a.trail.now)).answer) a.set c.solve_keeping.ensures.value refl

pub returns-clause-trail_after : goal.returns-clause-trail_after
unfolding solve_with_trail
returns-clause-trail_after c =
    let a = c.args in
    let said = by_set (λ s. c.solve_keeping.new.recorder.bytes.now ≡ trail_after (solve_with_trail s a.quote a.limit (length a.trail.now)).records a.trail.now) a.set (ap (λ t. t.bytes.now) c.solve_keeping.ensures.recorder_after) refl in
    search rules
