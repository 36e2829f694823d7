-- `product::solve::solve_with_trail_for` meets its contract: where no rule set or no quote is asked, the trail stays. Assumes nothing.
use mathlib.Core.Path.{◌≡◌}
use Rattle.std.proofs.Common.{rules}
use Rattle.std.specs.Prelude.{Ok, Err}
use Rattle.solver.specs.Trail.{trail_after}
use Rattle.abi.proofs.product.solve.solve_with_trail_for.Goals as goal

pub returns-in_err-set-clause-trail_after : goal.returns-in_err-set-clause-trail_after
unfolding trail_after
returns-in_err-set-clause-trail_after c =
    let s : c.args.set ≡ Err c.in_err-set.field-0.0 = search rules in
    rw s

pub returns-in_err-asked-clause-trail_after : goal.returns-in_err-asked-clause-trail_after
unfolding trail_after
returns-in_err-asked-clause-trail_after c =
    let s : c.args.set ≡ Ok c.in_ok-set.field-0 = search rules in
    let e : c.args.asked ≡ Err c.in_err-asked.field-0.0 = search rules in
    rw (s, e)
