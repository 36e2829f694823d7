-- `solve::solve` meets its contract: no trail is kept. Assumes nothing.
use mathlib.Core.Path.{◌≡◌, refl}
use Rattle.solver.specs.Solve.{solve_of}
use Rattle.solver.proofs.Laws.BySet.{by_set}
use Rattle.solver.proofs.solve.solve.Goals as goal

pub returns : goal.returns
unfolding solve_of
returns c =
    let a = c.args in
    by_set (λ s. c.solve_keeping.result ≡ (solve_of s a.quote a.limit).answer) a.set c.solve_keeping.ensures.value refl
