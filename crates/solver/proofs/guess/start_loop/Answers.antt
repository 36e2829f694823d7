-- `guess::start_loop` meets its contract: a guess goes on, a refusal passes up. Assumes nothing.
use mathlib.Core.Path.{◌≡◌}
use Rattle.std.proofs.Common.{rules}
use Rattle.std.specs.Prelude.{Ok, Err}
use Rattle.solver.specs.Guess.{with_value}
use Rattle.solver.proofs.guess.start_loop.Goals as goal

pub returns-in_err-guess : goal.returns-in_err-guess
unfolding with_value
returns-in_err-guess c = λ set.
    let e : c.args.guess ≡ Err c.in_err-guess.field-0.0 = search rules in
    let r : c.from_residual.result ≡ Err c.in_err-guess.field-0.0 = search rules in
    rw (r, e)

pub returns : goal.returns
unfolding with_value
returns c = λ set.
    let e : c.args.guess ≡ Ok c.in_ok-guess.field-0 = search rules in
    rw (e, c.start_at.ensures)
