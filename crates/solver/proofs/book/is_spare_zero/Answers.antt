-- `book::is_spare_zero` meets its contract: `all` asks of each byte that it is 0.
use mathlib.Core.Path.{◌∙◌}
use lib.Dec.{eqb}
use Rattle.std.proofs.Common.{rules, tests}
use Rattle.std.proofs.lemmas.Iterator.{YieldsList-from_slice}
use Rattle.std.proofs.lemmas.Iterator.Search.{all_from_yields_List}
use Rattle.solver.specs.LittleEndian.{part}
use Rattle.solver.proofs.book.Zeros.{zero_where_each}
use Rattle.solver.proofs.book.is_spare_zero.Goals as goal

pub returns : goal.returns
returns c =
    let spare = part 51 13 c.args.r.now in
    all_from_yields_List (λ b. eqb b 0) _ _ _ c.all.ensures.ran (YieldsList-from_slice spare c.iter.ensures.rest) (λ x b q k. search (rules, tests)) ∙ zero_where_each spare
