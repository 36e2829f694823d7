-- `book::filed_steps` meets its contract: the limit's 32 bits are those of a number from 0 on, or of one below.
use mathlib.Core.Path.{◌∙◌}
use mir.Syntax.{w32}
use mir.ValLaws.{to_z-of_z}
use Rattle.solver.specs.LittleEndian.{number_at}
use Rattle.solver.proofs.Laws.Bytes.{steps_cast}
use Rattle.solver.proofs.book.filed_steps.Goals as goal

pub returns : goal.returns
returns c = c.steps_of.ensures ∙ rw (to_z-of_z w32 c.limit_in.result (record { sfits = c.limit_in.type_inv }), c.limit_in.ensures) (steps_cast (number_at 40 4 c.args.r.now))
