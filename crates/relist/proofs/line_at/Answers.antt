-- `line_at` meets its contract: the part from the place on comes back with the line at its start. Assumes nothing.
use Rattle.relist.proofs.Laws.Parts.{line_in_part}
use Rattle.relist.proofs.line_at.Goals as goal

pub returns : goal.returns
returns c =
    let a = c.args in
    let t = line_in_part a.at a.lines.now a.index a.bytes.now _ _ c.requires c.line.ensures.value c.line.ensures.out_after in
    record { value = t.0; lines_after = t.1 }
