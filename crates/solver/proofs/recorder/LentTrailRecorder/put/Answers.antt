-- A trail's `put` meets its contract: the record's bytes stand behind those of the records before it. Assumes nothing.
use mathlib.Core.Path.{◌≡◌, ap}
use mathlib.Core.List.{List}
use Prim.Native.Nat.{ℕ, ◌*◌}
use borrow.Rule.Slice.Mut.{set_vals}
use Rattle.solver.specs.declared.recorder.LentTrail.{LentTrail}
use Rattle.solver.specs.Trail.{record_bytes}
use Rattle.solver.proofs.Laws.LoopInvariant.{one_more}
use Rattle.solver.proofs.Laws.Parts.{part_overwritten}
use Rattle.solver.proofs.recorder.LentTrailRecorder.put.Goals as goal

-- the same trail, with other bytes
moved : (self first : LentTrail) (before bytes after : List ℕ) → self ≡ record first { bytes = record first.bytes { now = before } } → bytes ≡ after → record self { bytes = set_vals bytes self.bytes } ≡ record first { bytes = record first.bytes { now = after } }
moved self first before bytes after e f = rw (e, f)

pub returns-clause-after : goal.returns-clause-after
unfolding record_bytes
returns-clause-after c rs first n e =
    let a = c.args in
    let bytes = a.self.now.bytes.now in
    let written = one_more rs a.r first.bytes.now bytes _ a.steps n (ap (λ t. t.bytes.now) e) (part_overwritten (a.steps * 48) bytes (record_bytes a.r) _ c.put_record.ensures) in
    moved a.self.now first _ _ _ e written
