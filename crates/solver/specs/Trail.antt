-- The bytes of the trail: 48 for each record, six floats as bits, and then what stood there before. Definitions only.
use Rattle.std.specs.Prelude.{List, [], ◌∷◌, ◌++◌, ℕ, ◌*◌, length, drop}
use Rattle.solver.specs.declared.state.Record.{Record}
use Rattle.solver.specs.LittleEndian.{float_bytes}

-- s, computed price b, vega, left and right end after the move, s after
unfoldable pub record_bytes : Record → List ℕ
record_bytes r =
    float_bytes r.s ++ float_bytes r.b ++ float_bytes r.vega ++ float_bytes r.left ++ float_bytes r.right ++ float_bytes r.after

-- the records' bytes, one after another
abbrev pub all_bytes : List Record → List ℕ
all_bytes [] = []
all_bytes (r ∷ rs) = record_bytes r ++ all_bytes rs

-- the trail after a run: record i at byte 48 × i, and the old bytes after the last record
unfoldable pub trail_after : List Record → List ℕ → List ℕ
trail_after rs old = all_bytes rs ++ drop (48 * length rs) old
