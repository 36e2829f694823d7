-- The lines of records, and of block after block of them. Definitions only.
use Rattle.std.specs.Prelude.{cond, List, [], ◌∷◌, ◌++◌, ℕ, zero, suc, ◌+◌, ◌/◌, ltb, length, take, drop}
use Rattle.std.specs.declared.ops.ControlFlow.{ControlFlow}
use Rattle.std.specs.declared.ops.ControlFlow.TheVariants.{Continue, Break}
use Rattle.elementary.specs.RuleSets.{rule_set_0}
use Rattle.solver.specs.Listing.{line_of}

-- the lines of count parts of 64 bytes each, the last of which may be shorter
unfoldable pub lines_by : ℕ → ℕ → List ℕ → List ℕ
lines_by zero i bytes = []
lines_by (suc count) i bytes = line_of rule_set_0 i (take 64 bytes) ++ lines_by count (i + 1) (drop 64 bytes)

-- all the bytes' lines, numbered from i on
unfoldable pub lines_of : ℕ → List ℕ → List ℕ
lines_of i bytes = lines_by ((length bytes + 63) / 64) i bytes

-- After a block of n bytes: one under 65,536 is the last; behind a full one the numbers go on by its records.
abbrev pub step_of : ℕ → ℕ → ControlFlow ℕ ℕ
step_of first n = cond (ltb n 65536) (Break first) (Continue (first + n / 64))

-- the lines of block after block as the program goes on, the first record having the number first
unfoldable pub lines_of_blocks : ℕ → List (List ℕ) → List ℕ
lines_of_blocks first [] = []
lines_of_blocks first (block ∷ blocks) =
    lines_of first block ++ elim (step_of first (length block)) [ Break last ↦ [] | Continue next ↦ lines_of_blocks next blocks ]
