-- What `relist_block` and `relist` leave behind. Definitions only.
use Rattle.std.specs.Prelude.{◌≡◌, List, ℕ, ◌%◌, ◌≤◌, length, take}
use Rattle.std.specs.declared.ops.ControlFlow.{ControlFlow}
use Rattle.std.specs.declared.ops.ControlFlow.TheVariants.{Continue, Break}
use Rattle.solver.specs.LittleEndian.{overwritten}
use Rattle.relist.specs.Lines.{lines_of, step_of}

-- after a block whose first record has the number first
pub data After (first : ℕ) (block old lines : List ℕ) (step : ControlFlow ℕ ℕ) : Type 0 where
  -- a read or a write failed, and the run ends
  failure : step ≡ Break first → After first block old lines step
  -- n bytes came, and their lines stand in the buffer
  listing : (n : ℕ) → n ≤ length block → lines ≡ overwritten 0 (lines_of first (take n block)) old → step ≡ step_of first n → After first block old lines step

-- After the last block: its step says so, or the numbers are used up. Full blocks alone came before it.
abbrev pub End : ControlFlow ℕ ℕ → Type 0
End (Break first) = first % 1024 ≡ 0
End (Continue next) = (9223372036854775808 ≤ next) × (next % 1024 ≡ 0)
