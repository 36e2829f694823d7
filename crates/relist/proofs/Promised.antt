-- The promise of specs/Promises: a full block ends with a whole record, so its lines come before those of what follows. Assumes nothing.
use mathlib.Core.Path.{◌≡◌, refl}
use mathlib.Core.List.{List, [], ◌∷◌, ◌++◌, append-nil}
use Prim.Native.Nat.{ℕ, ◌+◌}
use native.Mathlib.Omega.{arith}
use lib.ListN.{length}
use Rattle.std.specs.declared.ops.ControlFlow.TheVariants.{Continue, Break}
use Rattle.relist.specs.Lines.{lines_of, step_of, lines_of_blocks}
use Rattle.relist.specs.Promises.{input_of, FullButLast, none, last, full, BlocksJoin}
use Rattle.relist.proofs.Laws.Blocks.{lines_none, lines_append}

-- whatever the last block's step says, no block follows
last_block : (first : ℕ) (block : List ℕ) → lines_of_blocks first (block ∷ []) ≡ lines_of first block
unfolding lines_of_blocks
last_block first block =
    elim (step_of first (length block)) as (λ s. lines_of first block ++ elim s [ Break end ↦ [] | Continue next ↦ [] ] ≡ lines_of first block) [
      | Break end ↦ append-nil (lines_of first block)
      | Continue next ↦ append-nil (lines_of first block)
    ]

from_number : (first : ℕ) (blocks : List (List ℕ)) → FullButLast blocks → lines_of_blocks first blocks ≡ lines_of first (input_of blocks)
unfolding lines_of_blocks input_of
from_number first [] none = rw (lines_none first [] refl)
from_number first (block ∷ []) last = rw (append-nil block) (last_block first block)
from_number first (block ∷ blocks) (full e f) = rw (e, lines_append 1024 first block (input_of blocks) (omega arith), from_number (first + 1024) blocks f)

pub blocks_join : BlocksJoin
blocks_join blocks f = from_number 0 blocks f
