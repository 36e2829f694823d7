-- What the program promises of an input that comes in blocks. Statements alone; the proof stands in proofs/Promised.
use Rattle.std.specs.Prelude.{◌≡◌, List, [], ◌∷◌, ◌++◌, ℕ, length}
use Rattle.relist.specs.Lines.{lines_of, lines_of_blocks}

-- the input whose blocks these are
unfoldable pub input_of : List (List ℕ) → List ℕ
input_of [] = []
input_of (block ∷ blocks) = block ++ input_of blocks

-- every block but the last has 65,536 bytes
pub data FullButLast : List (List ℕ) → Type 0 where
  none : FullButLast []
  last : {block : List ℕ} → FullButLast (block ∷ [])
  full : {block : List ℕ} {blocks : List (List ℕ)} → length block ≡ 65536 → FullButLast blocks → FullButLast (block ∷ blocks)

-- An input in blocks that are full but for the last has the lines of the whole input, numbered from 0.
abbrev pub BlocksJoin : Type 0
BlocksJoin = (blocks : List (List ℕ)) → FullButLast blocks → lines_of_blocks 0 blocks ≡ lines_of 0 (input_of blocks)
