-- `little_endian::put_number_at` meets its contract. After i bytes of the part its first i are the number's, and `rest` has the number's bytes from i on.
use mathlib.Core.Path.{◌≡◌}
use mathlib.Core.List.{List, ◌++◌}
use Prim.Native.Nat.{ℕ, ◌-◌, ◌≤◌}
use lib.ListN.{take}
use Rattle.solver.specs.LittleEndian.{bytes_of}
use Rattle.solver.proofs.little_endian.put_number_at.Given as goal

pub record Written (width n : ℕ) (part : List ℕ) (rest i : ℕ) : Type 0 where
  pub within : i ≤ width
  pub front : bytes_of width n ≡ take i part ++ bytes_of (width - i) rest

abbrev pub invariant-loop-byte : goal.invariant-loop-byte
invariant-loop-byte l = Written l.width l.n l.byte-items l.rest l.byte-index
