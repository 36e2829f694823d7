-- What is read of a record is read of its first 64 bytes. Theorems.
use mathlib.Core.Path.{◌≡◌}
use mathlib.Core.List.{List}
use Prim.Native.Nat.{ℕ, ◌+◌, ◌-◌, ◌≤◌, ◌<◌}
use native.Mathlib.Omega.{arith}
use lib.ListN.{take, drop, get_or}
use Rattle.std.proofs.lemmas.List.{drop-take, take-take, get_or-take}
use Rattle.elementary.specs.declared.rule_set.RuleSet.{RuleSet}
use Rattle.solver.specs.LittleEndian.{part}
use Rattle.solver.specs.Book.{filed_quote, solve_record}

module _ (n : ℕ) (bytes : List ℕ) where
  part_front : (at size : ℕ) → at + size ≤ n → part at size (take n bytes) ≡ part at size bytes
  part_front at size h = let e : n ≡ at + (n - at) = omega arith in rw (e, drop-take) (take-take size (n - at) (drop at bytes) (omega arith))

  byte_front : (i : ℕ) → i < n → get_or (take n bytes) i 0 ≡ get_or bytes i 0
  byte_front i h = get_or-take n bytes i 0 h

  pub solve_record_front : (set : RuleSet) → 64 ≤ n → solve_record set (take n bytes) ≡ solve_record set bytes
  unfolding solve_record filed_quote
  solve_record_front set h =
      rw (byte_front 48 (omega arith), byte_front 49 (omega arith), byte_front 50 (omega arith), part_front 51 13 (omega arith), part_front 40 4 (omega arith), part_front 0 8 (omega arith), part_front 8 8 (omega arith), part_front 16 8 (omega arith), part_front 24 8 (omega arith))
