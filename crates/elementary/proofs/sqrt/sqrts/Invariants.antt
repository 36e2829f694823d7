-- `sqrts` meets its contract. Assumes nothing.
use Rattle.std.proofs.Common.{◌≡◌, ◌<◌, ℕ, length, slice_index_or}
use Rattle.std.specs.Float.{binary64}
use lib.Ieee.{nan}
use lib.IntN.{pos}
use Rattle.elementary.specs.Sqrt.{sqrt_of, aligned_of}
use Rattle.elementary.proofs.sqrt.sqrts.Given as goal

-- those before i are aligned
abbrev pub invariant-loop-i : goal.invariant-loop-i
invariant-loop-i g l = (length l.aligned ≡ length l.x) × ((j : ℕ) → j < l.i → slice_index_or l.aligned j (record { significand = 0; exponent = pos 0 }) ≡ aligned_of (slice_index_or l.x j nan))

-- those before i are rounded
abbrev pub invariant-loop-i-2 : goal.invariant-loop-i-2
invariant-loop-i-2 g l = (length l.root ≡ length l.x) × ((j : ℕ) → j < l.i → slice_index_or l.root j nan ≡ sqrt_of binary64 (slice_index_or l.x j nan))
