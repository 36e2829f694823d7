-- The bytes of a run's records in the trail: 48 for each, and those of more records begin with those of the first ones. Assumes nothing.
use mathlib.Core.Path.{◌≡◌, refl, sym, ◌∙◌}
use mathlib.Core.List.{List, [], ◌∷◌, ◌++◌, append_assoc, append-nil}
use Prim.Native.Nat.{ℕ, ◌*◌}
use native.Mathlib.Omega.{arith}
use lib.ListN.{length, take}
use lib.Seq.{take_at}
use Rattle.solver.specs.declared.state.Record.{Record}
use Rattle.solver.specs.Trail.{record_bytes, all_bytes, trail_after}

pub all_length : (rs : List Record) → length (all_bytes rs) ≡ 48 * length rs
unfolding record_bytes
all_length [] = refl
all_length (r ∷ rs) = omega (arith, all_length rs)

pub all_append : (rs qs : List Record) → all_bytes (rs ++ qs) ≡ all_bytes rs ++ all_bytes qs
all_append [] qs = refl
all_append (r ∷ rs) qs = rw (all_append rs qs, append_assoc)

front : (rs rest : List Record) (old : List ℕ) → take (48 * length rs) (trail_after (rs ++ rest) old) ≡ all_bytes rs
unfolding trail_after
front rs rest old = rw (all_append rs rest, append_assoc) (take_at (all_bytes rs) _ (48 * length rs) (all_length rs))

-- what a trail of more records begins with
pub begins_alike : (long short : List Record) → (rest : List Record) × (long ≡ short ++ rest) → (old old' : List ℕ)
    → take (48 * length short) (trail_after long old) ≡ take (48 * length short) (trail_after short old')
begins_alike long short p old old' = rw p.1 (front short p.0 old) ∙ sym (rw append-nil at (front short [] old'))
