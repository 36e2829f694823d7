-- Eight numbers side by side. Definitions only.
use Rattle.std.specs.Prelude.{◌≡◌, ℕ, ◌<◌, Float, slice_index_or}
use Rattle.elementary.specs.Ops.{+0}
use Rattle.elementary.specs.declared.eight.Eight.{Eight}

-- the one at a place
abbrev pub at : ℕ → Eight → Float
at i x = slice_index_or x.x i +0

-- P at each of the eight places
pub record InEach (P : (Eight → Float) → Type 0) : Type 0 where
  pub each : (i : ℕ) → i < 8 → P (at i)

-- each of x is a P
abbrev pub All : (Float → Type 0) → Eight → Type 0
All P x = InEach (λ at. P (at x))

-- each of x has R to the one of y beside it
abbrev pub Pairs : (Float → Float → Type 0) → Eight → Eight → Type 0
Pairs R x y = InEach (λ at. R (at x) (at y))

-- and with that of z
abbrev pub Triples : (Float → Float → Float → Type 0) → Eight → Eight → Eight → Type 0
Triples R x y z = InEach (λ at. R (at x) (at y) (at z))

-- and with that of r
abbrev pub Rows : (Float → Float → Float → Float → Type 0) → Eight → Eight → Eight → Eight → Type 0
Rows R x y z r = InEach (λ at. R (at x) (at y) (at z) (at r))

-- each of r is f of x's
abbrev pub Each : (Float → Float) → Eight → Eight → Type 0
Each f = Pairs (λ x r. r ≡ f x)
