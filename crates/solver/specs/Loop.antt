-- A loop that takes steps until its test holds, its limit is reached or a step is refused: over any type S of states, R of records, and any rule for what
-- a state leads to. Definitions only.
use Rattle.std.specs.Prelude.{List, [], ◌∷◌, ◌++◌, ℕ, zero, suc}
use Rattle.prices.specs.declared.refusal.Refusal.{Refusal}

-- how a run ends: its test holds, its limit is reached, or a step is refused
pub data Ending (S : Type 0) : Type 0 where
  by_test by_limit : S → Ending S
  by_refusal : Refusal → Ending S

-- what a state leads to: a completed step, with its record and the state after it, or an ending
pub data Transition (S R : Type 0) : Type 0 where
  advance : R → S → Transition S R
  stop : Ending S → Transition S R

-- a run is the records of its completed steps, and its ending
pub record Run (S R : Type 0) : Type 0 where
  pub records : List R
  pub ending : Ending S

module _ {S R : Type 0} where
  -- the records rs, and then what w has
  abbrev pub after : List R → Run S R → Run S R
  after rs w = record { records = rs ++ w.records; ending = w.ending }

  -- a step's record and then the rest, or the ending
  abbrev pub follow : Transition S R → (S → Run S R) → Run S R
  follow (advance r s) rest = after (r ∷ []) (rest s)
  follow (stop e) rest = record { records = []; ending = e }

  -- The run from a state, with a limit of n steps. One that has taken as many steps as its limit ends by it, also where the test then holds.
  unfoldable pub run : (S → Transition S R) → ℕ → S → Run S R
  run next zero s = record { records = []; ending = by_limit s }
  run next (suc n) s = follow (next s) (run next n)
