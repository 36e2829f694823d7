-- What holds before each turn of `run`'s loop: the records of its completed steps, what the run is from there on, and the recorder. Assumes nothing.
use mathlib.Core.Path.{◌≡◌}
use mathlib.Core.Bool.{Bool, true, false}
use mathlib.Core.List.{List, [], ◌∷◌, ◌++◌, append_assoc, append-nil}
use Prim.Native.Nat.{ℕ, suc, ◌+◌, ◌-◌, ◌*◌, ◌<◌, ◌≤◌}
use native.Mathlib.Omega.{arith}
use native.Mathlib.Nat.{mul_comm}
use lib.ListN.{length}
use lib.Ieee.{Float}
use Rattle.solver.specs.declared.state.State.{State}
use Rattle.solver.specs.declared.state.Record.{Record}
use Rattle.std.specs.Prelude.{Ok, Err}
use Rattle.prices.specs.declared.refusal.Refusal.{Refusal as Unpriced}
use Rattle.solver.specs.declared.state.Step.{Step}
use Rattle.solver.specs.declared.answers.Branch.{Branch}
use Rattle.solver.specs.Loop.{Ending, by_test, by_limit, by_refusal, Transition, advance, stop, Run, after, run}
use Rattle.solver.specs.Step.{StepResult, is_close, next_by}
use Rattle.solver.specs.Solve.{answer_of, result_of_run}
use Rattle.solver.specs.LittleEndian.{overwritten}
use Rattle.solver.specs.Trail.{record_bytes, all_bytes, trail_after}
use Rattle.solver.proofs.Laws.Trails.{all_length, all_append}
use Rattle.solver.proofs.Laws.Parts.{behind}

-- of a recorder's type T, what one is after a run with some records, and whether one is too short for so many
pub record Invariant {T : Type 0} (after_records : List Record → T → T) (too_short : T → ℕ → Bool) (next : State → Transition State Record) (limit : ℕ) (st₀ : State) (old recorder : T) (st : State) (steps : ℕ) : Type 0 where
  pub rs : List Record
  pub count : length rs ≡ steps
  pub within : steps ≤ limit
  pub rest : run next limit st₀ ≡ after rs (run next (limit - steps) st)
  pub wrote : recorder ≡ after_records rs old
  pub room : (n : ℕ) → too_short recorder n ≡ too_short old n

-- one turn of any loop, from what a state leads to
module _ {S R : Type 0} (next : S → Transition S R) where
  one_advance : (n : ℕ) (s s' : S) (r : R) → next s ≡ advance r s' → run next (suc n) s ≡ after (r ∷ []) (run next n s')
  unfolding run
  one_advance n s s' r e = rw e

  one_stop : (n : ℕ) (s : S) (e : Ending S) → next s ≡ stop e → run next (suc n) s ≡ record { records = []; ending = e }
  unfolding run
  one_stop n s e h = rw h

module _ {S R : Type 0} (next : S → Transition S R) (limit steps : ℕ) (w : Run S R) (rs : List R) (s : S) (rest : w ≡ after rs (run next (limit - steps) s)) where
  pub run_advances : steps < limit → (r : R) (s' : S) → next s ≡ advance r s' → w ≡ after (rs ++ (r ∷ [])) (run next (limit - (steps + 1)) s')
  run_advances h r s' e =
      let k : limit - steps ≡ suc (limit - (steps + 1)) = omega arith in
      rw (rest, k, one_advance next _ s s' r e, append_assoc)

  pub stops : steps < limit → (e : Ending S) → next s ≡ stop e → w ≡ record { records = rs; ending = e }
  stops h e n =
      let k : limit - steps ≡ suc (limit - (steps + 1)) = omega arith in
      rw (rest, k, one_stop next _ s e n, append-nil)

  pub runs_out : limit ≤ steps → w ≡ record { records = rs; ending = by_limit s }
  unfolding run
  runs_out h =
      let k : limit - steps ≡ 0 = omega arith in
      rw (rest, k, append-nil)

-- a record behind the others
pub one_more : (rs : List Record) (r : Record) (old trail trail' : List ℕ) (steps : ℕ) → length rs ≡ steps → trail ≡ trail_after rs old → trail' ≡ overwritten (steps * 48) (record_bytes r) trail → trail' ≡ trail_after (rs ++ (r ∷ [])) old
unfolding trail_after
one_more rs r old trail trail' steps n e f =
    rw (← all_length (rs ++ (r ∷ [])), all_append rs (r ∷ []), append-nil)
    (behind (all_bytes rs) (record_bytes r) old trail trail' (rw (all_length rs) e) (rw (all_length rs, n, mul_comm 48 steps) f))

-- what the test and the step found, as what the state leads to
module _ (step_of : State → StepResult) (st : State) (close : Bool) (stepped : StepResult) (c : close ≡ is_close st) (s : stepped ≡ step_of st) where
  pub next_advances : close ≡ false → (taken : Step) → stepped ≡ Ok taken → next_by step_of st ≡ advance taken.kept taken.state
  next_advances n taken e = rw (← c, n, ← s, e)

  pub next_by_refusal : close ≡ false → (k : Unpriced) → stepped ≡ Err k → next_by step_of st ≡ stop (by_refusal k)
  next_by_refusal n k e = rw (← c, n, ← s, e)

pub next_by_test : (step_of : State → StepResult) (st : State) (close : Bool) → close ≡ is_close st → close ≡ true → next_by step_of st ≡ stop (by_test st)
next_by_test step_of st close c n = rw (← c, n)

-- a run that has ended, and what it answers and leaves of the recorder
pub ended : {T : Type 0} (after_records : List Record → T → T) (w : Run State Record) (rs : List Record) (e : Ending State) (branch : Branch) (root : Float) (old recorder : T) (steps : ℕ)
    → w ≡ record { records = rs; ending = e } → length rs ≡ steps → recorder ≡ after_records rs old
    → (answer_of branch root e steps ≡ (result_of_run branch root w).answer) × (recorder ≡ after_records w.records old)
ended after_records w rs e branch root old recorder steps p n t = (rw (p, n), rw p t)
