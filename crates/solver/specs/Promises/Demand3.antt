-- Demand 3 of document 00, its sentences 1 to 6 in order, for every rule set and every input, refused ones included. A run has a trail of any size, or none. Statements only.
use Rattle.std.specs.Prelude.{◌≡◌, true, false, ◌⊎◌, List, [], ◌∷◌, ◌++◌, ℕ, suc, ◌*◌, ◌≤◌, ◌<◌, T, ltb, ℤ, length, take, Float}
use Rattle.std.specs.Float.{nan}
use Rattle.std.specs.Float.Ieee.{lt, le}
use Rattle.std.specs.Float.Ieee.Scale.{finite}
use Rattle.elementary.specs.Ops.{◌⊘◌, bits, two}
use Rattle.solver.specs.declared.quote.Quote.{Quote}
use Rattle.solver.specs.declared.state.Record.{Record}
use Rattle.elementary.specs.declared.rule_set.RuleSet.{RuleSet}
use Rattle.solver.specs.Guess.{Start, answered, stopped, looping}
use Rattle.solver.specs.Solve.{start_of, SolveResult, solve_of, solve_with_trail, steps_of}
use Rattle.solver.specs.Answers.{branch_number, number, Solution, number_in, volatility_in, branch_in, ending_in, steps_in}
use Rattle.solver.specs.Trail.{trail_after}

-- what a run is lent: no trail, or one of so many bytes
pub data Trail : Type 0 where
  none : Trail
  of_bytes : ℕ → Trail

-- long enough with 48 × max(limit, 0) bytes or more; a run without a trail needs none
abbrev pub LongEnough : ℤ → Trail → Type 0
LongEnough limit none = Unit
LongEnough limit (of_bytes n) = 48 * steps_of limit ≤ n

module _ (set : RuleSet) (q : Quote) where
  -- the run at a limit
  abbrev pub run_of : ℤ → Trail → SolveResult
  run_of limit none = solve_of set q (steps_of limit)
  run_of limit (of_bytes n) = solve_with_trail set q (steps_of limit) n

  -- where it starts: an answer, a refusal, or a loop with its branch, its target and its starting state
  abbrev pub begin_of : ℤ → Trail → Start
  begin_of limit none = start_of set false q
  begin_of limit (of_bytes n) = start_of set (ltb n (48 * steps_of limit)) q

-- record i of a list is r
pub data At {R : Type 0} : List R → ℕ → R → Type 0 where
  here : {r : R} {rs : List R} → At (r ∷ rs) 0 r
  there : {q r : R} {rs : List R} {i : ℕ} → At rs i r → At (q ∷ rs) (suc i) r

-- from a starting value on, each record's value is related to the one before it
abbrev pub Linked : {A R : Type 0} → (A → A → Type 0) → (R → A) → A → List R → Type 0
Linked rel end start [] = Unit
Linked rel end start (r ∷ rs) = rel start (end r) × Linked rel end (end r) rs

-- from a to b nothing falls (below) or nothing grows (above); floats are compared, so a NaN does neither
abbrev pub NotBelow : Float → Float → Type 0
NotBelow a b = lt b a ≡ false

abbrev pub NotAbove : Float → Float → Type 0
NotAbove a b = lt a b ≡ false

-- record i, which is r, has the starting end or the s of a record on the end's side, that one or an earlier
abbrev pub EndFrom : (Record → Float) → (Record → Type 0) → Float → List Record → ℕ → Record → Type 0
EndFrom end side start rs i r = (end r ≡ start) ⊎ ((j : ℕ) × (q : Record) × (j ≤ i) × At rs j q × (end r ≡ q.s) × side q)

abbrev pub least : Float
least = bits 0x0020_0000_0000_0000  -- 2^−1021

-- from a finite s of at least 2^−1021 the step leaves at least s / 2
abbrev pub LeavesHalf : Record → Type 0
LeavesHalf r = T (finite r.s) → le least r.s ≡ true → le (r.s ⊘ two) r.after ≡ true

-- a short run and a long one
pub record LongerRun (short long : SolveResult) : Type 0 where
  -- 1. The long run's records begin with all the short run's, bit for bit; so do the trails' bytes, whatever stood there before.
  pub begins_with : (rest : List Record) × (long.records ≡ short.records ++ rest)
  pub same_bytes : (old old' : List ℕ) → take (48 * length short.records) (trail_after long.records old) ≡ take (48 * length short.records) (trail_after short.records old')
  -- 2. If the short run ends for any cause but its limit, both have the same records and the same answer.
  pub same_end : (ending_in short.answer ≡ 2 → ⊥) → (long.records ≡ short.records) × (long.answer ≡ short.answer)

-- the records of a loop of this branch, with this target and these starting ends
pub record LoopRecords (branch : ℕ) (beta left right : Float) (rs : List Record) : Type 0 where
  -- 4. Record after record, from the branch's starting ends on, the left end never falls and the right end never grows; one that starts as NaN stays NaN.
  pub left_holds : Linked NotBelow (λ r. r.left) left rs
  pub right_holds : Linked NotAbove (λ r. r.right) right rs
  pub left_stays_nan : left ≡ nan → (i : ℕ) (r : Record) → At rs i r → r.left ≡ nan
  pub right_stays_nan : right ≡ nan → (i : ℕ) (r : Record) → At rs i r → r.right ≡ nan
  -- 5. Each end is the branch's starting end, or the s of that record or an earlier one, whose computed price lay below (left) or above (right) the target.
  pub left_is : (i : ℕ) (r : Record) → At rs i r → EndFrom (λ r. r.left) (λ q. lt q.b beta ≡ true) left rs i r
  pub right_is : (i : ℕ) (r : Record) → At rs i r → EndFrom (λ r. r.right) (λ q. lt beta q.b ≡ true) right rs i r
  -- 6. In the lower and upper loops every completed step from a finite s of at least 2^−1021 leaves at least s / 2.
  pub half_step : (branch ≡ 1) ⊎ (branch ≡ 4) → (i : ℕ) (r : Record) → At rs i r → LeavesHalf r

-- what a loop of this branch answers: 7, or its own branch, 1 to 5, with ending 2 after as many steps as its limit and else 1
pub record LoopAnswer (limit branch : ℕ) (a : Solution) : Type 0 where
  pub a_loop : (1 ≤ branch) × (branch ≤ 5)
  pub number : (number_in a ≡ 0) ⊎ (number_in a ≡ 7)
  pub branch_is : number_in a ≡ 0 → branch_in a ≡ branch
  pub ending_is : number_in a ≡ 0 → ((ending_in a ≡ 1) × (steps_in a < limit)) ⊎ ((ending_in a ≡ 2) × (steps_in a ≡ limit))

-- one run, by where it starts: without a loop it has no records, and an answer has branch 0 and ending 0
abbrev pub OneRun : ℕ → Start → SolveResult → Type 0
OneRun limit (answered v) w = (w.records ≡ []) × (number_in w.answer ≡ 0) × (volatility_in w.answer ≡ v) × (branch_in w.answer ≡ 0) × (ending_in w.answer ≡ 0)
OneRun limit (stopped refusal) w = (w.records ≡ []) × (number_in w.answer ≡ number refusal)
OneRun limit (looping branch beta step st) w = LoopRecords (branch_number branch) beta st.left st.right w.records × LoopAnswer limit (branch_number branch) w.answer

pub record Sentences (begin : ℤ → Trail → Start) (run : ℤ → Trail → SolveResult) : Type 0 where
  -- 1 and 2, of trails long enough and limits with max(n, 0) at most max(m, 0), so wherever n is at most m
  pub longer : (n m : ℤ) (t t' : Trail) → steps_of n ≤ steps_of m → LongEnough n t → LongEnough m t' → LongerRun (run n t) (run m t')
  -- 3. In every run steps are at most the greater of its limit and 0; they are as many as its records.
  pub steps : (n : ℤ) (t : Trail) → (steps_in (run n t).answer ≤ steps_of n) × (length (run n t).records ≡ steps_in (run n t).answer)
  -- 4, 5 and 6, of every run
  pub each_run : (n : ℤ) (t : Trail) → OneRun (steps_of n) (begin n t) (run n t)
  -- 6 again, from the answer's branch alone
  pub half_step : (n : ℤ) (t : Trail) → (branch_in (run n t).answer ≡ 1) ⊎ (branch_in (run n t).answer ≡ 4) → (i : ℕ) (r : Record) → At (run n t).records i r → LeavesHalf r
  -- A run's records are those of its completed steps, whether a trail takes them or not; the answer is the same.
  pub without_trail : (n : ℤ) (t : Trail) → LongEnough n t → ((run n none).records ≡ (run n t).records) × ((run n none).answer ≡ (run n t).answer)

abbrev pub Demand3 : Type 0
Demand3 = (set : RuleSet) (q : Quote) → Sentences (begin_of set q) (run_of set q)
