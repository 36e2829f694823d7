-- What solve's run is, by where it starts: the sentences of demand 3 for `result_from`, with a short limit and a long one, and of every record of a loop. Assumes
-- nothing.
use mathlib.Core.Path.{◌≡◌, refl, sym, ap, ◌∙◌, subst}
use mathlib.Core.Bool.{Bool, true, false, cond, true≢false}
use mathlib.Core.Logic.{◌⊎◌, inl, inr}
use mathlib.Core.List.Memᴰ.{head as first}
use mathlib.Core.List.Memᴰ.{tail as next}
use mathlib.Core.List.{List, [], ◌∷◌, Memᴰ as OneOf}
use Prim.Native.Nat.{ℕ, ◌≤◌, ◌<◌, zero-le}
use native.Mathlib.Omega.{arith}
use lib.Dec.{T}
use lib.ListN.{length}
use lib.Ieee.{Float, binary64, fits}
use lib.Ieee.Fits.{add-fits}
use Rattle.elementary.specs.declared.rule_set.RuleSet.{RuleSet}
use Rattle.elementary.specs.Sqrt.{sqrt_of}
use Rattle.solver.specs.declared.state.State.{State}
use Rattle.solver.specs.declared.state.Record.{Record}
use Rattle.solver.specs.declared.state.Bracket.{Bracket}
use Rattle.std.specs.Prelude.{Ok, Err, is_ok}
use Rattle.prices.specs.Answers.{number as pricing_number}
use Rattle.prices.proofs.Laws.Refusals.{refused_above_0}
use Rattle.solver.specs.declared.refusal.Refusal.{Refusal}
use Rattle.solver.specs.declared.refusal.Refusal.TheVariants.{Price, Pricing, TrailTooShort, BookFull, NoSuchRecord, OutsideTheLayout, LowAboveHigh, UnknownRuleSet}
use Rattle.solver.specs.declared.answers.Branch.{Branch}
use Rattle.solver.specs.declared.answers.Branch.TheVariants.{Lower, LowerMiddle, UpperMiddle, Upper, UpperRest}
use Rattle.solver.specs.Loop.{Ending, by_test, by_limit, by_refusal, Run, run, advance, stop}
use Rattle.solver.specs.Step.{StepResult, lower_ds, upper_ds, general_ds, at_least_half, whole_step, step_by, lower_step, upper_step, general_step, is_close, transition_of, next_by}
use Rattle.solver.specs.Guess.{Start, answered, stopped, looping}
use Rattle.solver.specs.Answers.{number, branch_number, Solution, number_in, branch_in, ending_in, steps_in}
use Rattle.solver.specs.Solve.{SolveResult, answer_of, result_of_run, result_from}
use Rattle.solver.specs.Promises.Demand3.{At, here, there, LeavesHalf, LongerRun, LoopRecords, LoopAnswer, OneRun}
use Rattle.solver.specs.Promises.Answers.{Numbers}
use Rattle.solver.proofs.Laws.Runs.{is_by_limit, Counts, counts, begins, same, steps, trace, every}
use Rattle.solver.proofs.Laws.Bracket.{BracketMove, step_facts, left_never_falls, right_never_grows, left_stays, right_stays, left_from, right_from}
use Rattle.solver.proofs.Laws.Half.{leaves_half}
use Rattle.solver.proofs.Laws.Numbers.{Checked, price_refused, forward_refused, strike_refused, expiry_refused, trail_refused, Refused, by_a_check, NoCheck, cubic_refused, region_refused, OnlySeven, loop_ends}
use Rattle.solver.proofs.Laws.Forms.{LoopForm, lower, upper, lower_middle, upper_middle, upper_tail, StartForm, ended, loop}
use Rattle.solver.proofs.Laws.Trails.{begins_alike}

-- ---- a short run and a long one
not_by_limit : (branch : Branch) (root : Float) (e : Ending State) (k : ℕ) → (ending_in (answer_of branch root e k) ≡ 2 → ⊥) → is_by_limit e ≡ false
not_by_limit branch root (by_test st) k h = refl
not_by_limit branch root (by_limit st) k h = absurd (h refl)
not_by_limit branch root (by_refusal n) k h = refl

pub longer_run : (b : Start) (expiry : Float) (n m : ℕ) → n ≤ m → LongerRun (result_from b expiry n) (result_from b expiry m)
unfolding result_from
longer_run (answered v) expiry n m l = record { begins_with = ([], refl); same_bytes = begins_alike [] [] ([], refl); same_end = λ e. (refl, refl) }
longer_run (stopped k) expiry n m l = record { begins_with = ([], refl); same_bytes = begins_alike [] [] ([], refl); same_end = λ e. (refl, refl) }
longer_run (looping branch beta step st) expiry n m l =
    let next = next_by step in
    let root = sqrt_of binary64 expiry in
    let short = run next n st in
    let long = run next m st in
    let p = begins next n m l st in
    record {
      begins_with = p;
      same_bytes = begins_alike long.records short.records p;
      same_end = λ e.
          let q = same next n m l st (not_by_limit branch root short.ending (length short.records) e) in
          (ap (λ w. w.records) q, ap (λ w. (result_of_run branch root w).answer) q);
    }

-- ---- the steps of a run
loop_steps : (branch : Branch) (root : Float) (e : Ending State) (k : ℕ) → steps_in (answer_of branch root e k) ≡ k
loop_steps branch root (by_test st) k = refl
loop_steps branch root (by_limit st) k = refl
loop_steps branch root (by_refusal n) k = refl

pub run_steps : (b : Start) (expiry : Float) (n : ℕ) → (steps_in (result_from b expiry n).answer ≤ n) × (length (result_from b expiry n).records ≡ steps_in (result_from b expiry n).answer)
unfolding result_from
run_steps (answered v) expiry n = (zero-le, refl)
run_steps (stopped k) expiry n = (zero-le, refl)
run_steps (looping branch beta step st) expiry n =
    let w = run (next_by step) n st in
    let e = loop_steps branch (sqrt_of binary64 expiry) w.ending (length w.records) in
    (rw e (steps (next_by step) n st), sym e)

-- ---- the records of a loop, and what it answers
-- no state leads to the limit
not_limited : (step : State → StepResult) (st : State) (e : Ending State) → next_by step st ≡ stop e → is_by_limit e ≡ false
not_limited step st (by_test q) h = refl
not_limited step st (by_refusal k) h = refl
not_limited step st (by_limit q) h = go (is_close st) (step st) h
  where
    go : (c : Bool) (w : StepResult) → cond c (stop (by_test st)) (transition_of w) ≡ stop (by_limit q) → true ≡ false
    go true w e = cc
    go false (Ok taken) e = cc
    go false (Err k) e = cc

loop_answer : (branch : Branch) → (1 ≤ branch_number branch) × (branch_number branch ≤ 5) → (root : Float) (n : ℕ) (w : Run State Record) → OnlySeven w.ending → Counts n w → LoopAnswer n (branch_number branch) (result_of_run branch root w).answer
loop_answer branch range root n w = go w.ending
  where
    go : (e : Ending State) → OnlySeven e → (is_by_limit e ≡ true → length w.records ≡ n) × (is_by_limit e ≡ false → length w.records < n) → LoopAnswer n (branch_number branch) (answer_of branch root e (length w.records))
    go (by_test st) h c = record { a_loop = range; number = inl refl; branch_is = λ z. refl; ending_is = λ z. inl (refl, c.1 refl) }
    go (by_limit st) h c = record { a_loop = range; number = inl refl; branch_is = λ z. refl; ending_is = λ z. inr (refl, c.0 refl) }
    go (by_refusal k) h c = record { a_loop = range; number = inr (ap pricing_number h); branch_is = λ z. absurd (refused_above_0 k z); ending_is = λ z. absurd (refused_above_0 k z) }

half_from : (r : Record) (s ds : Float) → r.s ≡ s → r.after ≡ at_least_half s ds → T (fits binary64 s) → LeavesHalf r
half_from r s ds a b f = rw (a, b) (leaves_half s ds f)

-- a loop's run, from the formula of its ds and of its s after
module _ (ds_of : Float → Float → Float → Bracket → Float) (after_of : Float → Float → Float) (set : RuleSet) (x beta : Float) (root : Float) (n : ℕ) (st : State) where
  abbrev step : State → StepResult
  step = step_by ds_of after_of set x beta

  abbrev w : Run State Record
  w = run (next_by step) n st

  abbrev HalfSteps : Type 0
  HalfSteps = (i : ℕ) (r : Record) → At w.records i r → LeavesHalf r

  move : (q q' : State) (r : Record) → next_by step q ≡ advance r q' → BracketMove beta q q' r
  move q q' r e = (step_facts ds_of after_of set x beta q q' r e).moves

  in_loop : (branch : Branch) → (1 ≤ branch_number branch) × (branch_number branch ≤ 5) → ((branch_number branch ≡ 1) ⊎ (branch_number branch ≡ 4) → HalfSteps)
      → LoopRecords (branch_number branch) beta st.left st.right w.records × LoopAnswer n (branch_number branch) (result_of_run branch root w).answer
  in_loop branch range half = (
    record {
      left_holds = left_never_falls step beta move n st;
      right_holds = right_never_grows step beta move n st;
      left_stays_nan = left_stays step beta move n st;
      right_stays_nan = right_stays step beta move n st;
      left_is = left_from step beta move n st;
      right_is = right_from step beta move n st;
      half_step = half;
    },
    loop_answer branch range root n w (loop_ends ds_of after_of set x beta n st) (counts (next_by step) (not_limited step) n st),
  )

-- a step whose s after is `halved`
half_steps : (ds_of : Float → Float → Float → Bracket → Float) (set : RuleSet) (x beta root : Float) (n : ℕ) (st : State) → T (fits binary64 st.s) → HalfSteps ds_of at_least_half set x beta root n st
half_steps ds_of set x beta root n st f i r a =
    every (next_by (step_by ds_of at_least_half set x beta)) (λ q. T (fits binary64 q.s)) LeavesHalf
    (λ q q' p e g.
    let h = step_facts ds_of at_least_half set x beta q q' p e in
    (rw (h.next_s, h.after) (add-fits binary64 q.s _), half_from p q.s h.ds h.from_s h.after g))
    (trace (next_by (step_by ds_of at_least_half set x beta)) n st) f a

neither : {branch : ℕ} {A : Type 0} → (branch ≡ 1 → ⊥) → (branch ≡ 4 → ⊥) → (branch ≡ 1) ⊎ (branch ≡ 4) → A
neither f g (inl e) = absurd (f e)
neither f g (inr e) = absurd (g e)

loop_run : (branch : Branch) (beta : Float) (step : State → StepResult) (st : State) → LoopForm branch beta step st → (root : Float) (n : ℕ)
    → LoopRecords (branch_number branch) beta st.left st.right (run (next_by step) n st).records × LoopAnswer n (branch_number branch) (result_of_run branch root (run (next_by step) n st)).answer
unfolding lower_step upper_step general_step
loop_run branch beta step st (lower set x f) root n =
    in_loop (lower_ds x beta) at_least_half set x beta root n st Lower (omega arith, omega arith) (λ o. half_steps (lower_ds x beta) set x beta root n st f)
loop_run branch beta step st (upper set b_max x f) root n =
    in_loop (upper_ds b_max x beta) at_least_half set x beta root n st Upper (omega arith, omega arith) (λ o. half_steps (upper_ds b_max x beta) set x beta root n st f)
loop_run branch beta step st (lower_middle set x) root n =
    in_loop (general_ds x beta) whole_step set x beta root n st LowerMiddle (omega arith, omega arith) (neither (λ e. omega arith) (λ e. omega arith))
loop_run branch beta step st (upper_middle set x) root n =
    in_loop (general_ds x beta) whole_step set x beta root n st UpperMiddle (omega arith, omega arith) (neither (λ e. omega arith) (λ e. omega arith))
loop_run branch beta step st (upper_tail set x) root n =
    in_loop (general_ds x beta) whole_step set x beta root n st UpperRest (omega arith, omega arith) (neither (λ e. omega arith) (λ e. omega arith))

pub one_run : {Checks : Refusal → Type 0} (b : Start) → StartForm Checks b → (expiry : Float) (n : ℕ) → OneRun n b (result_from b expiry n)
unfolding result_from
one_run (answered v) f expiry n = (refl, refl, refl, refl, refl)
one_run (stopped k) f expiry n = (refl, refl)
one_run (looping branch beta step st) (loop form) expiry n = loop_run branch beta step st form (sqrt_of binary64 expiry) n

-- ---- the half step, from the answer's branch
nothing_at : {rs : List Record} {i : ℕ} {r : Record} → At rs i r → rs ≡ [] → ⊥
nothing_at here e = let z : ◌≡◌ {A = ℕ} 0 1 = cc in omega arith
nothing_at (there a) e = let z : ◌≡◌ {A = ℕ} 0 1 = cc in omega arith

refused_branch : (a : Solution) → number_in a ≡ 7 → branch_in a ≡ 0
refused_branch (Ok a) e = absurd (omega arith)
refused_branch (Err failure) e = refl

loop_branch : {limit branch : ℕ} {a : Solution} → LoopAnswer limit branch a → (branch_in a ≡ 1) ⊎ (branch_in a ≡ 4) → branch_in a ≡ branch
loop_branch {limit} {branch} {a} f = go f.number
  where
    go : (number_in a ≡ 0) ⊎ (number_in a ≡ 7) → (branch_in a ≡ 1) ⊎ (branch_in a ≡ 4) → branch_in a ≡ branch
    go (inl z) o = f.branch_is z
    go (inr z) (inl o) = absurd (omega (arith, refused_branch a z))
    go (inr z) (inr o) = absurd (omega (arith, refused_branch a z))

pub answer_half : (n : ℕ) (b : Start) (w : SolveResult) → OneRun n b w → (branch_in w.answer ≡ 1) ⊎ (branch_in w.answer ≡ 4) → (i : ℕ) (r : Record) → At w.records i r → LeavesHalf r
answer_half n (answered v) w k o i r a = absurd (nothing_at a k.0)
answer_half n (stopped m) w k o i r a = absurd (nothing_at a k.0)
answer_half n (looping branch beta step st) w k o i r a = k.0.half_step (subst (λ c. (c ≡ 1) ⊎ (c ≡ 4)) (loop_branch k.1 o) o) i r a

-- ---- the numbers
refused_number : {short : Bool} {r : Refusal} → Refused (Checked short) r → OneOf (number r) (0 ∷ 1 ∷ 2 ∷ 3 ∷ 4 ∷ 21 ∷ 6 ∷ 7 ∷ [])
refused_number (by_a_check price_refused) = next (first refl)
refused_number (by_a_check forward_refused) = next (next (first refl))
refused_number (by_a_check strike_refused) = next (next (next (first refl)))
refused_number (by_a_check expiry_refused) = next (next (next (next (first refl))))
refused_number (by_a_check (trail_refused e)) = next (next (next (next (next (first refl)))))
refused_number cubic_refused = next (next (next (next (next (next (first refl))))))
refused_number region_refused = next (next (next (next (next (next (next (first refl)))))))

not_21 : {short : Bool} {r : Refusal} → Refused (Checked short) r → short ≡ false → number r ≡ 21 → ⊥
not_21 (by_a_check price_refused) s e = omega arith
not_21 (by_a_check forward_refused) s e = omega arith
not_21 (by_a_check strike_refused) s e = omega arith
not_21 (by_a_check expiry_refused) s e = omega arith
not_21 (by_a_check (trail_refused t)) s e = true≢false (sym t ∙ s)
not_21 cubic_refused s e = omega arith
not_21 region_refused s e = omega arith

-- nothing is refused with 0
pub above_0 : (r : Refusal) → number r ≡ 0 → ⊥
above_0 Price e = omega arith
above_0 (Pricing r) e = refused_above_0 r e
above_0 TrailTooShort e = omega arith
above_0 BookFull e = omega arith
above_0 NoSuchRecord e = omega arith
above_0 OutsideTheLayout e = omega arith
above_0 LowAboveHigh e = omega arith
above_0 UnknownRuleSet e = omega arith

zero_is_ok : (a : Solution) → number_in a ≡ 0 → is_ok a ≡ true
zero_is_ok (Ok a) z = refl
zero_is_ok (Err failure) z = absurd (above_0 failure.refusal z)

loop_numbers : (enough : Type 0) (a : Solution) → (number_in a ≡ 0) ⊎ (number_in a ≡ 7) → Numbers enough a
loop_numbers enough a (inl z) = record { answered = zero_is_ok a; number = first z; no_21 = λ l e. omega arith; steps = λ h. first z }
loop_numbers enough a (inr z) = record { answered = zero_is_ok a; number = rw z (refused_number {short = false} region_refused); no_21 = λ l e. omega arith; steps = λ h. next (first z) }

pub run_numbers : {short : Bool} (enough : Type 0) → (enough → short ≡ false) → (b : Start) → StartForm (Checked short) b → (expiry : Float) (n : ℕ) → Numbers enough (result_from b expiry n).answer
unfolding result_from
run_numbers enough l (answered v) f expiry n = loop_numbers enough _ (inl refl)
run_numbers enough l (stopped k) (ended r) expiry n = record { answered = λ z. absurd (above_0 k z); number = refused_number r; no_21 = λ h. not_21 r (l h); steps = λ h. absurd (omega arith) }
run_numbers enough l (looping branch beta step st) (loop form) expiry n = loop_numbers enough _ (loop_run branch beta step st form (sqrt_of binary64 expiry) n).1.number

-- where no check refuses, none but a later number comes
pub later_number : (b : Start) → StartForm NoCheck b → (expiry : Float) (n : ℕ) → OneOf (number_in (result_from b expiry n).answer) (0 ∷ 6 ∷ 7 ∷ [])
unfolding result_from
later_number (answered v) f expiry n = first refl
later_number (stopped k) (ended (by_a_check c)) expiry n = absurd c
later_number (stopped k) (ended cubic_refused) expiry n = next (first refl)
later_number (stopped k) (ended region_refused) expiry n = next (next (first refl))
later_number (looping branch beta step st) (loop form) expiry n = go (loop_run branch beta step st form (sqrt_of binary64 expiry) n).1.number
  where
    go : {k : ℕ} → (k ≡ 0) ⊎ (k ≡ 7) → OneOf k (0 ∷ 6 ∷ 7 ∷ [])
    go (inl z) = first z
    go (inr z) = next (next (first z))
