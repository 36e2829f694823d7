-- What a completed step says of the bracket's ends, and so what every record of a loop says. Of the steps nothing is used but the two moves. Assumes nothing.
use mathlib.Core.Path.{◌≡◌, refl, sym, ap, ◌∙◌, subst}
use mathlib.Core.Bool.{Bool, true, false, cond, ◌&&◌, and-false}
use mathlib.Core.Logic.{◌⊎◌, inl, inr}
use Prim.Native.Nat.{ℕ}
use lib.Ieee.{Float, nan, inf, fin, lt}
use Rattle.elementary.specs.declared.rule_set.RuleSet.{RuleSet}
use Rattle.elementary.proofs.Laws.Compare.{lt_asym}
use Rattle.std.specs.Prelude.{Ok, Err}
use Rattle.prices.specs.Answers.{Answer}
use Rattle.prices.specs.Vega.{vega_of}
use Rattle.prices.specs.Black.{call_of}
use Rattle.solver.specs.declared.state.State.{State}
use Rattle.solver.specs.declared.state.Record.{Record}
use Rattle.solver.specs.declared.state.Step.{Step}
use Rattle.solver.specs.Loop.{advance, stop, by_test, run}
use Rattle.solver.specs.declared.state.Bracket.{Bracket}
use Rattle.solver.specs.Step.{StepResult, bracket_after, ds_at, record_of, state_after, with_price, step_by, is_close, transition_of, next_by}
use Rattle.solver.specs.Promises.Demand3.{At, Linked, NotBelow, NotAbove, EndFrom}
use Rattle.solver.proofs.Laws.Runs.{trace, every, linked, from}

-- ---- a completed step, from the state that it starts at
pub step_completed : (step : State → StepResult) (st st' : State) (r : Record) → next_by step st ≡ advance r st' → step st ≡ Ok (record { state = st'; kept = r })
step_completed step st st' r = cases (is_close st) (step st)
  where
    cases : (c : Bool) (w : StepResult) → cond c (stop (by_test st)) (transition_of w) ≡ advance r st' → w ≡ Ok (record { state = st'; kept = r })
    cases true w e = cc
    cases false (Ok taken) e =
        let kept : taken.kept ≡ r = cc in
        let after : taken.state ≡ st' = cc in
        rw (← kept, ← after) refl
    cases false (Err n) e = cc

-- ---- what it says of the ends: those of its record are the state's, moved by its price and its s, and the next state has them
pub record BracketMove (beta : Float) (st st' : State) (r : Record) : Type 0 where
  pub bracket : bracket_after r.b beta r.s st.left st.right ≡ record { left = r.left; right = r.right }
  pub left : st'.left ≡ r.left
  pub right : st'.right ≡ r.right

module _ (ds_of : Float → Float → Float → Bracket → Float) (after_of : Float → Float → Float) (set : RuleSet) (x beta : Float) where
  -- the record and the state of a completed step, and its s after
  pub record StepFacts (st st' : State) (r : Record) : Type 0 where
    pub moves : BracketMove beta st st' r
    pub from_s : r.s ≡ st.s
    pub ds : Float
    pub after : r.after ≡ after_of st.s ds
    pub next_s : st'.s ≡ r.after

  pub step_facts : (st st' : State) (r : Record) → next_by (step_by ds_of after_of set x beta) st ≡ advance r st' → StepFacts st st' r
  step_facts st st' r e = priced (call_of set x st.s) (step_completed (step_by ds_of after_of set x beta) st st' r e)
    where
      S : Float → Step
      S b = record { state = state_after ds_of after_of beta st b (vega_of x st.s); kept = record_of ds_of after_of beta st b (vega_of x st.s) }

      taken : (b : Float) → ◌≡◌ {A = StepResult} (Ok (S b)) (Ok (record { state = st'; kept = r })) → S b ≡ record { state = st'; kept = r }
      taken b h = cc

      priced : (a : Answer) → with_price a S ≡ Ok (record { state = st'; kept = r }) → StepFacts st st' r
      priced (Err n) h = cc
      priced (Ok b) h =
          let t = taken b h in
          rw (← ap (λ (w : Step). w.state) t, ← ap (λ (w : Step). w.kept) t)
          (record { moves = record { bracket = refl; left = refl; right = refl }; from_s = refl; ds = ds_at ds_of after_of beta st b (vega_of x st.s); after = refl; next_s = refl })

-- ---- the ends
pub lt_irrefl : (x : Float) → lt x x ≡ false
lt_irrefl x = by_cases (lt x x) refl
  where
    by_cases : (b : Bool) → lt x x ≡ b → lt x x ≡ false
    by_cases true e = lt_asym x x e
    by_cases false e = e

and_l : (a b : Bool) → (a && b) ≡ true → a ≡ true
and_l true b h = refl
and_l false b h = h

and_r : (a b : Bool) → (a && b) ≡ true → b ≡ true
and_r true b h = h
and_r false b h = cc

-- the bracket's move: neither end goes outward, and each stays or becomes s, where the price lies on its side
module _ (b beta s left right : Float) where
  abbrev Facts : Bracket → Type 0
  Facts e =
      NotBelow left e.left × NotAbove right e.right × ((e.left ≡ left) ⊎ ((e.left ≡ s) × (lt b beta ≡ true))) × ((e.right ≡ right) ⊎ ((e.right ≡ s) × (lt beta b ≡ true)))

  facts : Facts (bracket_after b beta s left right)
  facts = cases (lt beta b && lt s right) (lt b beta && lt left s) refl refl
    where
      cases : (p q : Bool) → (lt beta b && lt s right) ≡ p → (lt b beta && lt left s) ≡ q
          → Facts (cond p (record { left = left; right = s }) (cond q (record { left = s; right = right }) (record { left = left; right = right })))
      cases true q e f = (lt_irrefl left, lt_asym s right (and_r (lt beta b) (lt s right) e), inl refl, inr (refl, and_l (lt beta b) (lt s right) e))
      cases false true e f = (lt_asym left s (and_r (lt b beta) (lt left s) f), lt_irrefl right, inr (refl, and_l (lt b beta) (lt left s) f), inl refl)
      cases false false e f = (lt_irrefl left, lt_irrefl right, inl refl, inl refl)

-- an end that is NaN does not move, as nothing compares with it
nan_above : (s : Float) → lt s nan ≡ false
unfolding lt
nan_above nan = refl
nan_above (inf t) = refl
nan_above (fin t m e) = refl

left_nan : (b beta s right : Float) → (bracket_after b beta s nan right).left ≡ nan
unfolding lt
left_nan b beta s right = rw (and-false (lt b beta)) (go (lt beta b && lt s right))
  where
    go : (p : Bool) → (cond {A = Bracket} p (record { left = nan; right = s }) (record { left = nan; right = right })).left ≡ nan
    go true = refl
    go false = refl

right_nan : (b beta s left : Float) → (bracket_after b beta s left nan).right ≡ nan
right_nan b beta s left = rw (nan_above s, and-false (lt beta b)) (go (lt b beta && lt left s))
  where
    go : (q : Bool) → (cond {A = Bracket} q (record { left = s; right = nan }) (record { left = left; right = nan })).right ≡ nan
    go true = refl
    go false = refl

module _ (step : State → StepResult) (beta : Float) (moved : (st st' : State) (r : Record) → next_by step st ≡ advance r st' → BracketMove beta st st' r) where
  ends_move : (st st' : State) (r : Record) (e : next_by step st ≡ advance r st') → Facts r.b beta r.s st.left st.right (record { left = r.left; right = r.right })
  ends_move st st' r e = subst (Facts r.b beta r.s st.left st.right) (moved st st' r e).bracket (facts r.b beta r.s st.left st.right)

  pub left_never_falls : (n : ℕ) (st : State) → Linked NotBelow (λ r. r.left) st.left (run (next_by step) n st).records
  left_never_falls n st = linked (next_by step) (λ st. st.left) (λ r. r.left) (λ st st' r e. (moved st st' r e).left) NotBelow (λ st st' r e. (ends_move st st' r e).0) (trace (next_by step) n st)

  pub right_never_grows : (n : ℕ) (st : State) → Linked NotAbove (λ r. r.right) st.right (run (next_by step) n st).records
  right_never_grows n st = linked (next_by step) (λ st. st.right) (λ r. r.right) (λ st st' r e. (moved st st' r e).right) NotAbove (λ st st' r e. (ends_move st st' r e).1) (trace (next_by step) n st)

  pub left_from : (n : ℕ) (st : State) (i : ℕ) (r : Record) → At (run (next_by step) n st).records i r → EndFrom (λ r. r.left) (λ q. lt q.b beta ≡ true) st.left (run (next_by step) n st).records i r
  left_from n st i r a =
      from (next_by step) (λ st. st.left) (λ r. r.left) (λ st st' r e. (moved st st' r e).left) (λ q. q.s) (λ q. lt q.b beta ≡ true) (λ st st' r e. (ends_move st st' r e).2) (trace (next_by step) n st) a

  pub right_from : (n : ℕ) (st : State) (i : ℕ) (r : Record) → At (run (next_by step) n st).records i r → EndFrom (λ r. r.right) (λ q. lt beta q.b ≡ true) st.right (run (next_by step) n st).records i r
  right_from n st i r a =
      from (next_by step) (λ st. st.right) (λ r. r.right) (λ st st' r e. (moved st st' r e).right) (λ q. q.s) (λ q. lt beta q.b ≡ true) (λ st st' r e. (ends_move st st' r e).3) (trace (next_by step) n st) a

  pub left_stays : (n : ℕ) (st : State) → st.left ≡ nan → (i : ℕ) (r : Record) → At (run (next_by step) n st).records i r → r.left ≡ nan
  left_stays n st z i r a =
      every (next_by step) (λ q. q.left ≡ nan) (λ p. p.left ≡ nan)
      (λ q q' p e h.
      let m = moved q q' p e in
      let g : p.left ≡ nan = ap (λ w. w.left) (sym m.bracket) ∙ rw h (left_nan p.b beta p.s q.right) in
      (m.left ∙ g, g))
      (trace (next_by step) n st) z a

  pub right_stays : (n : ℕ) (st : State) → st.right ≡ nan → (i : ℕ) (r : Record) → At (run (next_by step) n st).records i r → r.right ≡ nan
  right_stays n st z i r a =
      every (next_by step) (λ q. q.right ≡ nan) (λ p. p.right ≡ nan)
      (λ q q' p e h.
      let m = moved q q' p e in
      let g : p.right ≡ nan = ap (λ w. w.right) (sym m.bracket) ∙ rw h (right_nan p.b beta p.s q.left) in
      (m.right ∙ g, g))
      (trace (next_by step) n st) z a
