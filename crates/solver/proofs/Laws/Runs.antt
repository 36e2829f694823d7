-- Demand 3 of any loop: a longer limit gives the same run or continues it, the steps keep within the limit, and what a step keeps or moves is so in every
-- record. Assumes nothing.
use mathlib.Core.Path.{◌≡◌, refl, sym, ◌∙◌, ap}
use mathlib.Core.Bool.{Bool, true, false, true≢false}
use mathlib.Core.Logic.{◌⊎◌, inl, inr, ⊎_elim}
use mathlib.Core.List.{List, [], ◌∷◌, ◌++◌}
use Prim.Native.Nat.{ℕ, zero, suc, ◌≤◌, ◌<◌, zero-le, suc-le-suc}
use native.Mathlib.Omega.{arith}
use lib.ListN.{length}
use Rattle.solver.specs.Loop.{Ending, by_test, by_limit, by_refusal, Transition, advance, stop, Run, follow, run}
use Rattle.solver.specs.Promises.Demand3.{At, here, there, Linked}

-- the run reached its limit
abbrev pub is_by_limit : {S : Type 0} → Ending S → Bool
is_by_limit (by_test s) = false
is_by_limit (by_limit s) = true
is_by_limit (by_refusal k) = false

module _ {S R : Type 0} where
  -- the records of w begin with those of v
  abbrev pub StartsWith : Run S R → Run S R → Type 0
  StartsWith w v = (rest : List R) × (w.records ≡ v.records ++ rest)

  follow_begins : (long short : S → Run S R) → ((s : S) → StartsWith (long s) (short s)) → (t : Transition S R) → StartsWith (follow t long) (follow t short)
  follow_begins long short ih (advance r s) = ((ih s).0, ap (λ l. r ∷ l) (ih s).1)
  follow_begins long short ih (stop e) = ([], refl)

  follow_same : (long short : S → Run S R) → ((s : S) → is_by_limit (short s).ending ≡ false → long s ≡ short s)
      → (t : Transition S R) → is_by_limit (follow t short).ending ≡ false → follow t long ≡ follow t short
  follow_same long short ih (advance r s) h = rw (ih s h)
  follow_same long short ih (stop e) h = refl

  follow_steps : (n : ℕ) (rest : S → Run S R) → ((s : S) → length (rest s).records ≤ n) → (t : Transition S R) → length (follow t rest).records ≤ suc n
  follow_steps n rest ih (advance r s) = suc-le-suc (ih s)
  follow_steps n rest ih (stop e) = zero-le

  follow_ends : (says : Ending S → Type 0) (rest : S → Run S R) → ((s : S) → says (rest s).ending) → (t : Transition S R) → ((e : Ending S) → t ≡ stop e → says e) → says (follow t rest).ending
  follow_ends says rest ih (advance r s) h = ih s
  follow_ends says rest ih (stop e) h = h e refl

  -- a run of limit n that its limit ended has taken n steps, any other fewer
  abbrev pub Counts : ℕ → Run S R → Type 0
  Counts n w = (is_by_limit w.ending ≡ true → length w.records ≡ n) × (is_by_limit w.ending ≡ false → length w.records < n)

  follow_counts : (n : ℕ) (rest : S → Run S R) → ((s : S) → Counts n (rest s)) → (t : Transition S R) → ((e : Ending S) → t ≡ stop e → is_by_limit e ≡ false) → Counts (suc n) (follow t rest)
  follow_counts n rest ih (advance r s) h = (λ e. ap suc ((ih s).0 e), λ e. omega (arith, (ih s).1 e))
  follow_counts n rest ih (stop x) h = (λ e. absurd (true≢false (sym e ∙ h x refl)), λ e. omega arith)

module _ {S R : Type 0} (next : S → Transition S R) where
  -- the long run's records begin with all the short run's
  pub begins : (n m : ℕ) → n ≤ m → (s : S) → StartsWith (run next m s) (run next n s)
  unfolding run
  begins zero m h s = ((run next m s).records, refl)
  begins (suc n) zero h s = absurd (omega arith)
  begins (suc n) (suc m) h s = follow_begins (run next m) (run next n) (begins n m (omega arith)) (next s)

  -- a short run that ends for any cause but its limit is the long run
  pub same : (n m : ℕ) → n ≤ m → (s : S) → is_by_limit (run next n s).ending ≡ false → run next m s ≡ run next n s
  unfolding run
  same zero m h s e = cc
  same (suc n) zero h s e = absurd (omega arith)
  same (suc n) (suc m) h s e = follow_same (run next m) (run next n) (same n m (omega arith)) (next s) e

  pub steps : (n : ℕ) (s : S) → length (run next n s).records ≤ n
  unfolding run
  steps zero s = zero-le
  steps (suc n) s = follow_steps n (run next n) (steps n) (next s)

  -- what is so of a limit reached and of every ending that a state leads to is so of the run's ending
  pub ends_as : (says : Ending S → Type 0) → ((s : S) → says (by_limit s)) → ((s : S) (e : Ending S) → next s ≡ stop e → says e) → (n : ℕ) (s : S) → says (run next n s).ending
  unfolding run
  ends_as says l h zero s = l s
  ends_as says l h (suc n) s = follow_ends says (run next n) (ends_as says l h n) (next s) (h s)

  pub counts : ((s : S) (e : Ending S) → next s ≡ stop e → is_by_limit e ≡ false) → (n : ℕ) (s : S) → Counts n (run next n s)
  unfolding run
  counts h zero s = (λ e. refl, λ e. absurd (true≢false e))
  counts h (suc n) s = follow_counts n (run next n) (counts h n) (next s) (h s)

  -- the records that the states lead to, one after another
  pub data Trace : S → List R → Type 0 where
    none : {s : S} → Trace s []
    one : {s s' : S} {r : R} {rs : List R} → next s ≡ advance r s' → Trace s' rs → Trace s (r ∷ rs)

  follow_trace : (s : S) (rest : S → Run S R) → ((s' : S) → Trace s' (rest s').records) → (t : Transition S R) → next s ≡ t → Trace s (follow t rest).records
  follow_trace s rest ih (advance r s') e = one e (ih s')
  follow_trace s rest ih (stop x) e = none

  pub trace : (n : ℕ) (s : S) → Trace s (run next n s).records
  unfolding run
  trace zero s = none
  trace (suc n) s = follow_trace s (run next n) (trace n) (next s) refl

  -- what holds of each state and so of the next, and what each step then says of its record, is so of every record
  pub every : (invariant : S → Type 0) (says : R → Type 0) → ((s s' : S) (r : R) → next s ≡ advance r s' → invariant s → invariant s' × says r)
      → {s : S} {rs : List R} {i : ℕ} {r : R} → Trace s rs → invariant s → At rs i r → says r
  every invariant says one_step {i = i} {r = r} (none {s = s}) h a = elim a [ ]
  every invariant says one_step (one {s} {s'} {r} e t) h here = (one_step s s' r e h).1
  every invariant says one_step (one {s} {s'} {r} e t) h (there a) = every invariant says one_step t (one_step s s' r e h).0 a

  -- an end of the state, and the same end after the step in its record
  module _ {A : Type 0} (end : S → A) (end' : R → A) (kept : (s s' : S) (r : R) → next s ≡ advance r s' → end s' ≡ end' r) where
    pub linked : (rel : A → A → Type 0) → ((s s' : S) (r : R) → next s ≡ advance r s' → rel (end s) (end' r))
        → {s : S} {rs : List R} → Trace s rs → Linked rel end' (end s) rs
    linked rel one_step none = tt
    linked rel one_step (one {s} {s'} {r} {rs} e t) = (one_step s s' r e, rw (← kept s s' r e) (linked rel one_step t))

    -- r's end is the starting end, or the place of a record q, that one or an earlier, that lies on the end's side
    abbrev pub From : (R → A) → (R → Type 0) → S → List R → ℕ → R → Type 0
    From place side s rs i r = (end' r ≡ end s) ⊎ ((j : ℕ) × (q : R) × (j ≤ i) × At rs j q × (end' r ≡ place q) × side q)

    pub from : (place : R → A) (side : R → Type 0) → ((s s' : S) (r : R) → next s ≡ advance r s' → (end' r ≡ end s) ⊎ ((end' r ≡ place r) × side r))
        → {s : S} {rs : List R} {i : ℕ} {r : R} → Trace s rs → At rs i r → From place side s rs i r
    from place side moved {i = i} {r = r} (none {s = s}) a = elim a [ ]
    from place side moved (one {s} {s'} {r} e t) here = ⊎_elim inl (λ m. inr (0, r, zero-le, here, m.0, m.1)) (moved s s' r e)
    from place side moved (one {s} {s'} {r} e t) (there a) =
        ⊎_elim
        (λ p. ⊎_elim (λ m. inl (p ∙ kept s s' r e ∙ m)) (λ m. inr (0, r, zero-le, here, p ∙ kept s s' r e ∙ m.0, m.1)) (moved s s' r e))
        (λ f. inr (suc f.0, f.1, suc-le-suc f.2, there f.3, f.4, f.5))
        (from place side moved t a)
