-- What a call adds to the quotes that are live after those before it, or takes from them; and that their series are apart. Theorems.
use mathlib.Core.Path.{◌≡◌, refl, ap, sym, subst, ◌∙◌}
use mathlib.Core.Bool.{Bool, true, false, true≢false, cond, ◌||◌}
use mathlib.Core.Logic.{inl, inr}
use mathlib.Core.List.{List, [], ◌∷◌, ◌++◌, append-nil}
use Prim.Native.Nat.{ℕ, ◌≤◌, ◌<◌}
use native.Mathlib.Omega.{arith}
use borrow.Author.Tests.{eqb-true, eqb-false, ne_eqb, lt-ltb, le-ltb, ltb-true, ltb-false}
use lib.Dec.{eqb}
use lib.Ieee.{is_nan}
use Rattle.std.proofs.lemmas.Bool.{cases_Bool}
use lib.ListN.{length, length-append}
use Rattle.std.specs.Prelude.{Result, Ok, Err}
use Rattle.market.specs.declared.board.LiveQuote.{LiveQuote}
use Rattle.market.specs.declared.refusal.Refusal.{Refusal}
use Rattle.market.specs.Board.{place_of, is_live, arrival_check}
use Rattle.market.specs.Promises.Board.{Call, arrive, leave, highest, has_left, accepted_by, standing, live_after, AllQuotes, Apart, AreLive}
use Rattle.market.proofs.Laws.Quotes.{accepted}
use Rattle.market.proofs.Laws.Highest.{Numbers}
use Rattle.market.proofs.Laws.Changes.{without}

-- ---- one call more

-- calls by which the same series leave
same_leavers : (cs ds : List Call) → ((s : ℕ) → has_left cs s ≡ has_left ds s) → (past : List Call) → standing cs past ≡ standing ds past
same_leavers cs ds e [] = refl
same_leavers cs ds e (arrive q ∷ past) = rw (same_leavers (arrive q ∷ cs) (arrive q ∷ ds) e past, e q.series) refl
same_leavers cs ds e (leave s ∷ past) = same_leavers (leave s ∷ cs) (leave s ∷ ds) (λ t. ap (λ b. eqb t s || b) (e t)) past
same_leavers cs ds e (highest ∷ past) = same_leavers (highest ∷ cs) (highest ∷ ds) e past

pub after_arrival : (q : LiveQuote) (past : List Call) → live_after (arrive q ∷ past) ≡ live_after past ++ accepted_by (arrival_check (live_after past) q) q
after_arrival q past = rw (same_leavers (arrive q ∷ []) [] (λ s. refl) past) refl

pub after_highest : (past : List Call) → live_after (highest ∷ past) ≡ live_after past
after_highest past = same_leavers (highest ∷ []) [] (λ s. refl) past

-- the quotes but for those of a series
abbrev pub others : ℕ → List LiveQuote → List LiveQuote
others s [] = []
others s (q ∷ qs) = cond (eqb q.series s) (others s qs) (q ∷ others s qs)

others_both : (s : ℕ) (xs ys : List LiveQuote) → others s (xs ++ ys) ≡ others s xs ++ others s ys
others_both s [] ys = refl
others_both s (q ∷ qs) ys = elim (cases_Bool (eqb q.series s)) [
  | inl h ↦ rw (h, others_both s qs ys) refl
  | inr h ↦ rw (h, others_both s qs ys) refl
]

-- an arrival of the series that leaves does not stand
kept : (s : ℕ) (q : LiveQuote) (b : Bool) (r : Result Unit Refusal) → cond (eqb q.series s || b) [] (accepted_by r q) ≡ others s (cond b [] (accepted_by r q))
kept s q b r = go (eqb q.series s) refl b r
  where
    go : (x : Bool) → eqb q.series s ≡ x → (b : Bool) (r : Result Unit Refusal) → cond (x || b) [] (accepted_by r q) ≡ others s (cond b [] (accepted_by r q))
    go true e true r = refl
    go true e false (Ok u) = rw e refl
    go true e false (Err refusal) = refl
    go false e true r = refl
    go false e false (Ok u) = rw e refl
    go false e false (Err refusal) = refl

or_swap : (a b c : Bool) → (a || (b || c)) ≡ (b || (a || c))
or_swap true true c = refl
or_swap true false c = refl
or_swap false b c = refl

-- calls by which one series more leaves
one_more_leaver : (s : ℕ) (cs ds : List Call) → ((t : ℕ) → has_left cs t ≡ (eqb t s || has_left ds t)) → (past : List Call) → standing cs past ≡ others s (standing ds past)
one_more_leaver s cs ds e [] = refl
one_more_leaver s cs ds e (arrive q ∷ past) =
    let acc = accepted_by (arrival_check (live_after past) q) q in
    rw (one_more_leaver s (arrive q ∷ cs) (arrive q ∷ ds) e past, e q.series, kept s q (has_left ds q.series) (arrival_check (live_after past) q)) (sym (others_both s (standing (arrive q ∷ ds) past) (cond (has_left ds q.series) [] acc)))
one_more_leaver s cs ds e (leave u ∷ past) = one_more_leaver s (leave u ∷ cs) (leave u ∷ ds) (λ t. ap (λ b. eqb t u || b) (e t) ∙ or_swap (eqb t u) (eqb t s) (has_left ds t)) past
one_more_leaver s cs ds e (highest ∷ past) = one_more_leaver s (highest ∷ cs) (highest ∷ ds) e past

pub after_leaving : (s : ℕ) (past : List Call) → live_after (leave s ∷ past) ≡ others s (live_after past)
after_leaving s past = one_more_leaver s (leave s ∷ []) [] (λ t. refl) past

-- ---- the series are apart

abbrev Absent : ℕ → List LiveQuote → Type 0
Absent s qs = AllQuotes (λ q. q.series ≡ s → ⊥) qs

absent : (s : ℕ) (qs : List LiveQuote) → is_live s qs ≡ false → Absent s qs
absent s [] e = tt
absent s (q ∷ qs) e = elim (cases_Bool (eqb q.series s)) [
  | inl h ↦ absurd (omega (arith, ltb-false _ _ (rw h at e)))
  | inr h ↦ (eqb-false _ _ h, absent s qs (le-ltb _ _ (omega (arith, ltb-false _ _ (rw h at e)))))
]

others_absent : (s : ℕ) (qs : List LiveQuote) → Absent s qs → others s qs ≡ qs
others_absent s [] a = refl
others_absent s (q ∷ qs) a = rw (ne_eqb _ _ a.0, others_absent s qs a.1) refl

pub others_none : (s : ℕ) (qs : List LiveQuote) → is_live s qs ≡ false → others s qs ≡ qs
others_none s qs e = others_absent s qs (absent s qs e)

-- with the series apart, all of one series are the one at its place
pub others_is : (s : ℕ) (qs : List LiveQuote) → Apart qs → is_live s qs ≡ true → others s qs ≡ without (place_of s qs) qs
others_is s [] d e = absurd (true≢false (sym e))
others_is s (q ∷ qs) d e = elim (cases_Bool (eqb q.series s)) [
  | inl h ↦ rw h (others_absent s qs (subst (λ t. Absent t qs) (eqb-true _ _ h) d.0))
  | inr h ↦ rw h (ap (λ r. q ∷ r) (others_is s qs d.1 (lt-ltb _ _ (omega (arith, ltb-true _ _ (rw h at e))))))
]

absent_others : (t s : ℕ) (qs : List LiveQuote) → Absent t qs → Absent t (others s qs)
absent_others t s [] a = tt
absent_others t s (q ∷ qs) a = elim (cases_Bool (eqb q.series s)) [
  | inl h ↦ rw h (absent_others t s qs a.1)
  | inr h ↦ rw h (a.0, absent_others t s qs a.1)
]

apart_others : (s : ℕ) (qs : List LiveQuote) → Apart qs → Apart (others s qs)
apart_others s [] d = tt
apart_others s (q ∷ qs) d = elim (cases_Bool (eqb q.series s)) [
  | inl h ↦ rw h (apart_others s qs d.1)
  | inr h ↦ rw h (absent_others q.series s qs d.0, apart_others s qs d.1)
]

absent_both : (s : ℕ) (qs : List LiveQuote) (q : LiveQuote) → Absent s qs → (q.series ≡ s → ⊥) → Absent s (qs ++ (q ∷ []))
absent_both s [] q a n = (n, tt)
absent_both s (r ∷ qs) q a n = (a.0, absent_both s qs q a.1 n)

apart_both : (qs : List LiveQuote) (q : LiveQuote) → Apart qs → Absent q.series qs → Apart (qs ++ (q ∷ []))
apart_both [] q d a = (tt, tt)
apart_both (r ∷ qs) q d a = (absent_both r.series qs q d.0 (λ e. a.0 (sym e)), apart_both qs q d.1 a.1)

fewer : (s : ℕ) (qs : List LiveQuote) → length (others s qs) ≤ length qs
fewer s [] = omega arith
fewer s (q ∷ qs) = elim (cases_Bool (eqb q.series s)) [
  | inl h ↦ rw h (omega (arith, fewer s qs))
  | inr h ↦ rw h (omega (arith, fewer s qs))
]

pub one_fewer : (s : ℕ) (qs : List LiveQuote) → is_live s qs ≡ true → length (others s qs) < length qs
one_fewer s [] e = absurd (true≢false (sym e))
one_fewer s (q ∷ qs) e = elim (cases_Bool (eqb q.series s)) [
  | inl h ↦ rw h (omega (arith, fewer s qs))
  | inr h ↦ rw h (omega (arith, one_fewer s qs (lt-ltb _ _ (omega (arith, ltb-true _ _ (rw h at e))))))
]

-- ---- what is live after any calls

numbers_others : (s : ℕ) (qs : List LiveQuote) → Numbers qs → Numbers (others s qs)
numbers_others s [] n = tt
numbers_others s (q ∷ qs) n = elim (cases_Bool (eqb q.series s)) [
  | inl h ↦ rw h (numbers_others s qs n.1)
  | inr h ↦ rw h (n.0, numbers_others s qs n.1)
]

numbers_both : (qs : List LiveQuote) (q : LiveQuote) → Numbers qs → is_nan q.volatility ≡ false → Numbers (qs ++ (q ∷ []))
numbers_both [] q n h = (h, tt)
numbers_both (r ∷ qs) q n h = (n.0, numbers_both qs q n.1 h)

live_arrival : (q : LiveQuote) (qs : List LiveQuote) (r : Result Unit Refusal) → arrival_check qs q ≡ r → AreLive qs → AreLive (qs ++ accepted_by r q)
live_arrival q qs (Ok u) e k =
    let a = accepted q qs u e in
    record { few = rw length-append (omega (arith, a.2)); apart = apart_both qs q k.apart (absent q.series qs a.1); numbers = numbers_both qs q k.numbers a.0 }
live_arrival q qs (Err refusal) e k = rw append-nil k

pub are_live : (past : List Call) → AreLive (live_after past)
are_live [] = record { few = omega arith; apart = tt; numbers = tt }
are_live (arrive q ∷ past) = rw after_arrival (live_arrival q (live_after past) _ refl (are_live past))
are_live (leave s ∷ past) =
    let k = are_live past in
    rw after_leaving record { few = omega (arith, fewer s (live_after past), k.few); apart = apart_others s _ k.apart; numbers = numbers_others s _ k.numbers }
are_live (highest ∷ past) = rw after_highest (are_live past)
