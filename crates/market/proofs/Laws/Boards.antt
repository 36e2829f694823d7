-- A board whose live quotes are those of the calls before answers the next call as these say, and its live quotes are those of one call more. Theorems.
use mathlib.Core.Path.{◌≡◌, refl, sym, ◌∙◌}
use mathlib.Core.Bool.{Bool, true, false, true≢false, cond}
use mathlib.Core.Logic.{inl, inr}
use mathlib.Core.List.{List, [], ◌∷◌, ◌++◌, append-nil}
use Prim.Native.Nat.{ℕ, ◌<◌}
use borrow.Author.Tests.{ltb-true}
use lib.ListN.{length}
use Rattle.std.proofs.lemmas.Bool.{cases_Bool}
use Rattle.std.specs.Prelude.{Result, Ok, Err}
use Rattle.market.specs.declared.board.LiveQuote.{LiveQuote}
use Rattle.market.specs.declared.refusal.Refusal.{Refusal}
use Rattle.market.specs.Board.{Departure, live_count, live_quotes, place_of, is_live, arrival_check, arrival_by, arrive_of, leave_of, highest_in, highest_of, without_place}
use Rattle.market.specs.Promises.Board.{empty_board, Call, arrive, leave, highest, arrival, departure, shown, IsQuote, IsCall, AreCalls, live_after, answer_after, answers_after, answer_on, board_after, answers_on, OnBoard}
use Rattle.market.proofs.Laws.Quotes.{length_live, room, at_most}
use Rattle.market.proofs.Laws.Changes.{live_with, length_with, live_without, length_without, without}
use Rattle.market.proofs.Laws.Calls.{after_arrival, after_leaving, after_highest, others_is, others_none, are_live}

-- ---- on any bytes

module _ (board : List ℕ) (inside : length board ≡ 3076) where
  place_below : (s : ℕ) → is_live s (live_quotes board) ≡ true → place_of s (live_quotes board) < live_count board
  place_below s e = rw (length_live board) at (ltb-true _ _ e)

  arrives : (q : LiveQuote) → IsQuote q → (arrive_of q board).answer ≡ Ok tt → live_quotes (arrive_of q board).board ≡ live_quotes board ++ (q ∷ [])
  unfolding arrive_of
  arrives q given = go (arrival_check (live_quotes board) q) refl
    where
      go : (r : Result Unit Refusal) → arrival_check (live_quotes board) q ≡ r → (arrival_by r q board).answer ≡ Ok tt → live_quotes (arrival_by r q board).board ≡ live_quotes board ++ (q ∷ [])
      go (Ok u) e h = live_with q board given inside (room q board u e)
      go (Err refusal) e h = cc

  refused : (q : LiveQuote) (refusal : Refusal) → (arrive_of q board).answer ≡ Err refusal → (arrive_of q board).board ≡ board
  unfolding arrive_of
  refused q refusal = go (arrival_check (live_quotes board) q)
    where
      go : (r : Result Unit Refusal) → (arrival_by r q board).answer ≡ Err refusal → (arrival_by r q board).board ≡ board
      go (Ok u) h = cc
      go (Err k) h = refl

  leaves : (s : ℕ) → (leave_of s board).was_live ≡ true → live_quotes (leave_of s board).board ≡ without (place_of s (live_quotes board)) (live_quotes board)
  unfolding leave_of
  leaves s h = elim (cases_Bool (is_live s (live_quotes board))) [
    | inl e ↦ rw e (live_without (place_of s (live_quotes board)) board inside (place_below s e) (at_most board))
    | inr e ↦ absurd (true≢false (sym (rw e at h)))
  ]

  stays : (s : ℕ) → (leave_of s board).was_live ≡ false → (leave_of s board).board ≡ board
  unfolding leave_of
  stays s h = elim (cases_Bool (is_live s (live_quotes board))) [
    | inl e ↦ absurd (true≢false (rw e at h))
    | inr e ↦ rw e refl
  ]

  pub on_board : OnBoard board
  on_board = record { arrives = arrives; refused = refused; leaves = leaves; stays = stays }

-- ---- one call more

-- the board of these calls
pub record Holds (board : List ℕ) (past : List Call) : Type 0 where
  pub inside : length board ≡ 3076
  pub live : live_quotes board ≡ live_after past

abbrev Next : List ℕ → List Call → Call → Type 0
Next board past c = (answer_on board c ≡ answer_after past c) × Holds (board_after board c) (c ∷ past)

module _ (board : List ℕ) (past : List Call) (holds : Holds board past) where
  after_arrive : (q : LiveQuote) → IsQuote q → Next board past (arrive q)
  unfolding arrive_of
  after_arrive q given = go (arrival_check (live_quotes board) q) refl
    where
      now : (r : Result Unit Refusal) → arrival_check (live_quotes board) q ≡ r → arrival_check (live_after past) q ≡ r
      now r e = rw holds.live at e

      go : (r : Result Unit Refusal) → arrival_check (live_quotes board) q ≡ r
          → (arrival (arrival_by r q board).answer ≡ arrival (arrival_check (live_after past) q)) × Holds (arrival_by r q board).board (arrive q ∷ past)
      go (Ok u) e =
          let free = room q board u e in
          (rw (now _ e) refl, record { inside = length_with q board given holds.inside free; live = live_with q board given holds.inside free ∙ rw (holds.live, after_arrival, now _ e) refl })
      go (Err refusal) e = (rw (now _ e) refl, record { inside = holds.inside; live = holds.live ∙ rw (after_arrival, now _ e, append-nil) refl })

  after_leave : (s : ℕ) → Next board past (leave s)
  unfolding leave_of
  after_leave s = go (is_live s (live_quotes board)) refl
    where
      departed : Bool → Departure
      departed b = cond b (record { was_live = true; board = without_place (place_of s (live_quotes board)) board }) (record { was_live = false; board = board })

      go : (b : Bool) → is_live s (live_quotes board) ≡ b → (departure (departed b).was_live ≡ departure (is_live s (live_after past))) × Holds (departed b).board (leave s ∷ past)
      go true e =
          let below = place_below board holds.inside s e in
          let here : is_live s (live_after past) ≡ true = rw holds.live at e in (
            rw here refl,
            record {
              inside = length_without (place_of s (live_quotes board)) board holds.inside below (at_most board);
              live = live_without (place_of s (live_quotes board)) board holds.inside below (at_most board) ∙ rw (holds.live, after_leaving, others_is s (live_after past) (are_live past).apart here) refl;
            },
          )
      go false e =
          let here : is_live s (live_after past) ≡ false = rw holds.live at e in
          (rw here refl, record { inside = holds.inside; live = holds.live ∙ rw (after_leaving, others_none s (live_after past) here) refl })

  next_call : (c : Call) → IsCall c → Next board past c
  unfolding highest_of
  next_call (arrive q) given = after_arrive q given
  next_call (leave s) given = after_leave s
  next_call highest given = (highest_is, record { inside = holds.inside; live = holds.live ∙ rw after_highest refl })
    where
      highest_is : shown (highest_of board) ≡ shown (highest_in (live_after past))
      highest_is = rw holds.live refl

pub all_calls : (board : List ℕ) (past calls : List Call) → Holds board past → AreCalls calls → answers_on board calls ≡ answers_after past calls
all_calls board past [] holds given = refl
all_calls board past (c ∷ cs) holds given =
    let next = next_call board past holds c given.0 in
    rw (next.0, all_calls (board_after board c) (c ∷ past) cs next.1 given.1) refl

pub empty_holds : Holds empty_board []
unfolding live_quotes
empty_holds = record { inside = refl; live = refl }
