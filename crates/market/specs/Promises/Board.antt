-- What the live board is promised to be: for every list of calls from an empty board what document 02's ticket 3 says, from the calls alone; and what its calls do
-- to any bytes. Statements only.
use Rattle.std.specs.Prelude.{◌≡◌, Bool, true, false, ◌||◌, cond, List, [], ◌∷◌, ◌++◌, ℕ, suc, ◌≤◌, ◌<◌, ◌^◌, T, eqb, length, take, drop, replicate, Result, Ok, Err, Option, Some, None}
use Rattle.std.specs.Float.{binary64}
use Rattle.std.specs.Float.Ieee.{lt, fits, is_nan}
use Rattle.market.specs.declared.board.LiveQuote.{LiveQuote}
use Rattle.market.specs.declared.refusal.Refusal.{Refusal}
use Rattle.market.specs.Board.{live_quotes, place_of, is_live, arrival_check, arrive_of, leave_of, highest_in, highest_of}

-- ---- calls, and what is answered

-- the three calls, of an arrival with its quote, of a leaving with its series
pub data Call : Type 0 where
  arrive : LiveQuote → Call
  leave : ℕ → Call
  highest : Call

-- what each answers: accepted or refused, whether it was live, the quote or none
pub data Answer : Type 0 where
  arrival : Result Unit Refusal → Answer
  departure : Bool → Answer
  shown : Option LiveQuote → Answer

-- ---- from the calls alone

-- whether a series leaves by a call
abbrev pub leaves_by : Call → ℕ → Bool
leaves_by (arrive q) series = false
leaves_by (leave s) series = eqb series s
leaves_by highest series = false

-- whether it has left by one of these
abbrev pub has_left : List Call → ℕ → Bool
has_left [] series = false
has_left (c ∷ cs) series = leaves_by c series || has_left cs series

-- an arrival, unless it is refused, where these are live
abbrev pub accepted_by : Result Unit Refusal → LiveQuote → List LiveQuote
accepted_by (Ok accepted) q = q ∷ []
accepted_by (Err refusal) q = []

-- The accepted arrivals among the calls so far, the latest call first, that have not left since, in order of arrival; `since` are the calls that came after them.
abbrev pub standing : List Call → List Call → List LiveQuote
standing since [] = []
standing since (arrive q ∷ past) = standing (arrive q ∷ since) past ++ cond (has_left since q.series) [] (accepted_by (arrival_check (standing [] past) q) q)
standing since (leave s ∷ past) = standing (leave s ∷ since) past
standing since (highest ∷ past) = standing (highest ∷ since) past

-- what is live after all calls so far
abbrev pub live_after : List Call → List LiveQuote
live_after past = standing [] past

-- what the next call answers then
abbrev pub answer_after : List Call → Call → Answer
answer_after past (arrive q) = arrival (arrival_check (live_after past) q)
answer_after past (leave s) = departure (is_live s (live_after past))
answer_after past highest = shown (highest_in (live_after past))

-- what all of them answer
abbrev pub answers_after : List Call → List Call → List Answer
answers_after past [] = []
answers_after past (c ∷ cs) = answer_after past c ∷ answers_after (c ∷ past) cs

-- ---- from a board's bytes

-- what a call answers, by the definitions over bytes
abbrev pub answer_on : List ℕ → Call → Answer
answer_on board (arrive q) = arrival (arrive_of q board).answer
answer_on board (leave s) = departure (leave_of s board).was_live
answer_on board highest = shown (highest_of board)

-- and the bytes after it
abbrev pub board_after : List ℕ → Call → List ℕ
board_after board (arrive q) = (arrive_of q board).board
board_after board (leave s) = (leave_of s board).board
board_after board highest = board

-- what all of them answer, each on the bytes that the one before it leaves
abbrev pub answers_on : List ℕ → List Call → List Answer
answers_on board [] = []
answers_on board (c ∷ cs) = answer_on board c ∷ answers_on (board_after board c) cs

-- ---- the promises

-- the series of an arrival is a u32 and its volatility an f64, NaN or not
abbrev pub IsQuote : LiveQuote → Type 0
IsQuote q = (q.series < 2 ^ 32) × T (fits binary64 q.volatility)

abbrev pub IsCall : Call → Type 0
IsCall (arrive q) = IsQuote q
IsCall (leave s) = Unit
IsCall highest = Unit

abbrev pub AreCalls : List Call → Type 0
AreCalls [] = Unit
AreCalls (c ∷ cs) = IsCall c × AreCalls cs

abbrev pub empty_board : List ℕ
empty_board = replicate 3076 0

-- Every call in every list of calls from an empty board answers what follows from the calls before it.
abbrev pub BoardFollowsCalls : Type 0
BoardFollowsCalls = (calls : List Call) → AreCalls calls → answers_on empty_board calls ≡ answers_after [] calls

-- each of some quotes is so
abbrev pub AllQuotes : (LiveQuote → Type 0) → List LiveQuote → Type 0
AllQuotes P [] = Unit
AllQuotes P (q ∷ qs) = P q × AllQuotes P qs

-- no series twice
abbrev pub Apart : List LiveQuote → Type 0
Apart [] = Unit
Apart (q ∷ qs) = AllQuotes (λ e. e.series ≡ q.series → ⊥) qs × Apart qs

pub record AreLive (qs : List LiveQuote) : Type 0 where
  pub few : length qs ≤ 256
  pub apart : Apart qs
  pub numbers : AllQuotes (λ q. is_nan q.volatility ≡ false) qs

-- After any calls at most 256 quotes are live, no series is twice, and no volatility is NaN.
abbrev pub LiveAfterCalls : Type 0
LiveAfterCalls = (past : List Call) → AreLive (live_after past)

-- Where a series has left, another arrival is accepted, on a board that was full too: unless its volatility is NaN or its series is live.
abbrev pub LeftPlaceIsFilled : Type 0
LeftPlaceIsFilled = (past : List Call) (s : ℕ) (q : LiveQuote) → is_live s (live_after past) ≡ true
    → is_nan q.volatility ≡ false → is_live q.series (live_after (leave s ∷ past)) ≡ false → arrival_check (live_after (leave s ∷ past)) q ≡ Ok tt

-- None is shown of none. Of quotes without a NaN one is shown to which the earlier ones are below and the later ones not above.
pub record HighestIsEarliest : Type 0 where
  pub none : highest_in [] ≡ None
  pub one : (q : LiveQuote) (qs : List LiveQuote) → AllQuotes (λ e. is_nan e.volatility ≡ false) (q ∷ qs)
      → (earlier later : List LiveQuote) × (h : LiveQuote) × (highest_in (q ∷ qs) ≡ Some h) × (q ∷ qs ≡ earlier ++ (h ∷ later))
      × AllQuotes (λ e. lt e.volatility h.volatility ≡ true) earlier × AllQuotes (λ e. lt h.volatility e.volatility ≡ false) later

-- On any bytes: an arrival that is accepted stands behind the live quotes, one that leaves is taken from its place among them; else no byte changes.
pub record OnBoard (board : List ℕ) : Type 0 where
  pub arrives : (q : LiveQuote) → IsQuote q → (arrive_of q board).answer ≡ Ok tt → live_quotes (arrive_of q board).board ≡ live_quotes board ++ (q ∷ [])
  pub refused : (q : LiveQuote) (refusal : Refusal) → (arrive_of q board).answer ≡ Err refusal → (arrive_of q board).board ≡ board
  pub leaves : (s : ℕ) → (leave_of s board).was_live ≡ true
      → let k = place_of s (live_quotes board) in live_quotes (leave_of s board).board ≡ take k (live_quotes board) ++ drop (suc k) (live_quotes board)
  pub stays : (s : ℕ) → (leave_of s board).was_live ≡ false → (leave_of s board).board ≡ board

abbrev pub OnAnyBoard : Type 0
OnAnyBoard = (board : List ℕ) → length board ≡ 3076 → OnBoard board
