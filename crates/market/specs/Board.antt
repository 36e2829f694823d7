-- The live board: 256 places of 12 bytes for its quotes, which stand in order of arrival, and then the count of the live ones, all little-endian. What each call
-- answers, and every byte that it leaves, for any bytes of a board. Definitions only.
use Rattle.std.specs.Prelude.{Bool, true, false, cond, List, [], ◌∷◌, ◌++◌, ℕ, zero, suc, ◌+◌, ◌-◌, ◌*◌, ltb, eqb, length, take, drop, replicate, Result, Ok, Err, Option, Some, None}
use Rattle.std.specs.Float.Ieee.{lt, is_nan}
use Rattle.solver.specs.LittleEndian.{bytes_of, float_bytes, part, number_at, float_at, overwritten}
use Rattle.market.specs.declared.board.LiveQuote.{LiveQuote}
use Rattle.market.specs.declared.refusal.Refusal.{Refusal}
use Rattle.market.specs.declared.refusal.Refusal.TheVariants.{Volatility, SeriesLive, BoardFull}

-- ---- what stands on a board

-- a quote's bytes: its series, and its volatility's bits
abbrev pub quote_bytes : LiveQuote → List ℕ
quote_bytes q = bytes_of 4 q.series ++ float_bytes q.volatility

-- the quote of 12 bytes
abbrev pub quote_in : List ℕ → LiveQuote
quote_in bytes = record { series = number_at 0 4 bytes; volatility = float_at 4 bytes }

-- the first so many quotes
abbrev pub quotes_in : ℕ → List ℕ → List LiveQuote
quotes_in zero bytes = []
quotes_in (suc n) bytes = quote_in (take 12 bytes) ∷ quotes_in n (drop 12 bytes)

-- how many are live; a count above 256 says 256
abbrev pub live_count : List ℕ → ℕ
live_count board = let count = number_at 3072 4 board in cond (ltb count 256) count 256

-- the live quotes, in order of arrival
unfoldable pub live_quotes : List ℕ → List LiveQuote
live_quotes board = quotes_in (live_count board) board

-- the place of the first of some quotes that has a series; their count where none has it
abbrev pub place_of : ℕ → List LiveQuote → ℕ
place_of series [] = 0
place_of series (q ∷ qs) = cond (eqb q.series series) 0 (suc (place_of series qs))

-- whether one of them has it
abbrev pub is_live : ℕ → List LiveQuote → Bool
is_live series qs = ltb (place_of series qs) (length qs)

-- ---- arrive

-- what refuses an arrival where these are live: 33, then 34, then 35, or nothing
unfoldable pub arrival_check : List LiveQuote → LiveQuote → Result Unit Refusal
arrival_check live q =
    cond (is_nan q.volatility) (Err Volatility)
    (cond (is_live q.series live) (Err SeriesLive)
    (cond (ltb (length live) 256) (Ok tt) (Err BoardFull)))

-- the quote in the first place behind the live ones, and one more in the count
unfoldable pub with_quote : LiveQuote → List ℕ → List ℕ
with_quote q board =
    let n = live_count board in
    overwritten 3072 (bytes_of 4 (n + 1)) (overwritten (n * 12) (quote_bytes q) board)

-- what an arrival answers, and the board after it
pub record Arrival : Type 0 where
  pub answer : Result Unit Refusal
  pub board : List ℕ

-- a refusal leaves the board as it was
abbrev pub arrival_by : Result Unit Refusal → LiveQuote → List ℕ → Arrival
arrival_by (Ok accepted) q board = record { answer = Ok accepted; board = with_quote q board }
arrival_by (Err refusal) q board = record { answer = Err refusal; board = board }

-- arrive: the check over the live quotes decides
unfoldable pub arrive_of : LiveQuote → List ℕ → Arrival
arrive_of q board = arrival_by (arrival_check (live_quotes board) q) q board

-- ---- leave

-- what stands behind 12 bytes, up to an end, moves down over them, and 12 zeros follow it
abbrev pub moved_down : ℕ → ℕ → List ℕ → List ℕ
moved_down at end bytes = overwritten at (part (at + 12) (end - (at + 12)) bytes ++ replicate 12 0) bytes

-- the live quotes behind a place move down over it, so that the last one's place is zero, and the count has one less
unfoldable pub without_place : ℕ → List ℕ → List ℕ
without_place k board =
    let n = live_count board in
    overwritten 3072 (bytes_of 4 (n - 1)) (moved_down (k * 12) (n * 12) board)

-- whether the series was live, and the board after it
pub record Departure : Type 0 where
  pub was_live : Bool
  pub board : List ℕ

-- leave: the first quote of the series goes; where none is live the board stays as it was
unfoldable pub leave_of : ℕ → List ℕ → Departure
leave_of series board =
    let live = live_quotes board in
    cond (is_live series live) (record { was_live = true; board = without_place (place_of series live) board }) (record { was_live = false; board = board })

-- ---- highest

-- What is shown of an earlier arrival and a later one: the later one where it is above, compared as floats. So of equal ones the earlier is shown.
abbrev pub shown_of : LiveQuote → LiveQuote → LiveQuote
shown_of earlier later = cond (lt earlier.volatility later.volatility) later earlier

-- what is shown after one and then others, in order of arrival
abbrev pub highest_from : LiveQuote → List LiveQuote → LiveQuote
highest_from shown [] = shown
highest_from shown (q ∷ qs) = highest_from (shown_of shown q) qs

-- none of none
abbrev pub highest_in : List LiveQuote → Option LiveQuote
highest_in [] = None
highest_in (q ∷ qs) = Some (highest_from q qs)

-- highest, of the live quotes
unfoldable pub highest_of : List ℕ → Option LiveQuote
highest_of board = highest_in (live_quotes board)
