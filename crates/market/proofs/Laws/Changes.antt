-- What an arrival and a leaving do to the live quotes of any board. Theorems.
use mathlib.Core.Path.{◌≡◌, refl, ap, sym, ◌∙◌}
use mathlib.Core.Logic.{inl, inr}
use mathlib.Core.List.{List, [], ◌∷◌, ◌++◌, append_assoc}
use Prim.Native.Nat.{ℕ, zero, suc, ◌+◌, ◌-◌, ◌*◌, ◌^◌, ◌≤◌, ◌<◌}
use native.Mathlib.Omega.{arith}
use borrow.Author.Tests.{lt-ltb, le-ltb}
use lib.Ieee.{binary64, to_bits}
use lib.Ieee.Bits.{of_bits-to_bits, to_bits-lt}
use lib.ListN.{length, take, drop, replicate, length-append, length-drop, length-replicate, take-append-drop}
use lib.Seq.{length-take-le, take-append-le, drop-append-le, take_at, drop_at, drop-drop}
use Rattle.std.proofs.lemmas.Bool.{cases_lt}
use Rattle.solver.specs.LittleEndian.{bytes_of, number_from, part, number_at, overwritten}
use Rattle.solver.proofs.Laws.Overwritten.{length_overwritten}
use Rattle.market.specs.declared.board.LiveQuote.{LiveQuote}
use Rattle.market.specs.Board.{quote_bytes, quotes_in, live_count, live_quotes, with_quote, moved_down, without_place}
use Rattle.market.specs.Promises.Board.{IsQuote}
use Rattle.market.proofs.Laws.Quotes.{length_quotes}

-- ---- quotes in bytes

pub quotes_front : (n : ℕ) (xs ys : List ℕ) → n * 12 ≤ length xs → quotes_in n (xs ++ ys) ≡ quotes_in n xs
quotes_front zero xs ys h = refl
quotes_front (suc n) xs ys h =
    let some : 12 ≤ length xs = omega arith in
    rw (take-append-le 12 xs ys some, drop-append-le 12 xs ys some, quotes_front n (drop 12 xs) ys (simp length-drop (omega arith))) refl

pub quotes_both : (n m : ℕ) (xs : List ℕ) → quotes_in (n + m) xs ≡ quotes_in n xs ++ quotes_in m (drop (n * 12) xs)
quotes_both zero m xs = let z : zero + m ≡ m = omega arith in rw z refl
quotes_both (suc n) m xs =
    let s : suc n + m ≡ suc (n + m) = omega arith in
    let d : suc n * 12 ≡ 12 + n * 12 = omega arith in
    rw (s, quotes_both n m (drop 12 xs), d, drop-drop) refl

-- so many quotes need no byte behind them
quotes_taken : (n : ℕ) (xs : List ℕ) → n * 12 ≤ length xs → quotes_in n (take (n * 12) xs) ≡ quotes_in n xs
quotes_taken n xs h = sym (ap (quotes_in n) (sym (take-append-drop (n * 12) xs)) ∙ quotes_front n _ _ (rw (length-take-le (n * 12) xs h) (omega arith)))

quotes_before : (n at : ℕ) (bs xs : List ℕ) → n * 12 ≤ at → at ≤ length xs → quotes_in n (overwritten at bs xs) ≡ quotes_in n xs
quotes_before n at bs xs h room =
    let long : n * 12 ≤ length (take at xs) = rw (length-take-le at xs room) h in
    quotes_front n (take at xs) _ long ∙ sym (quotes_front n (take at xs) (drop at xs) long) ∙ ap (quotes_in n) (take-append-drop at xs)

-- ---- a quote's own bytes

series_back : (n : ℕ) → n < 2 ^ 32 → number_from (bytes_of 4 n) ≡ n
series_back n h = omega arith

bits_back : (n : ℕ) → n < 2 ^ 64 → number_from (bytes_of 8 n) ≡ n
bits_back n h = omega arith

quote_back : (q : LiveQuote) (rest : List ℕ) → IsQuote q → quotes_in 1 (quote_bytes q ++ rest) ≡ q ∷ []
quote_back q rest given = rw (series_back q.series given.0, bits_back (to_bits binary64 q.volatility) (to_bits-lt binary64 q.volatility given.1), of_bits-to_bits binary64 q.volatility given.1) refl

-- ---- the count

module _ (board : List ℕ) (n : ℕ) (inside : length board ≡ 3076) (few : n ≤ 256) where
  pub count_back : live_count (overwritten 3072 (bytes_of 4 n) board) ≡ n
  count_back =
      let long : length (take 3072 board) ≡ 3072 = length-take-le 3072 board (omega arith) in
      let e : number_at 3072 4 (overwritten 3072 (bytes_of 4 n) board) ≡ n = rw (drop_at (take 3072 board) (bytes_of 4 n ++ drop (3072 + 4) board) 3072 long) (series_back n (omega arith)) in
      elim (cases_lt n 256) [
        | inl below ↦ rw (e, lt-ltb n 256 below) refl
        | inr full ↦ rw (e, le-ltb n 256 full) (omega arith)
      ]

  pub counted : live_quotes (overwritten 3072 (bytes_of 4 n) board) ≡ quotes_in n board
  unfolding live_quotes
  counted = rw count_back (quotes_before n 3072 (bytes_of 4 n) board (omega arith) (omega arith))

-- ---- an arrival

module _ (q : LiveQuote) (board : List ℕ) (given : IsQuote q) (inside : length board ≡ 3076) (free : live_count board < 256) where
  arrived : quotes_in (live_count board + 1) (overwritten (live_count board * 12) (quote_bytes q) board) ≡ live_quotes board ++ (q ∷ [])
  unfolding live_quotes
  arrived =
      let at : ℕ = live_count board * 12 in
      let room : at ≤ length board = omega arith in
      let rest : List ℕ = drop (at + length (quote_bytes q)) board in
      rw (quotes_both (live_count board) 1 (overwritten at (quote_bytes q) board), quotes_before (live_count board) at (quote_bytes q) board (omega arith) room, drop_at (take at board) (quote_bytes q ++ rest) at (length-take-le at board room), quote_back q rest given) refl

  pub length_with : length (with_quote q board) ≡ 3076
  unfolding with_quote
  length_with =
      let long = length_overwritten (live_count board * 12) (quote_bytes q) board (omega arith) ∙ inside in
      length_overwritten 3072 (bytes_of 4 (live_count board + 1)) (overwritten (live_count board * 12) (quote_bytes q) board) (omega (arith, long)) ∙ long

  pub live_with : live_quotes (with_quote q board) ≡ live_quotes board ++ (q ∷ [])
  unfolding with_quote
  live_with = counted (overwritten (live_count board * 12) (quote_bytes q) board) (live_count board + 1) (length_overwritten (live_count board * 12) (quote_bytes q) board (omega arith) ∙ inside) (omega arith) ∙ arrived

-- ---- a leaving

-- the quotes but for the one at a place
abbrev pub without : ℕ → List LiveQuote → List LiveQuote
without k qs = take k qs ++ drop (suc k) qs

module _ (k m : ℕ) (bytes : List ℕ) where
  quotes_around : without k (quotes_in (k + suc m) bytes) ≡ quotes_in k bytes ++ quotes_in m (drop (suc k * 12) bytes)
  quotes_around =
      let front = length_quotes k bytes in
      let back : List LiveQuote = quotes_in (suc m) (drop (k * 12) bytes) in
      let e : drop (suc k) (quotes_in k bytes ++ back) ≡ quotes_in m (drop (suc k * 12) bytes) =
      let s : suc k ≡ k + 1 = omega arith in
      let t : suc k * 12 ≡ k * 12 + 12 = omega arith in
      rw (s, ← drop-drop 1 k (quotes_in k bytes ++ back), drop_at (quotes_in k bytes) back k front) (rw (← s, t, ← drop-drop 12 (k * 12) bytes) refl)
      in rw (quotes_both k (suc m) bytes, take_at (quotes_in k bytes) back k front, e) refl

  module _ (room : (k + suc m) * 12 ≤ length bytes) where
    abbrev end : ℕ
    end = (k + suc m) * 12

    abbrev behind : List ℕ
    behind = part (k * 12 + 12) (end - (k * 12 + 12)) bytes

    behind_is : behind ≡ take (m * 12) (drop (suc k * 12) bytes)
    behind_is =
        let s : k * 12 + 12 ≡ suc k * 12 = omega arith in
        let t : end - suc k * 12 ≡ m * 12 = omega arith in
        rw (s, t) refl

    behind_long : m * 12 ≤ length (drop (suc k * 12) bytes)
    behind_long = simp length-drop (omega arith)

    quotes_moved : quotes_in (k + m) (moved_down (k * 12) end bytes) ≡ without k (quotes_in (k + suc m) bytes)
    quotes_moved =
        let at : ℕ = k * 12 in
        let room_at : at ≤ length bytes = omega arith in
        let rest : List ℕ = drop (at + length (behind ++ replicate 12 0)) bytes in
        let long : m * 12 ≤ length behind = rw (behind_is, length-take-le (m * 12) (drop (suc k * 12) bytes) behind_long) (omega arith) in
        let later : quotes_in m ((behind ++ replicate 12 0) ++ rest) ≡ quotes_in m (drop (suc k * 12) bytes) =
        rw (append_assoc behind (replicate 12 0) rest, quotes_front m behind (replicate 12 0 ++ rest) long, behind_is) (quotes_taken m (drop (suc k * 12) bytes) behind_long)
        in
        rw (quotes_both k m (moved_down at end bytes), quotes_before k at (behind ++ replicate 12 0) bytes (omega arith) room_at, drop_at (take at bytes) ((behind ++ replicate 12 0) ++ rest) at (length-take-le at bytes room_at), later, quotes_around) refl

    moved_long : length (moved_down (k * 12) end bytes) ≡ length bytes
    moved_long =
        let some : length (behind ++ replicate 12 0) ≡ m * 12 + 12 = rw (length-append, behind_is, length-take-le (m * 12) (drop (suc k * 12) bytes) behind_long, length-replicate) refl in
        length_overwritten (k * 12) (behind ++ replicate 12 0) bytes (rw some (omega arith))

-- The quote at place k goes from a board with n live ones: what stands then, in front of the count.
module _ (k m : ℕ) (board : List ℕ) (inside : length board ≡ 3076) (few : k + suc m ≤ 256) where
  abbrev counted_less : ℕ → List ℕ
  counted_less n = overwritten 3072 (bytes_of 4 (n - 1)) (moved_down (k * 12) (n * 12) board)

  gone_long : length (moved_down (k * 12) ((k + suc m) * 12) board) ≡ 3076
  gone_long = moved_long k m board (omega arith) ∙ inside

  gone : (n : ℕ) → n ≡ k + suc m → (live_quotes (counted_less n) ≡ without k (quotes_in n board)) × (length (counted_less n) ≡ 3076)
  gone n e =
      let less : k + suc m - 1 ≡ k + m = omega arith in
      let moved : List ℕ = moved_down (k * 12) ((k + suc m) * 12) board in
      rw (e, less) (counted moved (k + m) gone_long (omega arith) ∙ quotes_moved k m board (omega arith), length_overwritten 3072 (bytes_of 4 (k + m)) moved (omega (arith, gone_long)) ∙ gone_long)

module _ (k : ℕ) (board : List ℕ) (inside : length board ≡ 3076) (below : k < live_count board) (few : live_count board ≤ 256) where
  gone_from : (live_quotes (without_place k board) ≡ without k (live_quotes board)) × (length (without_place k board) ≡ 3076)
  unfolding without_place live_quotes
  gone_from = gone k (live_count board - suc k) board inside (omega arith) (live_count board) (omega arith)

  pub live_without : live_quotes (without_place k board) ≡ without k (live_quotes board)
  live_without = gone_from.0

  pub length_without : length (without_place k board) ≡ 3076
  length_without = gone_from.1
