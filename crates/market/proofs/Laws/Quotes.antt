-- What stands on a board: how many quotes are live, and that they are its chunks of 12 bytes. Theorems.
use mathlib.Core.Path.{◌≡◌, refl, ap}
use mathlib.Core.Bool.{Bool, true, false, cond}
use mathlib.Core.Logic.{inl, inr}
use mathlib.Core.List.{List, [], ◌∷◌, map}
use Prim.Native.Nat.{ℕ, zero, suc, ◌+◌, ◌≤◌, ◌<◌}
use native.Mathlib.Omega.{arith}
use borrow.Author.Tests.{eq-eqb, ne_eqb, lt-ltb, le-ltb, ltb-true}
use lib.Dec.{ltb}
use lib.Ieee.{is_nan}
use lib.ListN.{length, take, drop, get_or, length-map, drop_of_length-le}
use Rattle.std.specs.Prelude.{Result, Ok, Err}
use Rattle.std.specs.Simd.{first_chunks}
use Rattle.std.proofs.lemmas.Bool.{cases_lt}
use Rattle.std.proofs.lemmas.List.{drop_more}
use Rattle.solver.specs.LittleEndian.{number_at}
use Rattle.market.specs.declared.board.LiveQuote.{LiveQuote}
use Rattle.market.specs.declared.refusal.Refusal.{Refusal}
use Rattle.market.specs.declared.refusal.Refusal.TheVariants.{Volatility, SeriesLive, BoardFull}
use Rattle.market.specs.Board.{quote_in, quotes_in, live_count, live_quotes, place_of, is_live, arrival_check, shown_of, highest_from}

-- ---- how many

pub length_quotes : (n : ℕ) (bytes : List ℕ) → length (quotes_in n bytes) ≡ n
length_quotes zero bytes = refl
length_quotes (suc n) bytes = rw (length_quotes n (drop 12 bytes)) refl

pub length_live : (board : List ℕ) → length (live_quotes board) ≡ live_count board
unfolding live_quotes
length_live board = length_quotes (live_count board) board

-- ---- the code reads them as chunks

pub of_chunks : (n m : ℕ) (bytes : List ℕ) → n ≤ m → map quote_in (take n (first_chunks 12 m bytes)) ≡ quotes_in n bytes
of_chunks zero m bytes h = refl
of_chunks (suc n) zero bytes h = absurd (omega arith)
of_chunks (suc n) (suc m) bytes h = rw (of_chunks n m (drop 12 bytes) (omega arith)) refl

pub length_same : (chunks : List (List ℕ)) (qs : List LiveQuote) → map quote_in chunks ≡ qs → length qs ≡ length chunks
length_same chunks qs e = rw (← e) (length-map chunks quote_in)

-- ---- one more of the chunks

module _ (chunks : List (List ℕ)) (i : ℕ) (inside : i < length chunks) where
  next : map quote_in (drop i chunks) ≡ quote_in (get_or chunks i []) ∷ map quote_in (drop (i + 1) chunks)
  next = ap (map quote_in) (drop_more chunks i [] inside)

  pub place_here : (series : ℕ) → number_at 0 4 (get_or chunks i []) ≡ series → place_of series (map quote_in (drop i chunks)) ≡ 0
  place_here series e = rw (next, eq-eqb _ _ e) refl

  pub place_further : (series : ℕ) → (number_at 0 4 (get_or chunks i []) ≡ series → ⊥) → place_of series (map quote_in (drop i chunks)) ≡ suc (place_of series (map quote_in (drop (i + 1) chunks)))
  place_further series e = rw (next, ne_eqb _ _ e) refl

  pub highest_further : (shown : LiveQuote) → highest_from shown (map quote_in (drop i chunks)) ≡ highest_from (shown_of shown (quote_in (get_or chunks i []))) (map quote_in (drop (i + 1) chunks))
  highest_further shown = rw next refl

pub none_left : (chunks : List (List ℕ)) (i : ℕ) → length chunks ≤ i → map quote_in (drop i chunks) ≡ []
none_left chunks i h = rw (drop_of_length-le chunks h) refl

-- ---- what is accepted: a volatility that is no NaN, of a series that is not live, where a place is free
pub accepted : (q : LiveQuote) (live : List LiveQuote) (u : Unit) → arrival_check live q ≡ Ok u → (is_nan q.volatility ≡ false) × (is_live q.series live ≡ false) × (length live < 256)
unfolding arrival_check
accepted q live u e = go (is_nan q.volatility) (is_live q.series live) (ltb (length live) 256) refl refl refl e
  where
    go : (n l f : Bool) → is_nan q.volatility ≡ n → is_live q.series live ≡ l → ltb (length live) 256 ≡ f
        → ◌≡◌ {A = Result Unit Refusal} (cond n (Err Volatility) (cond l (Err SeriesLive) (cond f (Ok tt) (Err BoardFull)))) (Ok u)
        → (is_nan q.volatility ≡ false) × (is_live q.series live ≡ false) × (length live < 256)
    go true l f h i j e = cc
    go false true f h i j e = cc
    go false false true h i j e = (h, i, ltb-true _ _ j)
    go false false false h i j e = cc

pub room : (q : LiveQuote) (board : List ℕ) (u : Unit) → arrival_check (live_quotes board) q ≡ Ok u → live_count board < 256
room q board u e = rw (length_live board) at (accepted q (live_quotes board) u e).2

pub at_most : (board : List ℕ) → live_count board ≤ 256
at_most board = elim (cases_lt (number_at 3072 4 board) 256) [
  | inl below ↦ rw (lt-ltb _ _ below) (omega arith)
  | inr full ↦ rw (le-ltb _ _ full) (omega arith)
]
