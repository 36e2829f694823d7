-- Quotes that move down by a place, one after another. Theorems.
use mathlib.Core.Path.{◌≡◌, refl, sym, ◌∙◌}
use mathlib.Core.List.{List, [], ◌++◌}
use Prim.Native.Nat.{ℕ, suc, ◌+◌, ◌-◌, ◌*◌, ◌≤◌, ◌<◌}
use native.Mathlib.Omega.{arith}
use lib.ListN.{length, drop, get_or, replicate, length-drop}
use lib.Seq.{length-take-le, take-add, drop-drop}
use Rattle.std.specs.Simd.{first_chunks}
use Rattle.solver.specs.LittleEndian.{part, overwritten}
use Rattle.solver.proofs.Laws.Overwritten.{overwritten_twice, put_none, drop_overwritten}
use Rattle.solver.proofs.Laws.Parts.{chunk}
use Rattle.market.specs.Board.{moved_down}

-- the first i quotes behind place k stand a place further down
pub record Moved (k i : ℕ) (old board : List ℕ) : Type 0 where
  pub long : length old ≡ 3076
  pub inside : suc k + i ≤ 256
  pub whole : length board ≡ 3076
  pub now : board ≡ overwritten (k * 12) (part (suc k * 12) (i * 12) old) old

-- two parts, one behind the other, are one
parts : (at m n : ℕ) (xs : List ℕ) → part at m xs ++ part (at + m) n xs ≡ part at (m + n) xs
parts at m n xs = sym (take-add m n (drop at xs) ∙ rw drop-drop refl)

pub none_moved : (k : ℕ) (old : List ℕ) → length old ≡ 3076 → suc k ≤ 256 → Moved k 0 old old
none_moved k old long inside = record { long = long; inside = omega arith; whole = long; now = (put_none (k * 12) old).1 }

module _ (k i : ℕ) (old board : List ℕ) (moved : Moved k i old board) where
  abbrev front : List ℕ
  front = part (suc k * 12) (i * 12) old

  front_long : length front ≡ i * 12
  front_long = length-take-le (i * 12) (drop (suc k * 12) old) (rw length-drop (omega (arith, moved.long, moved.inside)))

  -- what is put behind them
  put_behind : (bs new : List ℕ) → new ≡ overwritten ((k + i) * 12) bs board → new ≡ overwritten (k * 12) (front ++ bs) old
  put_behind bs new e =
      let at : (k + i) * 12 ≡ k * 12 + length front = rw front_long (omega arith) in
      e ∙ rw (at, moved.now) (overwritten_twice (k * 12) front bs old (omega (arith, moved.long, moved.inside)))

  -- the next quote stands where it stood
  next_quote : suc k + i < 256 → get_or (first_chunks 12 256 board) (suc k + i) [] ≡ part (suc k * 12 + i * 12) 12 old
  next_quote h =
      let at : 12 * (suc k + i) ≡ suc k * 12 + i * 12 = omega arith in
      let same = drop_overwritten (k * 12) front old (suc k * 12 + i * 12) (rw front_long (omega arith)) (omega (arith, moved.long)) in
      chunk 12 256 (suc k + i) board h ∙ rw (at, moved.now, same) refl

  pub one_moved : (next : ℕ) (new : List ℕ) → next ≡ suc k + i → next < 256 → length new ≡ 3076 → new ≡ overwritten ((next - 1) * 12) (get_or (first_chunks 12 256 board) next []) board → Moved k (suc i) old new
  one_moved next new at h whole e =
      let there : suc k + i < 256 = omega arith in
      let before : suc k + i - 1 ≡ k + i = omega arith in
      let more : i * 12 + 12 ≡ suc i * 12 = omega arith in
      record {
        long = moved.long;
        inside = omega arith;
        whole = whole;
        now = put_behind (part (suc k * 12 + i * 12) 12 old) new (e ∙ rw (at, before, next_quote there) refl) ∙ rw (parts, more) refl;
      }

  pub all_moved : (live : ℕ) (new : List ℕ) → live ≡ suc k + i → new ≡ overwritten ((live - 1) * 12) (replicate 12 0) board → new ≡ moved_down (k * 12) (live * 12) old
  all_moved live new end e =
      let before : suc k + i - 1 ≡ k + i = omega arith in
      let at : suc k * 12 ≡ k * 12 + 12 = omega arith in
      let n : i * 12 ≡ (suc k + i) * 12 - (k * 12 + 12) = omega arith in
      put_behind (replicate 12 0) new (e ∙ rw (end, before) refl) ∙ rw (end, ← n, ← at) refl
