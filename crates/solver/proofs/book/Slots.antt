-- A record's slot of the book: where the record exists, it is one of the book's chunks of 64 bytes, and what read and recheck answer there.
use mathlib.Core.Path.{◌≡◌, refl, sym}
use mathlib.Core.Bool.{Bool, true, false, true≢false, cond, ◌&&◌}
use mathlib.Core.List.{List, []}
use Prim.Native.Nat.{ℕ, ◌+◌, ◌*◌, ◌≤◌, ◌<◌}
use native.Mathlib.Omega.{arith}
use borrow.Author.Tests.{ltb-true, leb-true}
use lib.Dec.{ltb, leb}
use lib.ListN.{length, get_or}
use Rattle.std.specs.Prelude.{Result, Ok, Err}
use Rattle.std.specs.Simd.{first_chunks}
use Rattle.solver.specs.declared.refusal.Refusal.{Refusal}
use Rattle.solver.specs.declared.refusal.Refusal.TheVariants.{NoSuchRecord}
use Rattle.solver.specs.Book.{slots, record_exists, record_at, read_of}
use Rattle.solver.proofs.Laws.Parts.{chunk}

both : (a b : Bool) → (a && b) ≡ true → (a ≡ true) × (b ≡ true)
both true b e = (refl, e)
both false b e = absurd (true≢false (sym e))

module _ (book : List ℕ) (used k : ℕ) where
  below : record_exists book used k ≡ true → k < slots book
  below e =
      let h = both (ltb k used) (leb used (slots book)) e in
      omega (arith, ltb-true k used h.0, leb-true used (slots book) h.1)

  pub inside : record_exists book used k ≡ true → k * 64 + 64 ≤ length book
  inside e = omega (arith, below e)

  pub read_existing : record_exists book used k ≡ true → Ok (get_or (first_chunks 64 (slots book) book) k []) ≡ read_of book used k
  unfolding read_of
  read_existing e = rw (e, chunk 64 (slots book) k book (below e))

  -- what is read says that the record exists
  pub exists : (part : List ℕ) → Ok part ≡ read_of book used k → (record_exists book used k ≡ true) × (part ≡ record_at k book)
  unfolding read_of
  exists part e = go (record_exists book used k) e
    where
      go : (b : Bool) → ◌≡◌ {A = Result (List ℕ) Refusal} (Ok part) (cond b (Ok (record_at k book)) (Err NoSuchRecord)) → (b ≡ true) × (part ≡ record_at k book)
      go true h = (refl, cc)
      go false h = cc

  pub missing : (r : Refusal) → Err r ≡ read_of book used k → (record_exists book used k ≡ false) × (r ≡ NoSuchRecord)
  unfolding read_of
  missing r e = go (record_exists book used k) e
    where
      go : (b : Bool) → ◌≡◌ {A = Result (List ℕ) Refusal} (Err r) (cond b (Ok (record_at k book)) (Err NoSuchRecord)) → (b ≡ false) × (r ≡ NoSuchRecord)
      go true h = cc
      go false h = (refl, cc)
