-- `book::file` meets its contract: a case of the definition for each way out.
use mathlib.Core.Path.{◌≡◌, refl, sym, ◌∙◌}
use mathlib.Core.List.{List}
use Prim.Native.Nat.{ℕ, ◌/◌, ◌≤◌, ◌<◌}
use native.Mathlib.Omega.{arith}
use borrow.Author.Tests.{lt-ltb, le-ltb, le-leb, lt-leb}
use lib.IntN.{ℤ}
use lib.ListN.{length}
use mir.Syntax.{w32}
use mir.ValLaws.{to_z-of_z}
use Rattle.std.proofs.Common.{rules}
use Rattle.std.specs.Prelude.{Ok, Err}
use Rattle.elementary.specs.declared.rule_set.RuleSet.{RuleSet}
use Rattle.solver.specs.declared.quote.Quote.{Quote}
use Rattle.solver.specs.declared.refusal.Refusal.{Refusal}
use Rattle.solver.specs.declared.refusal.Refusal.TheVariants.{BookFull, NoSuchRecord}
use Rattle.solver.specs.Answers.{at_once, Solution, Filing}
use Rattle.solver.specs.Solve.{input_check, solve_of, steps_of}
use Rattle.solver.specs.Book.{file_answer, file_of}
use Rattle.solver.proofs.book.file.Goals as goal

module _ (set : RuleSet) (q : Quote) (limit : ℤ) (book : List ℕ) (used : ℕ) where
  -- the answer, and the book that is left
  abbrev Files : Filing → List ℕ → Type 0
  Files f b = (f ≡ (file_of q limit book used set).answer) × (b ≡ (file_of q limit book used set).book)

  abbrev answer : Solution
  answer = (solve_of set q (steps_of limit)).answer

  no_input : (r : Refusal) → input_check q ≡ Err r → Files (Err (at_once r)) book
  unfolding file_of
  no_input r e = rw e (refl, refl)

  module _ (e : input_check q ≡ Ok tt) where
    past : length book / 64 < used → Files (Err (at_once NoSuchRecord)) book
    unfolding file_of
    past h = rw (e, lt-leb used (length book / 64) h) (refl, refl)

    full : used ≤ length book / 64 → used ≡ length book / 64 → Files (Err (at_once BookFull)) book
    unfolding file_of
    full h g = rw (e, le-leb used (length book / 64) h, le-ltb used (length book / 64) (omega arith)) (refl, refl)

    solved : used < length book / 64 → (f : Filing) (b : List ℕ)
        → (f ≡ (file_answer q limit book used answer).answer) × (b ≡ (file_answer q limit book used answer).book) → Files f b
    unfolding file_of
    solved g f b h = rw (e, le-leb used (length book / 64) (omega arith), lt-ltb used (length book / 64) g) h

pub returns-in_err-check_input : goal.returns-in_err-check_input
returns-in_err-check_input c =
    let a = c.args in
    let e : c.check_input.result ≡ Err c.in_err-check_input.field-0.0 = search rules in
    let r : c.from_residual.result ≡ Err (at_once c.in_err-check_input.field-0.0) = search rules in
    let t = no_input a.set a.quote a.limit a.book.now a.used _ (sym c.check_input.ensures ∙ e) in
    record { value = r ∙ t.0; book_after = t.1 }

pub returns-then-used-slots : goal.returns-then-used-slots
returns-then-used-slots c =
    let a = c.args in
    let p : c.check_input.result ≡ Ok c.in_ok-check_input.field-0 = search rules in
    let t = past a.set a.quote a.limit a.book.now a.used (sym c.check_input.ensures ∙ p) c.if-used-slots.true in
    record { value = rw c.from.ensures t.0; book_after = t.1 }

pub returns-then-used-slots-2 : goal.returns-then-used-slots-2
returns-then-used-slots-2 c =
    let a = c.args in
    let p : c.check_input.result ≡ Ok c.in_ok-check_input.field-0 = search rules in
    let t = full a.set a.quote a.limit a.book.now a.used (sym c.check_input.ensures ∙ p) c.if-used-slots.false c.if-used-slots-2.true in
    record { value = rw c.from-then-used-slots-2.ensures t.0; book_after = t.1 }

pub returns : goal.returns
returns c =
    let a = c.args in
    let z = to_z-of_z w32 a.limit c.ranges.limit in
    let p : c.check_input.result ≡ Ok c.in_ok-check_input.field-0 = search rules in
    let e = c.file_in_slot.ensures in
    let t = solved a.set a.quote a.limit a.book.now a.used (sym c.check_input.ensures ∙ p) (omega arith) _ _ (rw z at e.value, rw z at e.book_after) in
    record { value = t.0; book_after = t.1 }
