-- `book::book_record` meets its contract: five floats, two numbers of four bytes and three bytes, written over 64 zeros.
use mathlib.Core.Path.{◌≡◌, refl, ◌∙◌, ap}
use mathlib.Core.List.{List}
use Prim.Native.Nat.{ℕ}
use borrow.Rule.Slice.PartMut.{put_mid}
use lib.IntN.{ℤ}
use lib.ListN.{set, replicate}
use mir.Syntax.{w32}
use mir.Val.{of_z, to_z}
use mir.ValLaws.{to_z-of_z}
use Rattle.solver.specs.declared.quote.Quote.{Quote}
use Rattle.solver.specs.declared.answers.ImpliedVolatility.{ImpliedVolatility}
use Rattle.prices.specs.Inputs.{kind_byte}
use Rattle.solver.specs.LittleEndian.{bytes_of, float_bytes, overwritten}
use Rattle.solver.specs.Answers.{branch_number, ending_number}
use Rattle.solver.specs.Book.{limit_bits, book_record_bytes}
use Rattle.solver.proofs.Laws.Bytes.{limit_bits_cast, four_bytes}
use Rattle.solver.proofs.book.book_record.Goals as goal

module _ (q : Quote) (limit : ℤ) (a : ImpliedVolatility) (l₁ l₂ l₃ l₄ l₅ ls ns : List ℕ) (kind branch ending : ℕ) where
  written : l₁ ≡ overwritten 0 (float_bytes q.price) (replicate 64 0) → l₂ ≡ overwritten 8 (float_bytes q.forward) l₁ → l₃ ≡ overwritten 16 (float_bytes q.strike) l₂
      → l₄ ≡ overwritten 24 (float_bytes q.expiry) l₃ → l₅ ≡ overwritten 32 (float_bytes a.volatility) l₄ → ls ≡ bytes_of 4 (limit_bits limit) → ns ≡ bytes_of 4 a.steps
      → kind ≡ kind_byte q.option_type → branch ≡ branch_number a.branch → ending ≡ ending_number a.ending
      → set (set (set (put_mid 44 4 (put_mid 40 4 l₅ ls) ns) 48 kind) 49 branch) 50 ending ≡ book_record_bytes q limit a
  unfolding book_record_bytes
  written e₁ e₂ e₃ e₄ e₅ e₆ e₇ e₈ e₉ e₁₀ = rw (e₁₀, e₉, e₈, e₇, e₆, e₅, e₄, e₃, e₂, e₁) refl

pub returns : goal.returns
returns c =
    let a = c.args in
    let z = to_z-of_z w32 a.limit c.ranges.limit in
    let limit = c.copy_from_slice.ensures.after ∙ c.to_le_bytes.ensures ∙ four_bytes _ ∙ ap (bytes_of 4) (limit_bits_cast (to_z w32 (of_z w32 a.limit))) ∙ ap (λ n. bytes_of 4 (limit_bits n)) z in
    let steps = c.copy_from_slice-2.ensures.after ∙ c.to_le_bytes-2.ensures ∙ four_bytes a.a.steps in
    written a.quote a.limit a.a _ _ _ _ _ _ _ _ _ _ c.put_float.ensures c.put_float-2.ensures c.put_float-3.ensures c.put_float-4.ensures c.put_float-5.ensures limit steps c.from.ensures c.number.ensures c.number-2.ensures
