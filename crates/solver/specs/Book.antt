-- The book: records of 64 bytes, little-endian, no header. What file, recheck and read answer, and every byte that they leave. Definitions only.
use Rattle.std.specs.Prelude.{Bool, true, false, cond, ◌&&◌, List, [], ◌∷◌, ◌++◌, ℕ, suc, ◌+◌, ◌-◌, ◌*◌, ◌/◌, ◌^◌, leb, ltb, eqb, ℤ, pos, negsuc, length, get_or, replicate, Result, Ok, Err}
use Rattle.prices.specs.declared.inputs.OptionType.{OptionType}
use Rattle.prices.specs.declared.inputs.UnknownKind.{UnknownKind}
use Rattle.prices.specs.Inputs.{kind_byte, kind_of}
use Rattle.solver.specs.declared.quote.Quote.{Quote}
use Rattle.solver.specs.declared.refusal.Refusal.{Refusal}
use Rattle.solver.specs.declared.refusal.Refusal.TheVariants.{BookFull, NoSuchRecord, OutsideTheLayout, UnknownRuleSet as UnknownNumber}
use Rattle.solver.specs.declared.answers.ImpliedVolatility.{ImpliedVolatility}
use Rattle.solver.specs.declared.refusal.Failure.{Failure}
use Rattle.solver.specs.Answers.{branch_number, ending_number, at_once, Solution, Filing, Checking}
use Rattle.elementary.specs.declared.rule_set.RuleSet.{RuleSet}
use Rattle.elementary.specs.declared.rule_set.UnknownRuleSet.{UnknownRuleSet}
use Rattle.elementary.specs.RuleSets.{rule_set_of}
use Rattle.solver.specs.Solve.{by_check, input_check, solve_of, quote_of, steps_of}
use Rattle.solver.specs.LittleEndian.{bytes_of, float_bytes, part, number_at, float_at, overwritten}

-- ---- a record's bytes

-- a limit as the 32 bits of an i32
abbrev pub limit_bits : ℤ → ℕ
limit_bits (pos n) = n
limit_bits (negsuc n) = 2 ^ 32 - suc n

-- price, forward, strike, expiry, volatility, limit, steps, kind, branch, ending, and 13 zeros
unfoldable pub book_record_bytes : Quote → ℤ → ImpliedVolatility → List ℕ
book_record_bytes q limit a =
    float_bytes q.price
    ++ float_bytes q.forward
    ++ float_bytes q.strike
    ++ float_bytes q.expiry
    ++ float_bytes a.volatility
    ++ bytes_of 4 (limit_bits limit)
    ++ bytes_of 4 a.steps
    ++ (kind_byte q.option_type ∷ branch_number a.branch ∷ ending_number a.ending ∷ replicate 13 0)

-- ---- a record read

-- max(limit, 0) of a limit's 32 bits
abbrev pub steps_from : ℕ → ℕ
steps_from bits = cond (ltb bits (2 ^ 31)) bits 0

-- what is answered of a kind, or where there is none
abbrev pub by_kind : {A : Type 0} → Result OptionType UnknownKind → (OptionType → A) → A → A
by_kind (Ok kind) answer none = answer kind
by_kind (Err unknown) answer none = none

-- how many steps the limit allows that a record was filed with
abbrev pub filed_steps : List ℕ → ℕ
filed_steps r = steps_from (number_at 40 4 r)

-- every byte is 0
abbrev pub all_zero : List ℕ → Bool
all_zero [] = true
all_zero (b ∷ bs) = eqb b 0 && all_zero bs

-- branch to 5, ending to 2, spare bytes zero: no 24 but for the kind
abbrev pub in_layout : List ℕ → Bool
in_layout r = leb (get_or r 49 0) 5 && leb (get_or r 50 0) 2 && all_zero (part 51 13 r)

-- the quote of a record of this kind
abbrev pub quote_in : List ℕ → OptionType → Quote
quote_in r kind = quote_of (float_at 0 r) (float_at 8 r) (float_at 16 r) (float_at 24 r) kind

-- the quote that a record was filed for, or 24; byte 48 is its kind
unfoldable pub filed_quote : List ℕ → Result Quote Refusal
filed_quote r = by_kind (kind_of (get_or r 48 0)) (λ kind. cond (in_layout r) (Ok (quote_in r kind)) (Err OutsideTheLayout)) (Err OutsideTheLayout)

-- what is answered of that quote; a refusal passes up
abbrev pub with_quote : {A : Type 0} → Result Quote Refusal → (Quote → Result A Failure) → Result A Failure
with_quote (Ok q) answer = answer q
with_quote (Err refusal) answer = Err (at_once refusal)

-- the answer of a record's own input and limit: 24, then solve's own numbers
unfoldable pub solve_record : RuleSet → List ℕ → Solution
solve_record set r = with_quote (filed_quote r) (λ q. (solve_of set q (filed_steps r)).answer)

-- byte for byte
abbrev pub same_bytes : List ℕ → List ℕ → Bool
same_bytes [] [] = true
same_bytes [] (b ∷ bs) = false
same_bytes (a ∷ as') [] = false
same_bytes (a ∷ as') (b ∷ bs) = eqb a b && same_bytes as' bs

-- the record's volatility, steps, branch and ending are those of this answer: bytes 32..39, 44..47, 49 and 50
abbrev pub agrees : List ℕ → ImpliedVolatility → Bool
agrees r a = same_bytes (part 32 8 r) (float_bytes a.volatility) && same_bytes (part 44 4 r) (bytes_of 4 a.steps) && eqb (get_or r 49 0) (branch_number a.branch) && eqb (get_or r 50 0) (ending_number a.ending)

-- what recheck says of an answer
abbrev pub checking_of : List ℕ → Solution → Checking
checking_of r (Ok a) = Ok (agrees r a)
checking_of r (Err failure) = Err failure

-- what is answered under a rule set, or 32
abbrev pub with_rules : {A : Type 0} → Result RuleSet UnknownRuleSet → (RuleSet → Result A Failure) → Result A Failure
with_rules (Ok set) answer = answer set
with_rules (Err unknown) answer = Err (at_once UnknownNumber)

-- what recheck says of a record under the rule set of a number: 24, 32, 1 to 4, then 6 or 7
unfoldable pub check_record : ℕ → List ℕ → Checking
check_record number r = with_quote (filed_quote r) (λ q. with_rules (rule_set_of number) (λ set. checking_of r (solve_of set q (filed_steps r)).answer))

-- ---- the book

-- the whole slots of a book; a part slot at its end is none
abbrev pub slots : List ℕ → ℕ
slots book = length book / 64

-- not 23: the record number is below the used count, and that count not above the whole slots
abbrev pub record_exists : List ℕ → ℕ → ℕ → Bool
record_exists book used k = ltb k used && leb used (slots book)

-- record k's 64 bytes
abbrev pub record_at : ℕ → List ℕ → List ℕ
record_at k book = part (64 * k) 64 book

-- record k, of a book with so many used, or 23
unfoldable pub read_of : List ℕ → ℕ → ℕ → Result (List ℕ) Refusal
read_of book used k = cond (record_exists book used k) (Ok (record_at k book)) (Err NoSuchRecord)

-- recheck: 23, then what check_record says of record k
unfoldable pub recheck_of : ℕ → List ℕ → ℕ → ℕ → Checking
recheck_of number book used k = let checked = check_record number (record_at k book) in cond (record_exists book used k) checked (Err (at_once NoSuchRecord))

-- file: 1 to 4, 23, 22, then 6 or 7. The record takes slot `used`; a refusal leaves the book as it was.
pub record FileResult : Type 0 where
  pub answer : Filing
  pub book : List ℕ

module _ (q : Quote) (limit : ℤ) (book : List ℕ) (used : ℕ) where
  -- a record in slot `used` for an answer, none for a refusal
  abbrev pub file_answer : Solution → FileResult
  file_answer (Ok a) = record { answer = Ok (used + 1); book = overwritten (64 * used) (book_record_bytes q limit a) book }
  file_answer (Err failure) = record { answer = Err failure; book = book }

  -- refused before a step
  abbrev pub refuse_filing : Refusal → FileResult
  refuse_filing refusal = record { answer = Err (at_once refusal); book = book }

  -- the refusals in their order, then the record
  unfoldable pub file_of : RuleSet → FileResult
  file_of set =
      let solved = file_answer (solve_of set q (steps_of limit)).answer in
      by_check (input_check q) (cond (leb used (slots book)) (cond (ltb used (slots book)) solved (refuse_filing BookFull)) (refuse_filing NoSuchRecord)) refuse_filing
