-- A line of `relist`, byte by byte. Definitions only.
use Rattle.std.specs.Prelude.{cond, List, [], ◌∷◌, ◌++◌, ℕ, zero, suc, ◌+◌, ◌/◌, ◌%◌, ltb, length, Ok, Err}
use Rattle.std.specs.Float.{binary64}
use Rattle.std.specs.Float.Ieee.{to_bits}
use Rattle.solver.specs.declared.refusal.Refusal.TheVariants.{NoSuchRecord}
use Rattle.solver.specs.Answers.{number, branch_number, ending_number, at_once, Solution}
use Rattle.elementary.specs.declared.rule_set.RuleSet.{RuleSet}
use Rattle.solver.specs.Book.{solve_record}
use Rattle.solver.specs.LittleEndian.{overwritten}

-- a number in decimal, for one of at most k digits
unfoldable pub decimal_by : ℕ → ℕ → List ℕ
decimal_by zero n = []
decimal_by (suc k) n = let above = decimal_by k (n / 10) in cond (ltb n 10) ((48 + n) ∷ []) (above ++ ((48 + n % 10) ∷ []))

-- every count here is below 2^64, which has 20 digits
abbrev pub decimal : ℕ → List ℕ
decimal n = decimal_by 20 n

-- a hexadecimal digit: 0 to 9, A to F
abbrev pub hex_digit : ℕ → ℕ
hex_digit d = cond (ltb d 10) (48 + d) (55 + d)

-- the last k hexadecimal digits of a number
unfoldable pub hex_by : ℕ → ℕ → List ℕ
hex_by zero n = []
hex_by (suc k) n = hex_by k (n / 16) ++ (hex_digit (n % 16) ∷ [])

-- a space and a decimal count
abbrev pub space_and_count : ℕ → List ℕ
space_and_count n = 32 ∷ decimal n

-- after the record number: the volatility's bits, steps, branch and ending, or "REF" and the refusal's number
abbrev pub answer_bytes : Solution → List ℕ
answer_bytes (Ok a) = 32 ∷ hex_by 16 (to_bits binary64 a.volatility) ++ space_and_count a.steps ++ space_and_count (branch_number a.branch) ++ space_and_count (ending_number a.ending)
answer_bytes (Err failure) = 32 ∷ 82 ∷ 69 ∷ 70 ∷ space_and_count (number failure.refusal)

-- what the bytes of a record answer; a last part under 64 bytes gives 23
unfoldable pub answer_at : RuleSet → List ℕ → Solution
answer_at set bytes = let again = solve_record set bytes in cond (ltb (length bytes) 64) (Err (at_once NoSuchRecord)) again

-- the line of record i
unfoldable pub line_of : RuleSet → ℕ → List ℕ → List ℕ
line_of set i bytes = decimal i ++ answer_bytes (answer_at set bytes) ++ (10 ∷ [])

-- a line at the start of a buffer, with its length; a buffer under 128 bytes, in which a line may not fit, takes none
pub record LineResult : Type 0 where
  pub count : ℕ
  pub bytes : List ℕ

-- the buffer after it, and the line's length
unfoldable pub line_in : RuleSet → ℕ → List ℕ → List ℕ → LineResult
line_in set i bytes out =
    let line = line_of set i bytes in
    cond (ltb (length out) 128) (record { count = 0; bytes = out }) (record { count = length line; bytes = overwritten 0 line out })
