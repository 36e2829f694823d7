-- How long the parts of a line are: a line has at most 101 bytes, and so fits where 128 are left. Theorems.
use mathlib.Core.Path.{◌≡◌, refl}
use mathlib.Core.Bool.{Bool, true, false, cond}
use mathlib.Core.List.{List}
use Prim.Native.Nat.{ℕ, zero, suc, ◌/◌, ◌≤◌}
use native.Mathlib.Omega.{arith}
use lib.Dec.{ltb}
use lib.Ieee.{binary64, to_bits}
use lib.ListN.{length, length-append}
use borrow.Author.Tests.{le-ltb}
use Rattle.std.specs.Prelude.{Ok, Err}
use Rattle.solver.specs.Answers.{number, branch_number, ending_number, Solution}
use Rattle.elementary.specs.declared.rule_set.RuleSet.{RuleSet}
use Rattle.solver.specs.LittleEndian.{overwritten}
use Rattle.solver.specs.Listing.{decimal_by, hex_by, answer_bytes, answer_at, line_of, line_in}

short : (b : Bool) (x y : List ℕ) (m : ℕ) → length x ≤ m → length y ≤ m → length (cond b x y) ≤ m
short true x y m p q = p
short false x y m p q = q

pub decimal_length : (k n : ℕ) → length (decimal_by k n) ≤ k
unfolding decimal_by
decimal_length zero n = omega arith
decimal_length (suc k) n = short (ltb n 10) _ _ (suc k) (omega arith) (simp length-append (omega (arith, decimal_length k (n / 10))))

pub hex_length : (k n : ℕ) → length (hex_by k n) ≡ k
unfolding hex_by
hex_length zero n = refl
hex_length (suc k) n = simp length-append (omega (arith, hex_length k (n / 16)))

pub answer_length : (answer : Solution) → length (answer_bytes answer) ≤ 80
answer_length (Ok a) =
    simp length-append (omega (arith, hex_length 16 (to_bits binary64 a.volatility), decimal_length 20 a.steps, decimal_length 20 (branch_number a.branch), decimal_length 20 (ending_number a.ending)))
answer_length (Err failure) = omega (arith, decimal_length 20 (number failure.refusal))

module _ (set : RuleSet) (i : ℕ) (bytes : List ℕ) where
  pub line_length : length (line_of set i bytes) ≤ 101
  unfolding line_of
  line_length = simp length-append (omega (arith, decimal_length 20 i, answer_length (answer_at set bytes)))

  pub line_in_lem : (out : List ℕ) → 128 ≤ length out → line_in set i bytes out ≡ record { count = length (line_of set i bytes); bytes = overwritten 0 (line_of set i bytes) out }
  unfolding line_in
  line_in_lem out room = rw (le-ltb (length out) 128 room)
