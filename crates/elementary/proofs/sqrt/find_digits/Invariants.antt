-- `find_digits` meets its contract: the loop keeps the promise of each turn. Assumes nothing.
use Rattle.std.proofs.Common.{◌≡◌, ℕ, ◌<◌, ◌≤◌, ◌+◌, ◌/◌, ◌^◌, length}
use Rattle.elementary.specs.Sqrt.{first_digits}
use Rattle.elementary.specs.Promises.{DigitsFound}
use Rattle.elementary.specs.Inside.Sqrt.{significand_at, digits_at}
use Rattle.elementary.proofs.sqrt.find_digits.Given as goal

-- those before i stand at the significand
abbrev pub invariant-loop-i : goal.invariant-loop-i
invariant-loop-i g l = (length l.found ≡ length l.aligned) × ((j : ℕ) → j < l.i → digits_at j l.found ≡ record { doubled = 0; left = significand_at j l.aligned })

-- in a turn those before i have it behind them
abbrev pub invariant-loop-i-2 : goal.invariant-loop-i-2
invariant-loop-i-2 g l =
    (length l.found ≡ length l.fn.aligned)
    × ((j : ℕ) → j < l.i → DigitsFound (significand_at j l.fn.aligned) (l.counter + 1) (first_digits (l.counter + 1) (significand_at j l.fn.aligned)) (digits_at j l.found))
    × ((j : ℕ) → l.i ≤ j → j < length l.fn.aligned → DigitsFound (significand_at j l.fn.aligned) l.counter (first_digits l.counter (significand_at j l.fn.aligned)) (digits_at j l.found))

-- after each turn the promise
abbrev pub invariant-loop : goal.invariant-loop
invariant-loop g l =
    (l.place ≡ 2 ^ 52 / 2 ^ l.counter)
    × (length l.found ≡ length l.fn.aligned)
    × ((j : ℕ) → j < length l.fn.aligned → DigitsFound (significand_at j l.fn.aligned) l.counter (first_digits l.counter (significand_at j l.fn.aligned)) (digits_at j l.found))
