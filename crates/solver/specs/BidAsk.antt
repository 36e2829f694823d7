-- Bid and ask together, document 02's ticket 1: an option at a low and at a high price. Definitions only.
use Rattle.std.specs.Prelude.{cond, List, ℕ, ◌*◌, ltb, length, Float, Ok, Err}
use Rattle.std.specs.Float.Ieee.{lt}
use Rattle.elementary.specs.declared.rule_set.RuleSet.{RuleSet}
use Rattle.prices.specs.declared.inputs.OptionType.{OptionType}
use Rattle.solver.specs.declared.quote.Quote.{Quote}
use Rattle.solver.specs.declared.quote.QuoteRange.{QuoteRange}
use Rattle.solver.specs.declared.refusal.Refusal.TheVariants.{TrailTooShort, LowAboveHigh}
use Rattle.solver.specs.Answers.{RangeSolution}
use Rattle.solver.specs.Solve.{Check, and_then, by_check, price_check, market_check, passed_up, quote_of, solve_of, solve_with_trail}
use Rattle.solver.specs.Trail.{trail_after}

-- the arguments of the call as a range
abbrev pub range_of : Float → Float → Float → Float → Float → OptionType → QuoteRange
range_of low high forward strike expiry kind = record { low = low; high = high; forward = forward; strike = strike; expiry = expiry; option_type = kind }

-- the option at one of its prices
abbrev pub quote_at : QuoteRange → Float → Quote
quote_at r price = quote_of price r.forward r.strike r.expiry r.option_type

-- 31: low above high, compared as floats, so that −0 is not above +0 and equal is not above
abbrev pub order_check : Float → Float → Check
order_check low high = cond (lt high low) (Err LowAboveHigh) (Ok tt)

-- 1 for low, 1 for high, 31, then 2, 3, 4
abbrev pub range_check : QuoteRange → Check
range_check r = and_then (price_check r.low) (and_then (price_check r.high) (and_then (order_check r.low r.high) (passed_up (market_check r.forward r.strike r.expiry))))

-- 21: a trail of so many bytes is too short for n steps
abbrev pub trail_check : ℕ → ℕ → Check
trail_check n bytes = cond (ltb bytes (48 * n)) (Err TrailTooShort) (Ok tt)

-- then 21 for the low trail and for the high
abbrev pub range_check_with_trails : QuoteRange → ℕ → ℕ → ℕ → Check
range_check_with_trails r n low high = and_then (range_check r) (and_then (trail_check n low) (trail_check n high))

-- what a call answers, and the bytes of both trails after it
pub record RangeResult : Type 0 where
  pub answer : RangeSolution
  pub low : List ℕ
  pub high : List ℕ

-- Each end is the single call's for its price; a refusal leaves both trails as they were. n is max(limit, 0).
unfoldable pub solve_range_with_trails : RuleSet → QuoteRange → ℕ → List ℕ → List ℕ → RangeResult
solve_range_with_trails set r n low high =
    let a = solve_with_trail set (quote_at r r.low) n (length low) in
    let b = solve_with_trail set (quote_at r r.high) n (length high) in
    let ends : RangeResult = record { answer = Ok (record { low = a.answer; high = b.answer }); low = trail_after a.records low; high = trail_after b.records high } in
    by_check (range_check_with_trails r n (length low) (length high)) ends (λ refusal. record { answer = Err refusal; low = low; high = high })

-- the same with no trails
unfoldable pub solve_range : RuleSet → QuoteRange → ℕ → RangeSolution
solve_range set r n =
    let ends : RangeSolution = Ok (record { low = (solve_of set (quote_at r r.low) n).answer; high = (solve_of set (quote_at r r.high) n).answer }) in
    by_check (range_check r) ends Err
