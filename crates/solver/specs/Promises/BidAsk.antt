-- Bid and ask together, ticket 1 of document 02: for every rule set, range and limit, and trails of any bytes. Statements only.
use Rattle.std.specs.Prelude.{◌≡◌, true, false, ℕ, ◌*◌, ◌<◌, ◌≤◌, ℤ, length, Float}
use mathlib.Core.List.{List, [], ◌∷◌, Memᴰ as OneOf}
use Rattle.std.specs.Float.Ieee.{lt}
use Rattle.elementary.specs.declared.rule_set.RuleSet.{RuleSet}
use Rattle.prices.specs.Black.{is_finite, is_positive_normal}
use Rattle.solver.specs.declared.quote.QuoteRange.{QuoteRange}
use Rattle.solver.specs.Answers.{Solution, number_in, range_number_in, low_in, high_in}
use Rattle.solver.specs.Solve.{steps_of}
use Rattle.solver.specs.Trail.{trail_after}
use Rattle.solver.specs.BidAsk.{quote_at, RangeResult, solve_range_with_trails, solve_range}
use Rattle.solver.specs.Promises.Demand3.{Trail, none, of_bytes, LongEnough, run_of, begin_of, Sentences}

-- the call with these trails
abbrev pub call_with : RuleSet → QuoteRange → ℤ → List ℕ → List ℕ → RangeResult
call_with set r n low high = solve_range_with_trails set r (steps_of n) low high

-- this number refuses the whole call, and both trails stay
pub record RefusedWith (number : ℕ) (set : RuleSet) (r : QuoteRange) (n : ℤ) (low high : List ℕ) : Type 0 where
  pub number_is : range_number_in (call_with set r n low high).answer ≡ number
  pub low_stays : (call_with set r n low high).low ≡ low
  pub high_stays : (call_with set r n low high).high ≡ high

-- both prices are finite and low is not above high; forward, strike and expiry are positive normal numbers
abbrev pub PricesPass : QuoteRange → Type 0
PricesPass r = (is_finite r.low ≡ true) × (is_finite r.high ≡ true) × (lt r.high r.low ≡ false)

abbrev pub MarketPasses : QuoteRange → Type 0
MarketPasses r = (is_positive_normal r.forward ≡ true) × (is_positive_normal r.strike ≡ true) × (is_positive_normal r.expiry ≡ true)

-- The checks in their order, each where those before it pass: 1 for low, 1 for high, 31, then 2, 3, 4, then 21 for the low trail and for the high.
pub record CheckedInOrder (set : RuleSet) (r : QuoteRange) (n : ℤ) (low high : List ℕ) : Type 0 where
  pub low_price : is_finite r.low ≡ false → RefusedWith 1 set r n low high
  pub high_price : is_finite r.low ≡ true → is_finite r.high ≡ false → RefusedWith 1 set r n low high
  pub low_above_high : is_finite r.low ≡ true → is_finite r.high ≡ true → lt r.high r.low ≡ true → RefusedWith 31 set r n low high
  pub forward : PricesPass r → is_positive_normal r.forward ≡ false → RefusedWith 2 set r n low high
  pub strike : PricesPass r → is_positive_normal r.forward ≡ true → is_positive_normal r.strike ≡ false → RefusedWith 3 set r n low high
  pub expiry : PricesPass r → is_positive_normal r.forward ≡ true → is_positive_normal r.strike ≡ true → is_positive_normal r.expiry ≡ false → RefusedWith 4 set r n low high
  pub low_trail : PricesPass r → MarketPasses r → length low < 48 * steps_of n → RefusedWith 21 set r n low high
  pub high_trail : PricesPass r → MarketPasses r → 48 * steps_of n ≤ length low → length high < 48 * steps_of n → RefusedWith 21 set r n low high
  pub none_refuses : PricesPass r → MarketPasses r → 48 * steps_of n ≤ length low → 48 * steps_of n ≤ length high → range_number_in (call_with set r n low high).answer ≡ 0

abbrev pub BidAskOrder : Type 0
BidAskOrder = (set : RuleSet) (r : QuoteRange) (n : ℤ) (low high : List ℕ) → CheckedInOrder set r n low high

-- An end's solution is the single call's for its price, so demand 3 holds of its runs; a number that it has is a later one.
pub record AsSingle (set : RuleSet) (r : QuoteRange) (price : Float) (n : ℤ) (t : Trail) (a : Solution) : Type 0 where
  pub solution : a ≡ (run_of set (quote_at r price) n t).answer
  pub number : OneOf (number_in a) (0 ∷ 6 ∷ 7 ∷ [])
  pub demand_3 : Sentences (begin_of set (quote_at r price)) (run_of set (quote_at r price))

-- and so is every byte of its trail
pub record AsSingleWithTrail (set : RuleSet) (r : QuoteRange) (price : Float) (n : ℤ) (old : List ℕ) (a : Solution) (trail : List ℕ) : Type 0 where
  pub end : AsSingle set r price n (of_bytes (length old)) a
  pub bytes : trail ≡ trail_after (run_of set (quote_at r price) n (of_bytes (length old))).records old

-- Whenever the checks pass, each end is what the single call gives for its price, whatever the other end is.
pub record BidAskEnds : Type 0 where
  pub low_end : (set : RuleSet) (r : QuoteRange) (n : ℤ) (low high : List ℕ) → range_number_in (call_with set r n low high).answer ≡ 0
      → AsSingleWithTrail set r r.low n low (low_in (call_with set r n low high).answer) (call_with set r n low high).low
  pub high_end : (set : RuleSet) (r : QuoteRange) (n : ℤ) (low high : List ℕ) → range_number_in (call_with set r n low high).answer ≡ 0
      → AsSingleWithTrail set r r.high n high (high_in (call_with set r n low high).answer) (call_with set r n low high).high
  pub low_end_without : (set : RuleSet) (r : QuoteRange) (n : ℤ) → range_number_in (solve_range set r (steps_of n)) ≡ 0 → AsSingle set r r.low n none (low_in (solve_range set r (steps_of n)))
  pub high_end_without : (set : RuleSet) (r : QuoteRange) (n : ℤ) → range_number_in (solve_range set r (steps_of n)) ≡ 0 → AsSingle set r r.high n none (high_in (solve_range set r (steps_of n)))

-- Without trails the call answers as with long enough ones.
abbrev pub BidAskWithoutTrails : Type 0
BidAskWithoutTrails = (set : RuleSet) (r : QuoteRange) (n : ℤ) (low high : List ℕ) → LongEnough n (of_bytes (length low)) → LongEnough n (of_bytes (length high))
    → solve_range set r (steps_of n) ≡ (call_with set r n low high).answer
