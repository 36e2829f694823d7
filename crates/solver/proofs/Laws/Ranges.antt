-- What passed checks of the bid and ask call say of each end. Assumes nothing.
use mathlib.Core.Path.{◌≡◌, refl}
use mathlib.Core.Bool.{Bool, true, false, cond}
use mathlib.Core.List.{List}
use Prim.Native.Nat.{ℕ, ◌*◌}
use lib.Dec.{ltb}
use lib.ListN.{length}
use Rattle.std.specs.Prelude.{Ok, Err}
use Rattle.elementary.specs.declared.rule_set.RuleSet.{RuleSet}
use Rattle.solver.specs.declared.quote.QuoteRange.{QuoteRange}
use Rattle.solver.specs.declared.refusal.Refusal.{Refusal}
use Rattle.solver.specs.declared.refusal.Refusal.TheVariants.{TrailTooShort}
use Rattle.solver.specs.Answers.{RangeSolution, range_number_in}
use Rattle.solver.specs.Solve.{Check, and_then, by_check, passed_up, price_check, market_check, input_check, solve_of, solve_with_trail}
use Rattle.solver.specs.BidAsk.{RangeResult, quote_at, order_check, range_check, trail_check, range_check_with_trails, solve_range, solve_range_with_trails}
use Rattle.solver.proofs.Laws.Loops.{above_0}

-- ---- where a call answers, its checks pass

passes_if : {A : Type 0} (answer : A → RangeSolution) (c : Check) (w : A) (v : Refusal → A) → ((k : Refusal) → answer (v k) ≡ Err k) → range_number_in (answer (by_check c w v)) ≡ 0 → c ≡ Ok tt
passes_if answer (Ok tt) w v g h = refl
passes_if answer (Err k) w v g h = absurd (above_0 k (rw (g k) at h))

pub passes_with_trails : (set : RuleSet) (r : QuoteRange) (n : ℕ) (low high : List ℕ) → range_number_in (solve_range_with_trails set r n low high).answer ≡ 0 → range_check_with_trails r n (length low) (length high) ≡ Ok tt
unfolding solve_range_with_trails
passes_with_trails set r n low high = passes_if (λ (w : RangeResult). w.answer) (range_check_with_trails r n (length low) (length high)) _ _ (λ k. refl)

pub passes_without : (set : RuleSet) (r : QuoteRange) (n : ℕ) → range_number_in (solve_range set r n) ≡ 0 → range_check r ≡ Ok tt
unfolding solve_range
passes_without set r n = passes_if (λ (w : RangeSolution). w) (range_check r) _ _ (λ k. refl)

-- ---- what passed checks say of the single calls

-- no check refuses: not the first, and none of the others
both_pass : (c d : Check) → and_then c d ≡ Ok tt → (c ≡ Ok tt) × (d ≡ Ok tt)
both_pass (Ok tt) d e = (refl, e)
both_pass (Err r) d e = cc

pub range_passes : (r : QuoteRange) → range_check r ≡ Ok tt → (input_check (quote_at r r.low) ≡ Ok tt) × (input_check (quote_at r r.high) ≡ Ok tt)
range_passes r e =
    let market = passed_up (market_check r.forward r.strike r.expiry) in
    let order = order_check r.low r.high in
    let low = both_pass (price_check r.low) (and_then (price_check r.high) (and_then order market)) e in
    let high = both_pass (price_check r.high) (and_then order market) low.1 in
    let last = both_pass order market high.1 in
    (rw (low.0, last.1), rw (high.0, last.1))

long_enough : (n bytes : ℕ) → trail_check n bytes ≡ Ok tt → ltb bytes (48 * n) ≡ false
long_enough n bytes = go (ltb bytes (48 * n))
  where
    go : (b : Bool) → ◌≡◌ {A = Check} (cond b (Err TrailTooShort) (Ok tt)) (Ok tt) → b ≡ false
    go true e = cc
    go false e = refl

pub trails_pass : (r : QuoteRange) (n low high : ℕ) → range_check_with_trails r n low high ≡ Ok tt → (range_check r ≡ Ok tt) × ((ltb low (48 * n) ≡ false) × (ltb high (48 * n) ≡ false))
trails_pass r n low high e =
    let range = both_pass (range_check r) (and_then (trail_check n low) (trail_check n high)) e in
    let trails = both_pass (trail_check n low) (trail_check n high) range.1 in
    (range.0, (long_enough n low trails.0, long_enough n high trails.1))

-- ---- long enough trails change nothing

-- what passes adds nothing
and_passed : (c : Check) → and_then c (Ok tt) ≡ c
and_passed (Ok tt) = refl
and_passed (Err r) = refl

pub check_as_without : (r : QuoteRange) (n low high : ℕ) → ltb low (48 * n) ≡ false → ltb high (48 * n) ≡ false → range_check_with_trails r n low high ≡ range_check r
check_as_without r n low high a b = rw (a, b) (and_passed (range_check r))

pub answer_as_without : (set : RuleSet) (r : QuoteRange) (n : ℕ) (low high : List ℕ) → range_check_with_trails r n (length low) (length high) ≡ range_check r
    → (solve_of set (quote_at r r.low) n).answer ≡ (solve_with_trail set (quote_at r r.low) n (length low)).answer
    → (solve_of set (quote_at r r.high) n).answer ≡ (solve_with_trail set (quote_at r r.high) n (length high)).answer
    → solve_range set r n ≡ (solve_range_with_trails set r n low high).answer
unfolding solve_range solve_range_with_trails
answer_as_without set r n low high e a b = rw (e, a, b) (go (range_check r) _ _)
  where
    go : (c : Check) (w : RangeResult) (v : Refusal → RangeResult) → by_check c w.answer (λ k. (v k).answer) ≡ (by_check c w v).answer
    go (Ok tt) w v = refl
    go (Err k) w v = refl
