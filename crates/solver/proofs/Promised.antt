-- The proofs of the promises of specs/Promises, each under the promise's own name. A run is `result_from` its start, so each sentence is a law of Loops.
-- Assumes nothing.
use mathlib.Core.Path.{◌≡◌, refl, sym, ap, ◌∙◌}
use mathlib.Core.Bool.{Bool, true, false, cond}
use mathlib.Core.List.{List, [], ◌∷◌, Memᴰ as OneOf}
use Prim.Native.Nat.{ℕ, ◌<◌, ◌*◌}
use lib.Dec.{ltb}
use lib.IntN.{ℤ}
use lib.Ieee.{Float, lt}
use lib.ListN.{length, get_or}
use borrow.Author.Tests.{lt-ltb, le-ltb}
use Rattle.std.specs.Prelude.{Result, Ok, Err, is_ok}
use Rattle.solver.specs.declared.quote.Quote.{Quote}
use Rattle.solver.specs.declared.quote.QuoteRange.{QuoteRange}
use Rattle.prices.specs.declared.refusal.Refusal.TheVariants.{Forward, Strike, Expiry}
use Rattle.solver.specs.declared.refusal.Refusal.{Refusal}
use Rattle.solver.specs.declared.refusal.Refusal.TheVariants.{Price, Pricing, TrailTooShort, OutsideTheLayout, LowAboveHigh, UnknownRuleSet}
use Rattle.elementary.specs.declared.rule_set.RuleSet.{RuleSet}
use Rattle.elementary.specs.RuleSets.{rule_set_0, rule_set_1}
use Rattle.elementary.proofs.RuleSets.{unknown_above_1}
use Rattle.prices.specs.declared.inputs.OptionType.{OptionType}
use Rattle.prices.specs.declared.inputs.OptionType.TheVariants.{Call, Put}
use Rattle.prices.specs.declared.inputs.UnknownKind.{UnknownKind}
use Rattle.prices.specs.Inputs.{kind_of}
use Rattle.solver.specs.Trail.{trail_after}
use Rattle.solver.specs.Guess.{Start}
use Rattle.solver.specs.Answers.{at_once, checking_number, number, number_in, range_number_in, low_in, high_in}
use Rattle.solver.specs.BidAsk.{RangeResult, quote_at, range_check, range_check_with_trails, solve_range, solve_range_with_trails}
use Rattle.solver.specs.Book.{by_kind, in_layout, quote_in, filed_quote, with_quote, check_record, record_at, recheck_of}
use Rattle.solver.specs.Solve.{cap_of, accepted_start, Check, market_check, input_check, start_of, SolveResult, result_from, solve_of, solve_with_trail, steps_of}
use Rattle.solver.specs.Promises.Demand3.{Trail, none, of_bytes, LongEnough, run_of, begin_of, OneRun, Sentences, Demand3}
use Rattle.solver.specs.Promises.Answers.{Numbers, SolveNumbers, LineLength}
use Rattle.solver.specs.Promises.BidAsk.{call_with, RefusedWith, CheckedInOrder, AsSingle, AsSingleWithTrail, BidAskOrder, BidAskEnds, BidAskWithoutTrails}
use Rattle.solver.specs.Promises.RuleSets.{ReachesItsCap, CappedAt, TextbookCaps, StudentsCall, RecheckedInOrder, RecheckOrder}
use Rattle.solver.specs.Table.{Table}
use Rattle.solver.proofs.Laws.Numbers.{Checked}
use Rattle.solver.proofs.Laws.Forms.{StartForm, accepted_form, start_form}
use Rattle.solver.proofs.Laws.Loops.{longer_run, run_steps, one_run, answer_half, run_numbers, later_number}
use Rattle.solver.proofs.Laws.Ranges.{passes_with_trails, passes_without, range_passes, trails_pass, check_as_without, answer_as_without}
use Rattle.solver.proofs.Laws.Caps.{start_between_alike, start_alike, uncapped_alike}
use Rattle.solver.proofs.Laws.Lines as lines
use Rattle.solver.proofs.Examples.{examples}
use Rattle.solver.proofs.Table.{rows}

-- ---- a run is `result_from` its start

-- whether the trail is too short
abbrev is_short : ℤ → Trail → Bool
is_short n none = false
is_short n (of_bytes k) = ltb k (48 * steps_of n)

not_short : (n : ℤ) (t : Trail) → LongEnough n t → is_short n t ≡ false
not_short n none l = refl
not_short n (of_bytes k) l = le-ltb k (48 * steps_of n) l

module _ (set : RuleSet) (q : Quote) where
  abbrev run : ℤ → Trail → SolveResult
  run = run_of set q

  abbrev begin : ℤ → Trail → Start
  begin = begin_of set q

  abbrev start : Bool → Start
  start short = start_of set short q

  begin_is : (n : ℤ) (t : Trail) → begin n t ≡ start (is_short n t)
  begin_is n none = refl
  begin_is n (of_bytes k) = refl

  run_is : (n : ℤ) (t : Trail) → run n t ≡ result_from (start (is_short n t)) q.expiry (steps_of n)
  unfolding solve_of solve_with_trail
  run_is n none = refl
  run_is n (of_bytes k) = refl

  long_run_is : (n : ℤ) (t : Trail) → LongEnough n t → run n t ≡ result_from (start false) q.expiry (steps_of n)
  long_run_is n t l = rw (run_is n t, not_short n t l)

  form : (n : ℤ) (t : Trail) → StartForm (Checked (is_short n t)) (start (is_short n t))
  form n t = start_form set (is_short n t) q

  run_facts : (n : ℤ) (t : Trail) → OneRun (steps_of n) (begin n t) (run n t)
  run_facts n t = rw (begin_is n t, run_is n t) (one_run _ (form n t) q.expiry (steps_of n))

  sentences : Sentences begin run
  sentences = record {
    longer = λ n m t t' l a b. rw (long_run_is n t a, long_run_is m t' b) (longer_run (start false) q.expiry (steps_of n) (steps_of m) l);
    steps = λ n t. rw (run_is n t) (run_steps _ q.expiry (steps_of n));
    each_run = run_facts;
    half_step = λ n t. answer_half (steps_of n) (begin n t) (run n t) (run_facts n t);
    without_trail = λ n t l.
        let e = long_run_is n none tt ∙ sym (long_run_is n t l) in
        (ap (λ w. w.records) e, ap (λ w. w.answer) e);
  }

  numbers : (n : ℤ) (t : Trail) → Numbers (LongEnough n t) (run n t).answer
  numbers n t = rw (run_is n t) (run_numbers (LongEnough n t) (not_short n t) _ (form n t) q.expiry (steps_of n))

  -- where no check refuses, a run's number is a later one
  later : (n : ℤ) (t : Trail) → input_check q ≡ Ok tt → is_short n t ≡ false → OneOf (number_in (run n t).answer) (0 ∷ 6 ∷ 7 ∷ [])
  unfolding start_of
  later n t e l = rw (run_is n t, l, e) (later_number _ (accepted_form set q) q.expiry (steps_of n))

-- ---- bid and ask

module _ (set : RuleSet) (r : QuoteRange) (n : ℤ) where
  -- an end whose checks pass, at this price
  as_single : (price : Float) (t : Trail) → input_check (quote_at r price) ≡ Ok tt → is_short n t ≡ false → AsSingle set r price n t (run set (quote_at r price) n t).answer
  as_single price t e l = record { solution = refl; number = later set (quote_at r price) n t e l; demand_3 = sentences set (quote_at r price) }

  without_trails : (low high : List ℕ) → LongEnough n (of_bytes (length low)) → LongEnough n (of_bytes (length high)) → solve_range set r (steps_of n) ≡ (call_with set r n low high).answer
  without_trails low high a b =
      let as_without : (price : Float) (t : Trail) → LongEnough n t → (run set (quote_at r price) n none).answer ≡ (run set (quote_at r price) n t).answer
      = λ price t l. ((sentences set (quote_at r price)).without_trail n t l).1 in
      answer_as_without set r (steps_of n) low high
      (check_as_without r (steps_of n) (length low) (length high) (not_short n (of_bytes (length low)) a) (not_short n (of_bytes (length high)) b))
      (as_without r.low (of_bytes (length low)) a) (as_without r.high (of_bytes (length high)) b)

  without_is_ends : range_check r ≡ Ok tt → solve_range set r (steps_of n) ≡ Ok (record { low = (run set (quote_at r r.low) n none).answer; high = (run set (quote_at r r.high) n none).answer })
  unfolding solve_range
  without_is_ends e = rw e

  low_end_without : range_number_in (solve_range set r (steps_of n)) ≡ 0 → AsSingle set r r.low n none (low_in (solve_range set r (steps_of n)))
  low_end_without z =
      let e = passes_without set r (steps_of n) z in
      rw (without_is_ends e) (as_single r.low none (range_passes r e).0 refl)

  high_end_without : range_number_in (solve_range set r (steps_of n)) ≡ 0 → AsSingle set r r.high n none (high_in (solve_range set r (steps_of n)))
  high_end_without z =
      let e = passes_without set r (steps_of n) z in
      rw (without_is_ends e) (as_single r.high none (range_passes r e).1 refl)

  module _ (low high : List ℕ) where
    abbrev check : Check
    check = range_check_with_trails r (steps_of n) (length low) (length high)

    refused_with : (k : Refusal) → check ≡ Err k → RefusedWith (number k) set r n low high
    unfolding solve_range_with_trails
    refused_with k e = record { number_is = rw e refl; low_stays = rw e refl; high_stays = rw e refl }

    in_order : CheckedInOrder set r n low high
    unfolding market_check solve_range_with_trails
    in_order = record {
      low_price = λ a. refused_with Price (rw a);
      high_price = λ a b. refused_with Price (rw (a, b));
      low_above_high = λ a b c. refused_with LowAboveHigh (rw (a, b, c));
      forward = λ p a. refused_with (Pricing Forward) (rw (p.0, p.1, p.2, a));
      strike = λ p a b. refused_with (Pricing Strike) (rw (p.0, p.1, p.2, a, b));
      expiry = λ p a b c. refused_with (Pricing Expiry) (rw (p.0, p.1, p.2, a, b, c));
      low_trail = λ p m l. refused_with TrailTooShort (rw (p.0, p.1, p.2, m.0, m.1, m.2, lt-ltb _ _ l));
      high_trail = λ p m l h. refused_with TrailTooShort (rw (p.0, p.1, p.2, m.0, m.1, m.2, le-ltb _ _ l, lt-ltb _ _ h));
      none_refuses = λ p m l h. rw (p.0, p.1, p.2, m.0, m.1, m.2, le-ltb _ _ l, le-ltb _ _ h);
    }

    -- both ends, where no check refuses
    abbrev ends : RangeResult
    ends =
        let a = run set (quote_at r r.low) n (of_bytes (length low)) in
        let b = run set (quote_at r r.high) n (of_bytes (length high)) in
        record { answer = Ok (record { low = a.answer; high = b.answer }); low = trail_after a.records low; high = trail_after b.records high }

    call_is_ends : check ≡ Ok tt → call_with set r n low high ≡ ends
    unfolding solve_range_with_trails
    call_is_ends e = rw e

    low_end : range_number_in (call_with set r n low high).answer ≡ 0 → AsSingleWithTrail set r r.low n low (low_in (call_with set r n low high).answer) (call_with set r n low high).low
    low_end z =
        let e = passes_with_trails set r (steps_of n) low high z in
        let p = trails_pass r (steps_of n) (length low) (length high) e in
        rw (call_is_ends e) (record { end = as_single r.low (of_bytes (length low)) (range_passes r p.0).0 p.1.0; bytes = refl })

    high_end : range_number_in (call_with set r n low high).answer ≡ 0 → AsSingleWithTrail set r r.high n high (high_in (call_with set r n low high).answer) (call_with set r n low high).high
    high_end z =
        let e = passes_with_trails set r (steps_of n) low high z in
        let p = trails_pass r (steps_of n) (length low) (length high) e in
        rw (call_is_ends e) (record { end = as_single r.high (of_bytes (length high)) (range_passes r p.0).1 p.1.1; bytes = refl })

-- ---- rule sets

capped_at : (q : Quote) (cap : Float) → cap_of rule_set_1 q.option_type q.forward q.strike ≡ cap → ReachesItsCap q → CappedAt cap q
unfolding start_of accepted_start
capped_at q cap e h = record { from_it_on = λ c. rw (h.0, h.1, e, c); below_it = λ c. rw (h.0, h.1, e, c) (start_between_alike true rule_set_0 q) }

call_capped : (q : Quote) → q.option_type ≡ Call → ReachesItsCap q → CappedAt q.forward q
call_capped q k = capped_at q q.forward (rw k)

put_capped : (q : Quote) → q.option_type ≡ Put → ReachesItsCap q → CappedAt q.strike q
put_capped q k = capped_at q q.strike (rw k)

elsewhere_alike : (q : Quote) (n : ℤ) (t : Trail) → (ReachesItsCap q → ⊥) → run_of rule_set_1 q n t ≡ run_of rule_set_0 q n t
elsewhere_alike q n t h = rw (run_is rule_set_1 q n t, run_is rule_set_0 q n t, uncapped_alike true rule_set_0 (is_short n t) q h)

below_both_caps : (q : Quote) (n : ℤ) (t : Trail) → lt q.price q.forward ≡ true → lt q.price q.strike ≡ true → run_of rule_set_1 q n t ≡ run_of rule_set_0 q n t
below_both_caps q n t f k = rw (run_is rule_set_1 q n t, run_is rule_set_0 q n t, start_alike true rule_set_0 (is_short n t) q f k)

-- what refuses a record's quote is 24
only_24 : (k : Result OptionType UnknownKind) (b : Bool) (quote : OptionType → Quote) → let filed = by_kind k (λ kind. cond b (Ok (quote kind)) (Err OutsideTheLayout)) (Err OutsideTheLayout) in is_ok filed ≡ false → filed ≡ Err OutsideTheLayout
only_24 (Ok kind) true quote o = cc
only_24 (Ok kind) false quote o = refl
only_24 (Err unknown) b quote o = refl

module _ (number : ℕ) (bytes : List ℕ) where
  outside : is_ok (filed_quote bytes) ≡ false → checking_number (check_record number bytes) ≡ 24
  unfolding check_record filed_quote
  outside o = rw (only_24 (kind_of (get_or bytes 48 0)) (in_layout bytes) (quote_in bytes) o)

  unknown : is_ok (filed_quote bytes) ≡ true → 1 < number → checking_number (check_record number bytes) ≡ 32
  unfolding check_record
  unknown o h = rw (unknown_above_1 number h) (go (filed_quote bytes) o)
    where
      go : (filed : Result Quote Refusal) → is_ok filed ≡ true → checking_number (with_quote {A = Bool} filed (λ q. Err (at_once UnknownRuleSet))) ≡ 32
      go (Ok q) o = refl
      go (Err refusal) o = cc

module _ (number : ℕ) (book : List ℕ) (used k : ℕ) where
  rechecked_in_order : RecheckedInOrder number book used k
  unfolding recheck_of check_record
  rechecked_in_order = record {
    no_record = λ e. rw e;
    outside_the_layout = λ e o. rw e (outside number (record_at k book) o);
    unknown = λ e o h. rw e (unknown number (record_at k book) o h);
    known = λ set q e o s. rw (e, o, s);
  }

-- ---- the promises

pub demand_3 : Demand3
demand_3 = sentences

pub solve_numbers : SolveNumbers
solve_numbers = numbers

pub line_length : LineLength
line_length = lines.line_length

pub table : Table
table = rows

pub bid_ask_order : BidAskOrder
bid_ask_order = in_order

pub bid_ask_ends : BidAskEnds
bid_ask_ends = record {
  low_end = low_end;
  high_end = high_end;
  low_end_without = low_end_without;
  high_end_without = high_end_without;
}

pub bid_ask_without_trails : BidAskWithoutTrails
bid_ask_without_trails = without_trails

pub textbook_caps : TextbookCaps
textbook_caps = record { call = call_capped; put = put_capped; elsewhere = elsewhere_alike; below_both = below_both_caps }

pub students_call : StudentsCall
students_call = examples.students_call

pub recheck_order : RecheckOrder
recheck_order = rechecked_in_order
