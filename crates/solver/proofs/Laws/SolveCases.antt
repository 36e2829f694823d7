-- What solve is once its input is looked at: a refusal, 21, or what the start leads to. Assumes nothing.
use mathlib.Core.Path.{◌≡◌}
use mathlib.Core.Bool.{Bool, true, false}
use Rattle.std.specs.Prelude.{Ok, Err}
use Rattle.elementary.specs.declared.rule_set.RuleSet.{RuleSet}
use Rattle.solver.specs.declared.quote.Quote.{Quote}
use Rattle.solver.specs.declared.refusal.Refusal.{Refusal}
use Rattle.solver.specs.declared.refusal.Refusal.TheVariants.{TrailTooShort}
use Rattle.solver.specs.Guess.{Start, stopped}
use Rattle.solver.specs.Solve.{accepted_start, input_check, start_of}

module _ (short : Bool) (set : RuleSet) (q : Quote) where
  abbrev start : Start
  start = start_of set short q

  pub by_refusal : (r : Refusal) → input_check q ≡ Err r → start ≡ stopped r
  unfolding start_of
  by_refusal r e = rw e

  module _ (e : input_check q ≡ Ok tt) where
    pub by_trail : short ≡ true → start ≡ stopped TrailTooShort
    unfolding start_of
    by_trail t = rw (e, t)

    pub by_start : short ≡ false → start ≡ accepted_start set q
    unfolding start_of
    by_start t = rw (e, t)
