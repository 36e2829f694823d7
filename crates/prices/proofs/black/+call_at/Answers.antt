-- `black::call_at` meets its contract: in the money by itself at −x, a depth lower, and elsewhere the price out of the money. Assumes nothing.
use mathlib.Core.Path.{◌≡◌, sym, ap, ◌∙◌}
use mathlib.Core.Bool.{true, false}
use Prim.Native.Nat.{ℕ, zero, suc, ◌-◌, ◌<◌, ◌≤◌}
use native.Mathlib.Omega.{arith}
use lib.Ieee.{Float, neg, lt}
use Rattle.std.proofs.Common.{rules}
use Rattle.std.specs.Prelude.{Ok, Err}
use Rattle.elementary.specs.Ops.{+0}
use Rattle.elementary.specs.declared.rule_set.RuleSet.{RuleSet}
use Rattle.prices.specs.declared.inputs.OptionType.TheVariants.{Call}
use Rattle.prices.specs.Answers.{Answer}
use Rattle.prices.specs.Intrinsic.{intrinsic_of}
use Rattle.prices.specs.Black.{out_of_the_money, plus, call_at}
use Rattle.prices.proofs.Laws.Exponentials.{out_own}
use Rattle.prices.proofs.black.+call_at.Goals as goal
use Rattle.prices.proofs.black.+call_at.Goals.{else-depth-gt0-via-then-depth-gt0+else-x, else-depth-gt0-via-else-depth-gt0}

module _ (set : RuleSet) (x s : Float) (r : Answer) where
  mapped : (depth : ℕ) (inner : Answer) → 0 < depth → lt +0 x ≡ true → inner ≡ call_at (depth - 1) set (neg x) s → r ≡ plus (intrinsic_of x Call) inner → r ≡ call_at depth set x s
  unfolding call_at
  mapped zero inner n t b h = absurd (omega arith)
  mapped (suc d) inner n t b h = let e : suc d - 1 ≡ d = omega arith in h ∙ rw (t, b, e)

  deepest : (depth : ℕ) → depth ≤ 0 → r ≡ out_of_the_money set x s → r ≡ call_at depth set x s
  unfolding call_at
  deepest zero n h = h
  deepest (suc d) n h = absurd (omega arith)

  direct : (depth : ℕ) → 0 < depth → lt +0 x ≡ false → r ≡ out_of_the_money set x s → r ≡ call_at depth set x s
  unfolding call_at
  direct zero n t h = absurd (omega arith)
  direct (suc d) n t h = rw t h

pub returns-in_err-mapped : goal.returns-in_err-mapped
returns-in_err-mapped t c =
    let inner : c.call_at.result ≡ Err c.in_err-mapped.field-0.0 = search rules in
    let own : c.from_residual.result ≡ Err c.in_err-mapped.field-0.0 = search rules in
    mapped _ _ _ _ _ _ c.if-depth-gt0.true c.if-x.true c.call_at.ensures (own ∙ ap (plus (intrinsic_of c.args.x Call)) (sym inner))

pub returns-then-x : goal.returns-then-x
returns-then-x t c =
    let inner : c.call_at.result ≡ Ok c.in_ok-mapped.mapped = search rules in
    mapped _ _ _ _ _ _ c.if-depth-gt0.true c.if-x.true c.call_at.ensures (rw c.normalised_intrinsic.ensures (ap (plus (intrinsic_of c.args.x Call)) (sym inner)))

pub returns : goal.returns
returns t c =
    let own : c.out_of_the_money.result ≡ out_of_the_money c.args.set c.args.x c.args.s = c.out_of_the_money.ensures ∙ out_own _ _ _ in
    elim c.else-depth-gt0.branch [
      | else-depth-gt0-via-then-depth-gt0+else-x w ↦ direct _ _ _ _ _ w.if-depth-gt0.true w.if-x.false own
      | else-depth-gt0-via-else-depth-gt0 w ↦ deepest _ _ _ _ _ w.if-depth-gt0.false own
    ]
