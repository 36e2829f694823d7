-- `black::black_at` meets its contract: in the money by itself for the other kind, a depth lower, and elsewhere the price out of the money. Assumes nothing.
use mathlib.Core.Path.{◌≡◌, sym, ap, ◌∙◌}
use mathlib.Core.Bool.{true, false}
use Prim.Native.Nat.{ℕ, zero, suc, ◌-◌, ◌<◌, ◌≤◌}
use native.Mathlib.Omega.{arith}
use lib.Ieee.{Float, lt}
use Rattle.std.proofs.Common.{rules}
use Rattle.std.specs.Prelude.{Ok, Err}
use Rattle.elementary.specs.Ops.{◌⊖◌, +0}
use Rattle.elementary.specs.Methods.{max_of}
use Rattle.elementary.specs.declared.rule_set.RuleSet.{RuleSet}
use Rattle.prices.specs.declared.inputs.OptionType.{OptionType}
use Rattle.prices.specs.Answers.{Answer}
use Rattle.prices.specs.Inputs.{negated, times}
use Rattle.prices.specs.Black.{plus, price_of, black_at}
use Rattle.prices.proofs.black.+black_at.Goals as goal
use Rattle.prices.proofs.black.+black_at.Goals.{else-depth-gt0-via-then-depth-gt0+else-signed_diff, else-depth-gt0-via-else-depth-gt0}

module _ (set : RuleSet) (forward strike sigma expiry : Float) (kind : OptionType) (diff : Float) (d : diff ≡ times kind (forward ⊖ strike)) (r : Answer) where
  abbrev at : ℕ → OptionType → Answer
  at depth k = black_at depth set forward strike sigma expiry k

  abbrev out_of_the_money : Answer
  out_of_the_money = price_of set forward strike sigma expiry kind

  mapped : (depth : ℕ) (other : OptionType) (inner : Answer) → 0 < depth → lt +0 diff ≡ true → other ≡ negated kind → inner ≡ at (depth - 1) other → r ≡ plus (max_of diff +0) inner → r ≡ at depth kind
  unfolding black_at
  mapped zero other inner n t o b h = absurd (omega arith)
  mapped (suc k) other inner n t o b h = let e : suc k - 1 ≡ k = omega arith in h ∙ rw (b, o, e, d, rw d at t)

  deepest : (depth : ℕ) → depth ≤ 0 → r ≡ out_of_the_money → r ≡ at depth kind
  unfolding black_at
  deepest zero n h = h
  deepest (suc k) n h = absurd (omega arith)

  direct : (depth : ℕ) → 0 < depth → lt +0 diff ≡ false → r ≡ out_of_the_money → r ≡ at depth kind
  unfolding black_at
  direct zero n t h = absurd (omega arith)
  direct (suc k) n t h = rw (rw d at t) h

pub returns-in_err-mapped : goal.returns-in_err-mapped
returns-in_err-mapped t c =
    let inner : c.black_at.result ≡ Err c.in_err-mapped.field-0.0 = search rules in
    let own : c.from_residual.result ≡ Err c.in_err-mapped.field-0.0 = search rules in
    mapped _ _ _ _ _ _ _ c.mul-signed_diff.ensures _ _ _ _ c.if-depth-gt0.true c.if-signed_diff.true c.neg.ensures c.black_at.ensures (own ∙ ap (plus _) (sym inner))

pub returns-then-signed_diff : goal.returns-then-signed_diff
returns-then-signed_diff t c =
    let inner : c.black_at.result ≡ Ok c.in_ok-mapped.mapped = search rules in
    mapped _ _ _ _ _ _ _ c.mul-signed_diff.ensures _ _ _ _ c.if-depth-gt0.true c.if-signed_diff.true c.neg.ensures c.black_at.ensures (rw c.max.ensures (ap (plus _) (sym inner)))

pub returns : goal.returns
returns t c =
    elim c.else-depth-gt0.branch [
      | else-depth-gt0-via-then-depth-gt0+else-signed_diff w ↦ direct _ _ _ _ _ _ _ c.mul-signed_diff.ensures _ _ w.if-depth-gt0.true w.if-signed_diff.false c.price.ensures
      | else-depth-gt0-via-else-depth-gt0 w ↦ deepest _ _ _ _ _ _ _ c.mul-signed_diff.ensures _ _ w.if-depth-gt0.false c.price.ensures
    ]
