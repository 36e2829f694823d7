-- A rule at depth 1 is the rule that calls itself: what is in the money is out of the money at −x, and for the other kind, since a product with −1 is the one with 1
-- and its sign changed. Assumes nothing.
use mathlib.Core.Path.{◌≡◌, refl, sym, ap, ◌∙◌}
use mathlib.Core.Bool.{Bool, true, false, cond}
use Prim.Native.Nat.{ℕ, ◌*◌}
use lib.IntN.{ℤ, pos}
use lib.Ieee.{Float, nan, inf, fin, binary64, up, down, mul, neg, lt, of_bits}
use Rattle.elementary.specs.Ops.{◌⊖◌, ◌⊗◌, +0, one}
use Rattle.elementary.specs.declared.rule_set.RuleSet.{RuleSet}
use Rattle.elementary.specs.Methods.{max_of}
use Rattle.elementary.proofs.Laws.Sign.{with_sign}
use Rattle.prices.specs.declared.inputs.OptionType.{OptionType}
use Rattle.prices.specs.declared.inputs.OptionType.TheVariants.{Call, Put}
use Rattle.prices.specs.Inputs.{negated, times}
use Rattle.prices.specs.Intrinsic.{intrinsic_of}
use Rattle.prices.specs.Black.{out_of_the_money, plus, call_at, call_of, price_of, black_at}

-- a positive number's negative is not above 0
not_above : (x : Float) → lt +0 x ≡ true → lt +0 (neg x) ≡ false
unfolding lt neg of_bits
not_above nan h = refl
not_above (inf true) h = cc
not_above (inf false) h = refl
not_above (fin true m e) h = cc
not_above (fin false m e) h = refl

neg_neg : (x : Float) → neg (neg x) ≡ x
unfolding neg
neg_neg nan = refl
neg_neg (inf true) = refl
neg_neg (inf false) = refl
neg_neg (fin true m e) = refl
neg_neg (fin false m e) = refl

-- the sign of a product of finite numbers
signed : (m n : ℕ) (e d : ℤ) (t : Bool) → mul binary64 (fin true m e) (fin t n d) ≡ neg (mul binary64 (fin false m e) (fin t n d))
unfolding mul
signed m n e d true = sym (neg_neg _) ∙ ap neg (with_sign binary64 true (m * up e * (n * up d)) (down e * down d))
signed m n e d false = sym (with_sign binary64 true (m * up e * (n * up d)) (down e * down d))

minus_one : (y : Float) → neg one ⊗ y ≡ neg (one ⊗ y)
unfolding mul neg of_bits
minus_one nan = refl
minus_one (inf true) = refl
minus_one (inf false) = refl
minus_one (fin t n d) = signed 1 n (pos 0) d t

other_kind : (kind : OptionType) (y : Float) → times (negated kind) y ≡ neg (times kind y)
other_kind Call y = minus_one y
other_kind Put y = sym (neg_neg _) ∙ ap neg (sym (minus_one y))

pub other_kind_out : (kind : OptionType) (y : Float) → lt +0 (times kind y) ≡ true → lt +0 (times (negated kind) y) ≡ false
other_kind_out kind y h = rw (other_kind kind y) (not_above (times kind y) h)

pub call_calls_itself : (set : RuleSet) (x s : Float) → call_of set x s ≡ cond (lt +0 x) (plus (intrinsic_of x Call) (call_of set (neg x) s)) (out_of_the_money set x s)
unfolding call_at
call_calls_itself set x s = go (lt +0 x) refl
  where
    go : (b : Bool) → lt +0 x ≡ b → cond b (plus (intrinsic_of x Call) (out_of_the_money set (neg x) s)) (out_of_the_money set x s) ≡ cond b (plus (intrinsic_of x Call) (call_of set (neg x) s)) (out_of_the_money set x s)
    go true h = rw (not_above x h) refl
    go false h = refl

module _ (set : RuleSet) (f k s e : Float) (kind : OptionType) where
  pub black_calls_itself : lt +0 (times kind (f ⊖ k)) ≡ true → black_at 1 set f k s e kind ≡ plus (max_of (times kind (f ⊖ k)) +0) (black_at 1 set f k s e (negated kind))
  unfolding black_at
  black_calls_itself h = rw (h, other_kind_out kind (f ⊖ k) h)

  pub black_out_of_the_money : lt +0 (times kind (f ⊖ k)) ≡ false → black_at 1 set f k s e kind ≡ price_of set f k s e kind
  unfolding black_at
  black_out_of_the_money h = rw h
