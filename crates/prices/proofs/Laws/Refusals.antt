-- No number but 7 comes out of the Black price of an accepted input. Small t's 8 never passes up: where the price asks for that expansion, the test before it is
-- the one that the expansion makes. Assumes nothing.
use mathlib.Core.Path.{◌≡◌, refl}
use mathlib.Core.Logic.{inl, inr}
use mathlib.Core.Bool.{Bool, true, false, cond}
use Prim.Native.Nat.{ℕ, zero, suc}
use native.Mathlib.Omega.{arith}
use lib.Ieee.{Float, neg, lt, le}
use Rattle.elementary.specs.Ops.{◌⊖◌, ◌⊗◌, ◌⊘◌, +0, half}
use Rattle.elementary.specs.declared.rule_set.RuleSet.{RuleSet}
use Rattle.elementary.specs.Methods.{abs_of}
use Rattle.elementary.proofs.Laws.Compare.{not_le_of_lt}
use Rattle.prices.specs.declared.inputs.OptionType.{OptionType}
use Rattle.prices.specs.declared.refusal.Refusal.{Refusal}
use Rattle.prices.specs.declared.inputs.OptionType.TheVariants.{Call}
use Rattle.std.specs.Prelude.{Ok, Err, is_ok}
use Rattle.prices.specs.declared.refusal.Refusal.TheVariants.{Forward, Strike, Expiry, Sigma, InfinitePlace, OutsideAsymptoticRegion, TTooLarge}
use Rattle.prices.specs.Inputs.{negated, times}
use Rattle.prices.specs.Answers.{Answer, number, number_of}
use Rattle.prices.specs.Intrinsic.{intrinsic_of}
use Rattle.prices.specs.Black.{SMALL_T, small_t_of, asymptotic_of, codys_of, is_outside_asymptotic_region, is_asymptotic, region_of, out_of_the_money, plus, call_at, call_of, normalised_black_of, price_from_normalised, price_of, black_at}
use Rattle.prices.specs.Promises.{Is0Or7}

-- the answers of normalised_black_call
pub data CallAnswer : Answer → Type 0 where
  price : {v : Float} → CallAnswer (Ok v)
  outside_the_region : CallAnswer (Err OutsideAsymptoticRegion)

either : (b : Bool) {x y : Answer} → CallAnswer x → CallAnswer y → CallAnswer (cond b x y)
either true h k = h
either false h k = k

asymptotic_answer : (h t : Float) → CallAnswer (asymptotic_of h t)
unfolding asymptotic_of
asymptotic_answer h t = either (is_outside_asymptotic_region h t) outside_the_region price

small_t_answer : (h t : Float) → lt t SMALL_T ≡ true → CallAnswer (small_t_of h t)
unfolding small_t_of
small_t_answer h t l = rw (not_le_of_lt t SMALL_T l) price

-- whatever Cody's price is
region_answer : (x s codys : Float) → CallAnswer (cond (is_asymptotic x s) (asymptotic_of (x ⊘ s) (half ⊗ s)) (cond (lt (half ⊗ s) SMALL_T) (small_t_of (x ⊘ s) (half ⊗ s)) (Ok codys)))
region_answer x s codys = either (is_asymptotic x s) (asymptotic_answer (x ⊘ s) (half ⊗ s)) (go (lt (half ⊗ s) SMALL_T) refl)
  where
    go : (b : Bool) → lt (half ⊗ s) SMALL_T ≡ b → CallAnswer (cond b (small_t_of (x ⊘ s) (half ⊗ s)) (Ok codys))
    go true l = small_t_answer (x ⊘ s) (half ⊗ s) l
    go false l = price

out_answer : (set : RuleSet) (x s : Float) → CallAnswer (out_of_the_money set x s)
unfolding out_of_the_money region_of
out_answer set x s = either (le s (abs_of x ⊗ +0)) price (region_answer x s (codys_of set x s))

plus_answer : (v : Float) (a : Answer) → CallAnswer a → CallAnswer (plus v a)
plus_answer v (Ok b) h = price
plus_answer v (Err r) h = h

pub call_answer : (depth : ℕ) (set : RuleSet) (x s : Float) → CallAnswer (call_at depth set x s)
unfolding call_at
call_answer zero set x s = out_answer set x s
call_answer (suc d) set x s = either (lt +0 x) (plus_answer (intrinsic_of x Call) (call_at d set (neg x) s) (call_answer d set (neg x) s)) (out_answer set x s)

normalised_answer : (v f : Float) (a : Answer) → CallAnswer a → CallAnswer (price_from_normalised v f a)
normalised_answer v f (Ok b) h = price
normalised_answer v f (Err r) h = h

price_answer : (set : RuleSet) (f k s e : Float) (kind : OptionType) → CallAnswer (price_of set f k s e kind)
unfolding price_of normalised_black_of
price_answer set f k s e kind = normalised_answer _ _ (call_of set _ _) (call_answer 1 set _ _)

pub black_answer : (depth : ℕ) (set : RuleSet) (f k s e : Float) (kind : OptionType) → CallAnswer (black_at depth set f k s e kind)
unfolding black_at
black_answer zero set f k s e kind = price_answer set f k s e kind
black_answer (suc d) set f k s e kind =
    either (lt +0 (times kind (f ⊖ k))) (plus_answer _ (black_at d set f k s e (negated kind)) (black_answer d set f k s e (negated kind))) (price_answer set f k s e kind)

-- as numbers
pub call_number : {a : Answer} → CallAnswer a → Is0Or7 (number_of a)
call_number price = inl refl
call_number outside_the_region = inr refl

-- nothing is refused with 0
pub refused_above_0 : (r : Refusal) → number r ≡ 0 → ⊥
refused_above_0 Forward e = omega arith
refused_above_0 Strike e = omega arith
refused_above_0 Expiry e = omega arith
refused_above_0 Sigma e = omega arith
refused_above_0 InfinitePlace e = omega arith
refused_above_0 OutsideAsymptoticRegion e = omega arith
refused_above_0 TTooLarge e = omega arith

pub zero_is_ok : (a : Answer) → number_of a ≡ 0 → is_ok a ≡ true
zero_is_ok (Ok v) e = refl
zero_is_ok (Err r) e = absurd (refused_above_0 r e)
