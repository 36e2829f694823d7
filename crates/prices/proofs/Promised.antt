-- The promises of specs/Promises, each under its name: what a rule's tests leave, and the laws. Assumes nothing.
use mathlib.Core.Path.{◌≡◌, refl, ◌∙◌}
use mathlib.Core.Logic.{◌⊎◌, inl, inr}
use mathlib.Core.Bool.{Bool, true, false, cond, ◌&&◌, ◌||◌}
use lib.Ieee.{Float, le}
use Rattle.elementary.specs.Ops.{◌⊖◌, EPSILON}
use Rattle.elementary.specs.Methods.{abs_of}
use Rattle.std.specs.Prelude.{Ok, Err}
use Rattle.prices.specs.declared.refusal.Refusal.{Refusal}
use Rattle.prices.specs.declared.refusal.Refusal.TheVariants.{Forward, Strike, Expiry, Sigma, InfinitePlace, OutsideAsymptoticRegion, TTooLarge}
use Rattle.prices.specs.Answers.{Answer, number, number_of}
use Rattle.prices.specs.Black.{SMALL_T, small_t_inner, small_t_of, is_outside_asymptotic_region, asymptotic_inner, asymptotic_of, plus, is_positive_normal, is_finite, black_at, black_of}
use Rattle.prices.specs.RationalCubic.{is_infinite, interpolation_of}
use Rattle.prices.specs.Promises.{SmallTNumber, AsymptoticNumber, CubicNumber, Is0Or7, CallNumbers, BlackNumbers, ZeroIsAValue, BlackOrder, CallRecursion, BlackRecursion}
use Rattle.prices.proofs.Laws.Refusals.{call_answer, black_answer, call_number, zero_is_ok}
use Rattle.prices.proofs.Laws.Recursion.{other_kind_out, call_calls_itself, black_calls_itself, black_out_of_the_money}

-- a refusal where b holds, else a value
refusal_number : (b : Bool) (r : Refusal) (v : Float) → number_of (cond b (Err r) (Ok v)) ≡ cond b (number r) 0
refusal_number true r v = refl
refusal_number false r v = refl

pub small_t_number : SmallTNumber
unfolding small_t_of
small_t_number h t = refusal_number (le SMALL_T t) TTooLarge (small_t_inner h t)

pub asymptotic_number : AsymptoticNumber
unfolding asymptotic_of
asymptotic_number h t = refusal_number (is_outside_asymptotic_region h t) OutsideAsymptoticRegion (asymptotic_inner h t)

pub cubic_number : CubicNumber
unfolding interpolation_of
cubic_number x x_l x_r y_l y_r d_l d_r r = go (is_infinite x || (is_infinite x_l || is_infinite x_r)) (le (abs_of (x_r ⊖ x_l)) EPSILON) _ _
  where
    go : (a b : Bool) (v w : Float) → number_of (cond a (Err InfinitePlace) (cond b (Ok v) (Ok w))) ≡ cond a 6 0
    go true b v w = refl
    go false true v w = refl
    go false false v w = refl

pub call_numbers : CallNumbers
call_numbers set x s = call_number (call_answer 1 set x s)

-- black after its four tests, with p for an accepted input
abbrev after_tests : Bool → Bool → Bool → Bool → Answer → Answer
after_tests a b c d p = cond a (cond b (cond c (cond d p (Err Expiry)) (Err Sigma)) (Err Strike)) (Err Forward)

pub black_numbers : BlackNumbers
unfolding black_of
black_numbers set f k s e kind = go (is_positive_normal f) (is_positive_normal k) (is_finite s) (is_positive_normal e) (black_at 1 set f k s e kind) (call_number (black_answer 1 set f k s e kind))
  where
    go : (a b c d : Bool) (p : Answer) → Is0Or7 (number_of p)
        → let n = number_of (after_tests a b c d p) in Is0Or7 n ⊎ ((n ≡ 2) ⊎ ((n ≡ 3) ⊎ ((n ≡ 4) ⊎ (n ≡ 5))))
    go true true true true p h = inl h
    go true true true false p h = inr (inr (inr (inl refl)))
    go true true false d p h = inr (inr (inr (inr refl)))
    go true false c d p h = inr (inr (inl refl))
    go false b c d p h = inr (inl refl)

pub zero_is_a_value : ZeroIsAValue
zero_is_a_value = record {
  small_t = λ h t. zero_is_ok _;
  asymptotic = λ h t. zero_is_ok _;
  cubic = λ x x_l x_r y_l y_r d_l d_r r. zero_is_ok _;
  call = λ set x s. zero_is_ok _;
  black = λ set f k s e kind. zero_is_ok _;
}

pub black_order : BlackOrder
unfolding black_of
black_order = record {
  forward_first = λ set f k s e kind a. rw a;
  then_strike = λ set f k s e kind a b. rw (a, b);
  then_sigma = λ set f k s e kind a b c. rw (a, b, c);
  then_expiry = λ set f k s e kind a b c d. rw (a, b, c, d);
  else_price = λ set f k s e kind a b c d. rw (a, b, c, d) (call_number (black_answer 1 set f k s e kind));
}

pub call_recursion : CallRecursion
call_recursion = call_calls_itself

-- a sum passes through the tests
plus_inside : (a b c d : Bool) (v : Float) (p : Answer) → after_tests a b c d (plus v p) ≡ plus v (after_tests a b c d p)
plus_inside true true true true v p = refl
plus_inside true true true false v p = refl
plus_inside true true false d v p = refl
plus_inside true false c d v p = refl
plus_inside false b c d v p = refl

accepted_input : (a b c d : Bool) (p : Answer) → (a && (b && (c && d))) ≡ true → after_tests a b c d p ≡ p
accepted_input true true true true p h = refl
accepted_input true true true false p h = cc
accepted_input true true false d p h = cc
accepted_input true false c d p h = cc
accepted_input false b c d p h = cc

pub black_recursion : BlackRecursion
unfolding black_of
black_recursion = record {
  in_the_money = λ set f k s e kind h. rw (black_calls_itself set f k s e kind h) (plus_inside (is_positive_normal f) (is_positive_normal k) (is_finite s) (is_positive_normal e) _ _);
  ends = λ f k kind h. other_kind_out kind (f ⊖ k) h;
  elsewhere = λ set f k s e kind h a. accepted_input (is_positive_normal f) (is_positive_normal k) (is_finite s) (is_positive_normal e) _ a ∙ black_out_of_the_money set f k s e kind h;
}
