-- The price out of the money is that of its region. Assumes nothing.
use mathlib.Core.Path.{◌≡◌, refl, sym, ap, ◌∙◌}
use mathlib.Core.Bool.{Bool, true, false, cond}
use lib.Ieee.{Float, lt, le}
use Rattle.elementary.specs.Ops.{◌⊗◌, ◌⊘◌, +0, half}
use Rattle.elementary.specs.Methods.{abs_of}
use Rattle.elementary.specs.declared.rule_set.RuleSet.{RuleSet}
use Rattle.prices.specs.declared.inputs.OptionType.TheVariants.{Call}
use Rattle.prices.specs.Answers.{Answer}
use Rattle.std.specs.Prelude.{Ok}
use Rattle.prices.specs.declared.black.Region.{Region}
use Rattle.prices.specs.declared.black.Region.TheVariants.{Intrinsic, Asymptotic, SmallT, Codys}
use Rattle.prices.specs.Intrinsic.{intrinsic_of}
use Rattle.prices.specs.Black.{SMALL_T, is_asymptotic, asymptotic_of, small_t_of, codys_of, region_of, out_of_the_money}
use Rattle.prices.specs.Inside.Exponentials.{codys_with, out_of_the_money_with}
use Rattle.prices.specs.Inside.Regions.{region_at, in_region}

by_tests : (a b c : Bool) (i s t d : Answer) → cond a i (cond b s (cond c t d)) ≡ in_region (cond a Intrinsic (cond b Asymptotic (cond c SmallT Codys))) i s t d
by_tests true b c i s t d = refl
by_tests false true c i s t d = refl
by_tests false false true i s t d = refl
by_tests false false false i s t d = refl

module _ (set : RuleSet) (x s : Float) (r v : Region) (e : r ≡ region_at x s) (m : r ≡ v) where
  pub in_region_lem : in_region v (Ok (intrinsic_of x Call)) (asymptotic_of (x ⊘ s) (half ⊗ s)) (small_t_of (x ⊘ s) (half ⊗ s)) (Ok (codys_of set x s)) ≡ out_of_the_money set x s
  unfolding out_of_the_money region_of
  in_region_lem =
      ap (λ (w : Region). in_region w (Ok (intrinsic_of x Call)) (asymptotic_of (x ⊘ s) (half ⊗ s)) (small_t_of (x ⊘ s) (half ⊗ s)) (Ok (codys_of set x s))) (sym m ∙ e)
      ∙ sym (by_tests (le s (abs_of x ⊗ +0)) (is_asymptotic x s) (lt (half ⊗ s) SMALL_T) (Ok (intrinsic_of x Call)) (asymptotic_of (x ⊘ s) (half ⊗ s)) (small_t_of (x ⊘ s) (half ⊗ s)) (Ok (codys_of set x s)))

  pub in_region_with : (up down : Float) → in_region v (Ok (intrinsic_of x Call)) (asymptotic_of (x ⊘ s) (half ⊗ s)) (small_t_of (x ⊘ s) (half ⊗ s)) (Ok (codys_with set up down x s)) ≡ out_of_the_money_with set up down x s
  unfolding out_of_the_money_with
  in_region_with up down = ap (λ (w : Region). in_region w (Ok (intrinsic_of x Call)) (asymptotic_of (x ⊘ s) (half ⊗ s)) (small_t_of (x ⊘ s) (half ⊗ s)) (Ok (codys_with set up down x s))) (sym m ∙ e)

-- in the region of a small t the bound on t holds
small_test : (a b c : Bool) → cond a Intrinsic (cond b Asymptotic (cond c SmallT Codys)) ≡ SmallT → c ≡ true
small_test true b c e = cc
small_test false true c e = cc
small_test false false true e = refl
small_test false false false e = cc

pub small_t_region : (x s : Float) (r : Region) → r ≡ region_at x s → r ≡ SmallT → lt (half ⊗ s) SMALL_T ≡ true
small_t_region x s r e m = small_test (le s (abs_of x ⊗ +0)) (is_asymptotic x s) (lt (half ⊗ s) SMALL_T) (sym e ∙ m)
