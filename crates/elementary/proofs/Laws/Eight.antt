-- Eight numbers side by side. Assumes nothing.
use mathlib.Core.Path.{◌≡◌, sym, ◌∙◌, ap}
use mathlib.Core.Bool.{true}
use Prim.Native.Nat.{ℕ, ◌+◌, ◌≤◌, ◌<◌}
use lib.Ieee.{Float, binary64, neg}
use lib.Ieee.Fits.{mul-fits}
use Rattle.elementary.specs.Ops.{◌⊗◌}
use Rattle.elementary.specs.declared.eight.Eight.{Eight}
use Rattle.elementary.specs.declared.rule_set.RuleSet.{RuleSet}
use Rattle.elementary.specs.Methods.{abs_of}
use Rattle.elementary.specs.Exp.{exp_of}
use Rattle.elementary.specs.Cody.{tilde_of, negative_rest, smoothened_exponential_of_negative_square}
use Rattle.elementary.specs.NormalDistribution.{FRAC_1_SQRT_2, cdf_of}
use Rattle.elementary.specs.Inside.Each.{InEach, All, Triples, Each}
use Rattle.elementary.specs.Inside.Cdf.{argument_of, half_erfc, exp_of_negative_square, sixteenths_of, is_between, Close}
use Rattle.elementary.proofs.Laws.Bits.{abs_fits}
use Rattle.elementary.proofs.Laws.Close.{tilde_close}

-- what follows at each place follows at all
pub in_each : {P Q : (Eight → Float) → Type 0} → ((at : Eight → Float) → P at → Q at) → InEach P → InEach Q
in_each f h = record { each = λ i l. f _ (h.each i l) }

-- two facts of each place as one
pub both : {P Q : (Eight → Float) → Type 0} → InEach P → InEach Q → InEach (λ at. P at × Q at)
both h g = record { each = λ i l. (h.each i l, g.each i l) }

-- the cdf by way of erfc's argument
pub through : (set : RuleSet) (x w r : Eight) → Each argument_of x w → Each (half_erfc set) w r → Each (cdf_of set) x r
unfolding cdf_of
through set x w r h g = in_each (λ at f. f.1 ∙ ap (half_erfc set) f.0) (both h g)

-- a size of erfc's argument that is in the sixteenth, which is a float since a product is
pub close_size : {k : ℕ} (x : Float) {w : Float} (y : Float) → w ≡ argument_of x → y ≡ abs_of w → is_between (sixteenths_of k) (sixteenths_of (k + 1)) y ≡ true → Close k y
close_size x y v s t = record { test = t; of_format = rw (s, v) (abs_fits (argument_of x) (mul-fits binary64 (neg x) FRAC_1_SQRT_2)) }

-- where all are close to k / 16, that is the tilde of each
pub same_tilde : {k : ℕ} {a : Float} (y t : Eight) → 1 ≤ k → k < 1024 → All (Close k) y → a ≡ sixteenths_of k → All (λ x. x ≡ a) t → Each tilde_of y t
same_tilde y t l h c e s = in_each (λ at f. f.1 ∙ e ∙ sym (tilde_close l h f.0)) (both c s)

-- a factor is the product of its two exponentials
factor_of : (y : Float) {t s z c r : Float} → t ≡ tilde_of y → s ≡ exp_of_negative_square t → z ≡ negative_rest y → c ≡ exp_of z → r ≡ s ⊗ c → r ≡ smoothened_exponential_of_negative_square y
unfolding smoothened_exponential_of_negative_square
factor_of y p q r u v = rw (v, u, r, q, p)

pub factors_of : (y t s z c r : Eight) → Each tilde_of y t → Each exp_of_negative_square t s → Each negative_rest y z → Each exp_of z c → Triples (λ s c r. r ≡ s ⊗ c) s c r
    → Each smoothened_exponential_of_negative_square y r
factors_of y t s z c r p q n u v = in_each (λ at f. factor_of (at y) f.0.0 f.0.1 f.1.0 f.1.1.0 f.1.1.1) (both (both p q) (both n (both u v)))
