-- The tables' entries are the values of the definitions, by computation. Assumes nothing.
use mathlib.Core.Path.{◌≡◌, refl}
use mathlib.Core.Bool.{false, not}
use mathlib.Core.List.{List, [], ◌∷◌}
use Prim.Native.Nat.{ℕ, zero, suc, ◌+◌, ◌-◌, ◌≤◌, ◌<◌}
use native.Mathlib.Nat.{add-zero, add-suc, suc-add, zero-add}
use native.Mathlib.Omega.{arith}
use lib.Dec.{T}
use lib.ListN.{get_or}
use lib.Ieee.{binary64, nan_bits, add, sub, mul, div, neg, of_bits, of_int, to_signed, round, units, size, lt, le, eq, ne}
use Rattle.elementary.specs.Ops.{bits}
use Rattle.elementary.specs.declared.tables.TheConstants.{SQUARES, CDFS}
use Rattle.elementary.specs.declared.rule_set.RuleSet.{RuleSet}
use Rattle.elementary.specs.Floor.{floor_of}
use Rattle.elementary.specs.Methods.{abs_of}
use Rattle.elementary.specs.Exp.{exp_of, exp_inner, exp_sum, scaled}
use Rattle.elementary.specs.Cody.{negative_square, erfc_of, erfc_abs, erfcx_above_threshold, smoothened_exponential_of_negative_square, tilde_of}
use Rattle.elementary.specs.NormalDistribution.{cdf_of, mid_of, lowest, highest}
use Rattle.elementary.specs.Inside.Cdf.{sixteenths_of, point_of}

-- f of n numbers from i on
unfoldable pub from : {A : Type 0} → (ℕ → A) → ℕ → ℕ → List A
from f i zero = []
from f i (suc n) = f i ∷ from f (suc i) n

first : {A : Type 0} {x y : A} {xs ys : List A} → ◌≡◌ {A = List A} (x ∷ xs) (y ∷ ys) → x ≡ y
first e = cc

others : {A : Type 0} {x y : A} {xs ys : List A} → ◌≡◌ {A = List A} (x ∷ xs) (y ∷ ys) → xs ≡ ys
others e = cc

-- where both lists are the same, f and g are, at each number
agree_from : {A : Type 0} (f g : ℕ → A) (i n : ℕ) → from f i n ≡ from g i n → (k : ℕ) → k < n → f (i + k) ≡ g (i + k)
unfolding from
agree_from f g i zero e k l = absurd (omega arith)
agree_from f g i (suc n) e zero l = rw (add-zero i) (first e)
agree_from f g i (suc n) e (suc k) l = rw (add-suc i k, ← suc-add i k) (agree_from f g (suc i) n (others e) k (omega arith))

agree : {A : Type 0} (f g : ℕ → A) (n : ℕ) → from f 0 n ≡ from g 0 n → (k : ℕ) → k < n → f k ≡ g k
agree f g n e k l = rw (zero-add k) at (agree_from f g 0 n e k l)

-- ---- exp(−(k / 16)²)
square_numbers : from (λ k. nan_bits binary64 (get_or SQUARES k 0)) 0 96 ≡ from (λ k. false) 0 96
unfolding from nan_bits
square_numbers = refl

pub square_number : (k : ℕ) → k < 96 → T (not (nan_bits binary64 (get_or SQUARES k 0)))
square_number k l = rw (agree (λ k. nan_bits binary64 (get_or SQUARES k 0)) (λ k. false) 96 square_numbers k l) tt

squares_right : from (λ k. bits (get_or SQUARES k 0)) 0 96 ≡ from (λ k. exp_of (negative_square (sixteenths_of k))) 0 96
unfolding from exp_of exp_inner exp_sum scaled floor_of add sub mul div neg of_bits of_int to_signed round units size lt le eq ne
squares_right = refl

pub square_entry : (k : ℕ) → k < 96 → bits (get_or SQUARES k 0) ≡ exp_of (negative_square (sixteenths_of k))
square_entry k l = agree (λ k. bits (get_or SQUARES k 0)) (λ k. exp_of (negative_square (sixteenths_of k))) 96 squares_right k l

-- ---- the cdf at the points of the first steps: none of them is in erfc's far arm, so no rule set matters
cdf_numbers : from (λ i. nan_bits binary64 (get_or CDFS i 0)) 0 31 ≡ from (λ i. false) 0 31
unfolding from nan_bits
cdf_numbers = refl

pub cdf_number : (i : ℕ) → 1 ≤ i → i < 32 → T (not (nan_bits binary64 (get_or CDFS (i - 1) 0)))
cdf_number i h l = rw (agree (λ i. nan_bits binary64 (get_or CDFS i 0)) (λ i. false) 31 cdf_numbers (i - 1) (omega arith)) tt

cdfs_right : (set : RuleSet) → from (λ i. bits (get_or CDFS i 0)) 0 31 ≡ from (λ i. cdf_of set (point_of (suc i))) 0 31
unfolding from cdf_of erfc_of erfc_abs erfcx_above_threshold smoothened_exponential_of_negative_square tilde_of exp_of exp_inner exp_sum scaled floor_of abs_of add sub mul div neg of_bits of_int to_signed round units size lt le eq ne
cdfs_right set = refl

pub cdf_entry : (set : RuleSet) (i : ℕ) → 1 ≤ i → i < 32 → bits (get_or CDFS (i - 1) 0) ≡ cdf_of set (point_of i)
cdf_entry set i h l =
    let e : suc (i - 1) ≡ i = omega arith in
    rw e at (agree (λ i. bits (get_or CDFS i 0)) (λ i. cdf_of set (point_of (suc i))) 31 (cdfs_right set) (i - 1) (omega arith))

-- ---- the points' middles
pub lowest_point : point_of 0 ≡ lowest
unfolding add sub mul neg of_bits of_int round units size
lowest_point = refl

pub highest_point : point_of 32 ≡ highest
unfolding add sub mul neg of_bits of_int round units size
highest_point = refl

abbrev pub Middle : ℕ → ℕ → Type 0
Middle h n = from (λ i. mid_of (point_of i) (point_of (i + (h + h)))) 0 n ≡ from (λ i. point_of (i + h)) 0 n

pub middle_16 : Middle 16 1
unfolding from add sub mul neg of_bits of_int round units size
middle_16 = refl

pub middle_8 : Middle 8 17
unfolding from add sub mul neg of_bits of_int round units size
middle_8 = refl

pub middle_4 : Middle 4 25
unfolding from add sub mul neg of_bits of_int round units size
middle_4 = refl

pub middle_2 : Middle 2 29
unfolding from add sub mul neg of_bits of_int round units size
middle_2 = refl

pub middle_1 : Middle 1 31
unfolding from add sub mul neg of_bits of_int round units size
middle_1 = refl

pub middle_of : (h n i : ℕ) → Middle h n → i < n → mid_of (point_of i) (point_of (i + (h + h))) ≡ point_of (i + h)
middle_of h n i e l = agree (λ i. mid_of (point_of i) (point_of (i + (h + h)))) (λ i. point_of (i + h)) n e i l
