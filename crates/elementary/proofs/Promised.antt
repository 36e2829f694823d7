-- A proof for each promise of specs/Promises.antt, from the laws.
use mathlib.Core.Path.{refl}
use lib.Ieee.{add, sub, mul, neg, sum, round, size, units, of_bits, of_int}
use Rattle.elementary.specs.Sqrt.{sqrt_of}
use Rattle.elementary.specs.MulAdd.{fma}
use Rattle.elementary.specs.Promises.{RoundIsNearest, SqrtIsRounded, NearestIsOne, SqrtDigits, ScaledIsRounded, MulAddIsRounded, FmaOne, FmaExamples, FloorIsGreatest, CdfIsFinite, InverseBrackets, RuleSetNumbers}
use Rattle.elementary.proofs.Laws.Rounding.{round_rounded, fraction_one, scaled_rounded, fma_rounded, fma_addend, fma_factor}
use Rattle.elementary.proofs.Laws.SqrtNearest.{sqrt_rounded, sqrt_none, root_one}
use Rattle.elementary.proofs.Laws.SqrtDigits.{alignment, state_found, state_one, first, no_digits}
use Rattle.elementary.proofs.Laws.FmaOne as factor
use Rattle.elementary.proofs.Laws.Greatest.{floor_greatest, greatest_unique, floor_other}
use Rattle.elementary.proofs.Laws.Finite.{cdf_finite}
use Rattle.elementary.proofs.Laws.Inverse as bisection
use Rattle.elementary.proofs.RuleSets.{unknown_above_1}

pub round_is_nearest : RoundIsNearest
round_is_nearest = round_rounded

pub sqrt_is_rounded : SqrtIsRounded
unfolding sqrt_of
sqrt_is_rounded = record {
  root = sqrt_rounded;
  zeros = λ f s e. refl;
  infinity = λ f. refl;
  none = sqrt_none;
}

pub nearest_is_one : NearestIsOne
nearest_is_one = record { fraction = fraction_one; root = root_one }

pub sqrt_digits_found : SqrtDigits
sqrt_digits_found = record { aligned = alignment; found = state_found; found_one = state_one; first = first; none = no_digits }

pub scaled_is_rounded : ScaledIsRounded
scaled_is_rounded = scaled_rounded

pub mul_add_is_rounded : MulAddIsRounded
mul_add_is_rounded = record { exact = fma_rounded; addend = fma_addend; factor = fma_factor }

pub fma_one : FmaOne
fma_one = factor.fma_one

pub fma_examples : FmaExamples
unfolding fma sum add sub mul neg round units size of_bits of_int
fma_examples = record {
  tie = refl;
  once = refl;
  both = refl;
  overflow = refl;
  largest = refl;
  cancel = refl;
  zeros = refl;
  no_number = refl;
  large = refl;
  subnormal = refl;
}

pub floor_is_greatest : FloorIsGreatest
floor_is_greatest = record { whole = floor_greatest; unique = greatest_unique; other = floor_other }

pub cdf_is_finite : CdfIsFinite
cdf_is_finite = cdf_finite

pub inverse_brackets : InverseBrackets
inverse_brackets = bisection.inverse_brackets

pub rule_set_numbers : RuleSetNumbers
rule_set_numbers = record { zero = refl; one = refl; no_other = λ number h. rw (unknown_above_1 number h) }
