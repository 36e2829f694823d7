-- The definition of solve at closed inputs, computed by antt: the Rust's own answers, to the bit, in both tails and the middle. Assumes nothing.
use mathlib.Core.Path.{◌≡◌, refl}
use Prim.Native.Nat.{ℕ}
use lib.Ieee.{binary64, add, sub, mul, div, neg, sum, of_bits, to_bits, of_int, to_signed, round, units, odd, size, lt, le, eq, ne}
use Rattle.elementary.specs.Ops.{bits}
use Rattle.elementary.specs.Methods.{abs_of, max_of, sign_of}
use Rattle.elementary.specs.Floor.{floor_of}
use Rattle.elementary.specs.MulAdd.{fma}
use Rattle.elementary.specs.Sqrt.{sqrt_of, round_root, isqrt, root_by, in_units}
use Rattle.elementary.specs.Exp.{exp_of, exp_inner, exp_sum, scaled}
use Rattle.elementary.specs.Ln.{ln_of, ln_inner, ln_at, ln_sum, place_of, significand_of, cube_root_of}
use Rattle.elementary.specs.Cody.{erfc_of, erfc_abs, erfcx_of, erfcx_above_threshold, smoothened_exponential_of_negative_square, smoothened_exponential_of_positive_square, tilde_of}
use Rattle.elementary.specs.NormalDistribution.{cdf_of, inverse_of, ends_of, bisection_ends, inverse_f_upper_map_of}
use Rattle.prices.specs.declared.inputs.OptionType.{OptionType}
use Rattle.prices.specs.declared.inputs.OptionType.TheVariants.{Call, Put}
use Rattle.prices.specs.Vega.{vega_of}
use Rattle.prices.specs.Intrinsic.{intrinsic_of}
use Rattle.prices.specs.Black.{call_at, out_of_the_money, region_of, codys_of, small_t_of, small_t_inner, taylor_of, term1, term2, term3, term4, term5, term6, asymptotic_of, asymptotic_inner, series_of, series_terms}
use Rattle.prices.specs.RationalCubic.{interpolation_of, curve_of, convex_parameter_of, control_parameter_of, minimum_parameter_of}
use Rattle.elementary.specs.RuleSets.{rule_set_0}
use Rattle.solver.specs.Loop.{run}
use Rattle.solver.specs.Step.{lower_step, upper_step, general_step, lower_ds, upper_ds, general_ds, householder_factor, is_close}
use Rattle.solver.specs.Guess.{normalised_start, mapped_start, lower_start, upper_start, tail_start, lower_guess, middle_guess, upper_guess, lower_map, upper_map, inverse_f_lower_map, with_value, on_value}
use Rattle.solver.specs.Solve.{solve_of, result_from, start_of, market_check, accepted_start, quote_of}
use Rattle.solver.specs.Answers.{volatility_in}
use Rattle.solver.specs.Promises.RuleSets.{StudentsCall}

-- the bits of the volatility at a price, forward, strike and expiry given by their bits, for a kind and a limit
abbrev volatility_bits : ℕ → ℕ → ℕ → ℕ → OptionType → ℕ → ℕ
volatility_bits price forward strike expiry kind n = to_bits binary64 (volatility_in (solve_of rule_set_0 (quote_of (bits price) (bits forward) (bits strike) (bits expiry) kind) n).answer)

pub record Examples : Type 0 where
  -- Call 0.001/100/150/1, limit 1: 0.11733300056143219
  lower_tail : volatility_bits 0x3f50_624d_d2f1_a9fc 0x4059_0000_0000_0000 0x4062_c000_0000_0000 0x3ff0_0000_0000_0000 Call 1 ≡ 0x3fbe_0989_1827_2483
  -- Call 10/100/95/1, limit 2: 0.18609337131054046
  middle : volatility_bits 0x4024_0000_0000_0000 0x4059_0000_0000_0000 0x4057_c000_0000_0000 0x3ff0_0000_0000_0000 Call 2 ≡ 0x3fc7_d1e8_57e3_fceb
  -- Call 70/100/110/1, limit 1: 2.1330128175522605
  upper_tail : volatility_bits 0x4051_8000_0000_0000 0x4059_0000_0000_0000 0x405b_8000_0000_0000 0x3ff0_0000_0000_0000 Call 1 ≡ 0x4001_1069_062a_afaa
  -- Put 3/100/90/0.5, limit 1: 0.2570827502801821
  put : volatility_bits 0x4008_0000_0000_0000 0x4059_0000_0000_0000 0x4056_8000_0000_0000 0x3fe0_0000_0000_0000 Put 1 ≡ 0x3fd0_740b_3534_6c6a
  -- one that a loop answers under rule set 1 alone
  pub students_call : StudentsCall

pub examples : Examples
unfolding solve_of result_from start_of market_check accepted_start normalised_start mapped_start lower_start upper_start tail_start lower_guess middle_guess upper_guess lower_map upper_map inverse_f_lower_map with_value on_value lower_step upper_step general_step lower_ds upper_ds general_ds householder_factor is_close run call_at out_of_the_money region_of codys_of small_t_of small_t_inner taylor_of term1 term2 term3 term4 term5 term6 asymptotic_of asymptotic_inner series_of series_terms vega_of intrinsic_of interpolation_of curve_of convex_parameter_of control_parameter_of minimum_parameter_of fma cdf_of inverse_of ends_of bisection_ends inverse_f_upper_map_of erfc_of erfc_abs erfcx_of erfcx_above_threshold smoothened_exponential_of_negative_square smoothened_exponential_of_positive_square tilde_of sqrt_of round_root isqrt root_by in_units ln_of ln_inner ln_at ln_sum place_of significand_of cube_root_of exp_of exp_inner exp_sum scaled floor_of max_of sign_of abs_of add sub mul div neg sum of_bits to_bits of_int to_signed round units odd size lt le eq ne
examples = record { lower_tail = refl; middle = refl; upper_tail = refl; put = refl; students_call = record { by_rule_set_0 = refl; by_rule_set_1 = refl } }
