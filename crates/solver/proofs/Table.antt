-- Document 01's twelve table rows, computed by antt from the definitions. Assumes nothing.
use mathlib.Core.Bool.{or-true}
use mathlib.Core.Path.{◌≡◌, refl}
use lib.Ieee.{Float, add, sub, mul, div, neg, of_bits, to_bits, of_int, to_signed, round, units, size, lt, le, eq, ne}
use Rattle.elementary.specs.Methods.{abs_of, max_of}
use Rattle.elementary.specs.Floor.{floor_of}
use Rattle.elementary.specs.Sqrt.{sqrt_of, round_root, isqrt, root_by, in_units}
use Rattle.elementary.specs.Exp.{exp_of, exp_inner, exp_sum, scaled}
use Rattle.elementary.specs.Ln.{ln_of, ln_inner, ln_at, ln_sum, place_of, significand_of}
use Rattle.elementary.specs.Cody.{erfc_of, erfcx_of}
use Rattle.prices.specs.Black.{asymptotic_of}
use Rattle.prices.specs.RationalCubic.{is_infinite, interpolation_of}
use Rattle.solver.specs.declared.answers.Branch.TheVariants.{NoLoop}
use Rattle.solver.specs.declared.answers.Ending.TheVariants.{NoLoop as Unlooped}
use Rattle.solver.specs.Answers.{Solution}
use Rattle.solver.specs.Guess.{normalised_start, mapped_start}
use Rattle.solver.specs.Book.{book_record_bytes, filed_quote, solve_record}
use Rattle.solver.specs.Listing.{decimal_by, hex_by, answer_at, line_of}
use Rattle.solver.specs.Solve.{accepted_start, market_check, start_of, solution_of, result_from, solve_of, solve_with_trail}
use Rattle.solver.specs.Table.{Gives, Table}

gives : (a : Solution) (v : Float) → a ≡ solution_of v NoLoop Unlooped 0 → Gives a v
gives a v e = rw e (record { number = refl; value = refl; branch = refl; ending = refl; steps = refl })

pub rows : Table
unfolding line_of answer_at solve_record filed_quote book_record_bytes decimal_by hex_by to_bits solve_of solve_with_trail result_from start_of market_check accepted_start normalised_start mapped_start erfc_of erfcx_of interpolation_of asymptotic_of sqrt_of round_root isqrt root_by in_units ln_of ln_inner ln_at ln_sum place_of significand_of exp_of exp_inner exp_sum scaled floor_of max_of abs_of add sub mul div neg of_bits of_int to_signed round units size lt le eq ne
rows = record {
  P1 = gives _ _ refl;
  P2 = gives _ _ refl;
  P3 = gives _ _ refl;
  P4 = gives _ _ refl;
  P5 = gives _ _ refl;
  P6 = gives _ _ refl;
  P7 = refl;
  P8 = refl;
  P9 = λ d_l d_r r. (refl, refl);
  P10 = λ s x x_r y_l y_r d_l d_r r. rw (or-true (is_infinite x));
  P11 = λ t. refl;
  P12 = (refl, refl);
  P12Enough = gives _ _ refl;
  line_0 = refl;
  line_1 = refl;
  line_2 = refl;
  part_line = refl;
}
