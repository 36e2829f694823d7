-- Document 01's twelve table rows P1 to P12, with the lines of P1 to P3, each under the rules of document 01. Statements only.
use Rattle.std.specs.Prelude.{Bool, false, ◌≡◌, List, [], ◌∷◌, ℕ, pos, replicate, Float}
use Rattle.std.specs.Float.{inf}
use Rattle.std.specs.Float.Ieee.{neg}
use Rattle.elementary.specs.Ops.{bits, float, +0, quarter, one, two, four, MAX, MIN}
use Rattle.elementary.specs.RuleSets.{rule_set_0}
use Rattle.elementary.specs.Cody.{erfc_of, erfcx_of}
use Rattle.prices.specs.declared.inputs.OptionType.{OptionType}
use Rattle.prices.specs.declared.inputs.OptionType.TheVariants.{Call, Put}
use Rattle.prices.specs.Answers.{number_of, value_of}
use Rattle.prices.specs.Black.{asymptotic_of}
use Rattle.prices.specs.RationalCubic.{interpolation_of}
use Rattle.solver.specs.declared.answers.Branch.TheVariants.{NoLoop}
use Rattle.solver.specs.declared.answers.Ending.TheVariants.{NoLoop as Unlooped}
use Rattle.solver.specs.Answers.{Solution, number_in, volatility_in, branch_in, ending_in, steps_in}
use Rattle.solver.specs.Solve.{solve_of, solve_with_trail, quote_of}
use Rattle.solver.specs.Book.{book_record_bytes}
use Rattle.solver.specs.Listing.{line_of}

-- solve with limit 2: price, forward, strike, expiry and kind
abbrev pub solution : Float → Float → Float → Float → OptionType → Solution
solution price forward strike expiry kind = (solve_of rule_set_0 (quote_of price forward strike expiry kind) 2).answer

-- P1's input with a trail of so many bytes
abbrev pub with_trail : ℕ → Solution
with_trail bytes = (solve_with_trail rule_set_0 (quote_of (float 150) (float 100) (float 200) four Call) 2 bytes).answer

-- the line of record i, a Call with limit 2 and the other fields 0
abbrev pub line_of_call : ℕ → Float → Float → Float → Float → List ℕ
line_of_call i price forward strike expiry = line_of rule_set_0 i (book_record_bytes (quote_of price forward strike expiry Call) (pos 2) (record { volatility = +0; branch = NoLoop; ending = Unlooped; steps = 0 }))

-- this volatility, answered before a guess
pub record Gives (a : Solution) (volatility : Float) : Type 0 where
  pub number : number_in a ≡ 0
  pub value : volatility_in a ≡ volatility
  pub branch : branch_in a ≡ 0
  pub ending : ending_in a ≡ 0
  pub steps : steps_in a ≡ 0

pub record Table : Type 0 where
  -- Call 150/100/200/4: half of f64::MAX, the sentinel divided by √expiry
  pub P1 : Gives (solution (float 150) (float 100) (float 200) four Call) (bits 0x7fdf_ffff_ffff_ffff)
  -- Call 99/200/100/1: −f64::MAX
  pub P2 : Gives (solution (float 99) (float 200) (float 100) one Call) MIN
  -- Call 0/100/200/1: 0
  pub P3 : Gives (solution +0 (float 100) (float 200) one Call) +0
  -- as P1 with expiry 0.25: +infinity
  pub P4 : Gives (solution (float 150) (float 100) (float 200) quarter Call) (inf false)
  -- Call 100/200/100/4: f64::MAX
  pub P5 : Gives (solution (float 100) (float 200) (float 100) four Call) MAX
  -- Put −0.0/100/100/1: +0
  pub P6 : Gives (solution (neg +0) (float 100) (float 100) one Put) +0
  -- erfc(0) = 1
  pub P7 : erfc_of rule_set_0 +0 ≡ one
  -- erfcx(−27) = f64::MAX
  pub P8 : erfcx_of (neg (float 27)) ≡ MAX
  -- the cubic with x = x_l = x_r = 1, y 2 and 4, at any slopes and any r: 3
  pub P9 : (d_l d_r r : Float) → (number_of (interpolation_of one one one two four d_l d_r r) ≡ 0) × (value_of (interpolation_of one one one two four d_l d_r r) ≡ float 3)
  -- x_l an infinity of either sign, whatever the others are: 6
  pub P10 : (s : Bool) (x x_r y_l y_r d_l d_r r : Float) → number_of (interpolation_of x (inf s) x_r y_l y_r d_l d_r r) ≡ 6
  -- the asymptotic expansion at h = −9.5, at any t: 7
  pub P11 : (t : Float) → number_of (asymptotic_of (bits 0xc023_0000_0000_0000) t) ≡ 7
  -- as P1 with 95 trail bytes: 21, and no steps; with 96 it isn't given
  pub P12 : (number_in (with_trail 95) ≡ 21) × (steps_in (with_trail 95) ≡ 0)
  pub P12Enough : Gives (with_trail 96) (bits 0x7fdf_ffff_ffff_ffff)
  -- the lines of P1 to P3: "0 7FDFFFFFFFFFFFFF 0 0 0", "1 FFEFFFFFFFFFFFFF 0 0 0", "2 0000000000000000 0 0 0"
  pub line_0 : line_of_call 0 (float 150) (float 100) (float 200) four ≡ 48 ∷ 32 ∷ 55 ∷ 70 ∷ 68 ∷ 70 ∷ 70 ∷ 70 ∷ 70 ∷ 70 ∷ 70 ∷ 70 ∷ 70 ∷ 70 ∷ 70 ∷ 70 ∷ 70 ∷ 70 ∷ 32 ∷ 48 ∷ 32 ∷ 48 ∷ 32 ∷ 48 ∷ 10 ∷ []
  pub line_1 : line_of_call 1 (float 99) (float 200) (float 100) one ≡ 49 ∷ 32 ∷ 70 ∷ 70 ∷ 69 ∷ 70 ∷ 70 ∷ 70 ∷ 70 ∷ 70 ∷ 70 ∷ 70 ∷ 70 ∷ 70 ∷ 70 ∷ 70 ∷ 70 ∷ 70 ∷ 32 ∷ 48 ∷ 32 ∷ 48 ∷ 32 ∷ 48 ∷ 10 ∷ []
  pub line_2 : line_of_call 2 +0 (float 100) (float 200) one ≡ 50 ∷ 32 ∷ 48 ∷ 48 ∷ 48 ∷ 48 ∷ 48 ∷ 48 ∷ 48 ∷ 48 ∷ 48 ∷ 48 ∷ 48 ∷ 48 ∷ 48 ∷ 48 ∷ 48 ∷ 48 ∷ 32 ∷ 48 ∷ 32 ∷ 48 ∷ 32 ∷ 48 ∷ 10 ∷ []
  -- 63 bytes: "3 REF 23"
  pub part_line : line_of rule_set_0 3 (replicate 63 0) ≡ 51 ∷ 32 ∷ 82 ∷ 69 ∷ 70 ∷ 32 ∷ 50 ∷ 51 ∷ 10 ∷ []
