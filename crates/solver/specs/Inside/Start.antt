-- What the code's start of a run means. Definitions only.
use Rattle.std.specs.Prelude.{◌≡◌, Result, Ok, Err, Float, ⊤}
use Rattle.std.specs.Float.{binary64}
use Rattle.elementary.specs.Ops.{◌⊗◌, two}
use Rattle.elementary.specs.declared.rule_set.RuleSet.{RuleSet}
use Rattle.elementary.specs.Methods.{abs_of}
use Rattle.elementary.specs.Sqrt.{sqrt_of}
use Rattle.prices.specs.declared.refusal.Refusal.{Refusal}
use Rattle.solver.specs.declared.refusal.Refusal.TheVariants.{Pricing}
use Rattle.solver.specs.declared.state.Start.{Start as CodeStart}
use Rattle.solver.specs.declared.state.Start.TheVariants.{Answered, Looping}
use Rattle.solver.specs.declared.solve.Begun.{Begun}
use Rattle.solver.specs.Guess.{Start, answered, stopped, looping}
use Rattle.solver.specs.Inside.Branch.{branch_step}

-- the branch says which step the loop takes
abbrev pub meaning : RuleSet → Result CodeStart Refusal → Start
meaning set (Ok (Answered v)) = answered v
meaning set (Ok (Looping branch m st)) = looping branch m.beta (branch_step set branch m.b_max m.x m.beta) st
meaning set (Err refusal) = stopped (Pricing refusal)

-- √(2 |x|), where the guess begins
abbrev pub s_c_of : Float → Float
s_c_of x = sqrt_of binary64 (two ⊗ abs_of x)

-- an accepted quote's start
abbrev pub start_in : Result Begun Refusal → Result CodeStart Refusal
start_in (Ok begun) = Ok begun.start
start_in (Err refusal) = Err refusal

-- what a loop's s is divided by, for its volatility
abbrev pub DividedBy : Float → CodeStart → Float → Type 0
DividedBy expiry (Answered v) root = ⊤
DividedBy expiry (Looping branch m st) root = root ≡ sqrt_of binary64 expiry

abbrev pub DividedIn : Float → Result Begun Refusal → Type 0
DividedIn expiry (Ok begun) = DividedBy expiry begun.start begun.root
DividedIn expiry (Err refusal) = ⊤
