-- How a kind, a side and a choice cross as bytes. Definitions only.
use Rattle.std.specs.Prelude.{ℕ, Bool, not, cond, eqb, Float, Result, Ok, Err}
use Rattle.prices.specs.declared.inputs.OptionType.{OptionType}
use Rattle.prices.specs.declared.rational_cubic.Side.{Side}
use Rattle.prices.specs.declared.rational_cubic.Side.TheVariants.{Left, Right}
use Rattle.prices.specs.Inputs.{kind_of}
use Rattle.prices.specs.Answers.{Answer}
use Rattle.prices.specs.Intrinsic.{intrinsic_of}
use Rattle.solver.specs.declared.refusal.Refusal.{Refusal}
use Rattle.solver.specs.declared.refusal.Refusal.TheVariants.{Pricing, OutsideTheLayout}
use Rattle.solver.specs.Book.{by_kind}

-- a price, or what layer 2 or the kind's byte refuses
abbrev pub priced : Answer → Result Float Refusal
priced (Ok v) = Ok v
priced (Err refusal) = Err (Pricing refusal)

-- A kind is document 01's byte. One that says no kind is refused, before all else, as a kind outside the layout.
abbrev pub of_kind : ℕ → (OptionType → Answer) → Result Float Refusal
of_kind kind answer = by_kind (kind_of kind) (λ k. priced (answer k)) (Err OutsideTheLayout)

-- 0 is Left, any other byte Right
abbrev pub side_of : ℕ → Side
side_of side = cond (eqb side 0) Left Right

-- 0 is false, any other byte true
abbrev pub choice_of : ℕ → Bool
choice_of choice = not (eqb choice 0)

-- and back: 1 where it is so, else 0
abbrev pub byte_of : Bool → ℕ
byte_of b = cond b 1 0

-- an intrinsic value is never refused but for its kind
abbrev pub intrinsic_answer : Float → OptionType → Answer
intrinsic_answer x kind = Ok (intrinsic_of x kind)
