-- The step of a branch, as the code has it: the lower and the upper branch have loops of their own, every other branch the general one. Definitions only.
use Rattle.std.specs.Prelude.{Float}
use Rattle.elementary.specs.declared.rule_set.RuleSet.{RuleSet}
use Rattle.solver.specs.declared.state.State.{State}
use Rattle.solver.specs.declared.state.Bracket.{Bracket}
use Rattle.solver.specs.declared.answers.Branch.{Branch}
use Rattle.solver.specs.declared.answers.Branch.TheVariants.{NoLoop, Lower, LowerMiddle, UpperMiddle, Upper, UpperRest}
use Rattle.solver.specs.Step.{StepResult, lower_ds, upper_ds, general_ds, at_least_half, whole_step, step_by}

-- what a branch has of three things, by its loop
abbrev pub by_loop : {A : Type 0} → Branch → A → A → A → A
by_loop NoLoop lower upper general = general
by_loop Lower lower upper general = lower
by_loop LowerMiddle lower upper general = general
by_loop UpperMiddle lower upper general = general
by_loop Upper lower upper general = upper
by_loop UpperRest lower upper general = general

-- its ds
abbrev pub branch_ds : Branch → Float → Float → Float → Float → Float → Float → Bracket → Float
branch_ds branch b_max x beta s b bp bracket = by_loop branch (lower_ds x beta s b bp bracket) (upper_ds b_max x beta s b bp bracket) (general_ds x beta s b bp bracket)

-- s after its step
abbrev pub branch_after : Branch → Float → Float → Float
branch_after branch s ds = by_loop branch (at_least_half s ds) (at_least_half s ds) (whole_step s ds)

-- the step
abbrev pub branch_step : RuleSet → Branch → Float → Float → Float → State → StepResult
branch_step set branch b_max x beta = step_by (branch_ds branch b_max x beta) (branch_after branch) set x beta
