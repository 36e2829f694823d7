-- `product::solve::export_target` meets its contract: where there is none, a NaN's bits. Assumes nothing.
use mathlib.Core.Path.{◌≡◌}
use borrow.Author.Rules.{rules}
use lib.Ieee.{Float, nan, div, of_bits}
use Rattle.std.specs.Prelude.{Option, None, Some, Result, Ok, Err, MatchResult, IsOkAnd}
use Rattle.std.specs.Option.{unwrap_or}
use Rattle.prices.specs.Answers.{value_of}
use Rattle.solver.specs.Answers.{Target, target_value}
use Rattle.solver.specs.declared.refusal.Refusal.{Refusal}
use Rattle.abi.proofs.product.solve.export_target.Goals as goal

of_mapped : {P : Option Float → Float → Type 0} → ((t : Option Float) (v : Float) → P t v → v ≡ unwrap_or t nan) → (a : Target) (m : Result Float Refusal) → MatchResult a (λ t. IsOkAnd m (P t)) (λ e. m ≡ Err e) → value_of m ≡ target_value a
of_mapped each (Ok (Some v)) (Ok w) h = each (Some v) w h
of_mapped each (Ok None) (Ok w) h = each None w h
of_mapped each (Ok (Some v)) (Err e) h = elim h [ ]
of_mapped each (Ok None) (Err e) h = elim h [ ]
of_mapped each (Err e) m h = rw (h)

pub returns-clause-value : goal.returns-clause-value
unfolding div of_bits
returns-clause-value c = rw (c.export_answer.ensures.value, of_mapped (λ t v h. search rules) c.args.answer c.map.result c.map.ensures.cases)
