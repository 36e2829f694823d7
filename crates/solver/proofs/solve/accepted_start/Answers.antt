-- `solve::accepted_start` meets its contract: each way out is the arm that the tests before it leave. Assumes nothing.
use mathlib.Core.Path.{◌≡◌, refl}
use Rattle.std.proofs.Common.{rules}
use Rattle.std.specs.Prelude.{Ok, Err}
use Rattle.std.specs.Float.{binary64}
use lib.Ieee.{Float, nan}
use Rattle.std.proofs.Math.ListN.{get_or}
use Rattle.elementary.specs.Sqrt.{sqrt_of}
use Rattle.solver.specs.declared.state.Start.{Start as CodeStart}
use Rattle.solver.specs.declared.state.Start.TheVariants.{Answered, Looping}
use Rattle.solver.specs.Inside.Start.{DividedBy}
use Rattle.solver.specs.Solve.{accepted_start}
use Rattle.solver.proofs.solve.accepted_start.Goals as goal
use Rattle.solver.proofs.solve.accepted_start.Goals.{then-mul, else-mul}

pub returns-then-price-intrinsic : goal.returns-then-price-intrinsic
unfolding accepted_start
returns-then-price-intrinsic c =
    rw c.answered.ensures record { value = rw (← c.mul.ensures, ← c.max-intrinsic.ensures, c.if-price-intrinsic.true) refl; root = tt }

pub returns-then-price-max_price : goal.returns-then-price-max_price
unfolding accepted_start
returns-then-price-max_price c =
    rw c.answered-then-price-max_price.ensures record { value = rw (← c.mul.ensures, ← c.max-intrinsic.ensures, c.if-price-intrinsic.false, ← c.max_price.ensures, c.if-price-max_price.true) refl; root = tt }

pub normalised_start-requires : goal.normalised_start-requires
normalised_start-requires c = rw (c.sqrt_4.ensures, c.abs.ensures, c.mul-3.ensures) refl

-- a loop's root stands beside it
divided : (expiry root : Float) (start : CodeStart) → root ≡ sqrt_of binary64 expiry → DividedBy expiry start root
divided expiry root (Answered v) e = tt
divided expiry root (Looping branch m st) e = e

pub returns-in_err-start : goal.returns-in_err-start
unfolding accepted_start
returns-in_err-start c =
    let e : c.normalised_start.result ≡ Err c.in_err-start.field-0.0 = search rules in
    let r : c.from_residual.result ≡ Err c.in_err-start.field-0.0 = search rules in
    let n = rw c.sqrt_4.ensures at c.normalised_start.ensures in
    rw r record {
      value =
          rw (← c.mul.ensures, ← c.max-intrinsic.ensures, c.if-price-intrinsic.false, ← c.max_price.ensures, c.if-price-max_price.false, ← c.ln-x.ensures, ← c.mul-2.ensures)
          (elim c.if-mul.branch [
            | then-mul w ↦ rw (w.if-mul.true, ← w.max-mapped.ensures, ← w.neg-mapped_type.ensures, ← w.mapped-is, ← w.mapped_type-is, ← n, e) refl
            | else-mul w ↦ rw (w.if-mul.false, ← w.mapped-is, ← w.mapped_type-is, ← n, e) refl
          ]);
      root = tt;
    }

pub returns : goal.returns
unfolding accepted_start
returns c =
    let e : c.normalised_start.result ≡ Ok c.in_ok-start.start = search rules in
    let n = rw c.sqrt_4.ensures at c.normalised_start.ensures in
    let root : get_or c.sqrt_4.result 2 nan ≡ sqrt_of binary64 c.args.quote.expiry = rw c.sqrt_4.ensures refl in
    let over = c.over_expiry.ensures c.args.quote.expiry root in
    record {
      value =
          rw (← c.mul.ensures, ← c.max-intrinsic.ensures, c.if-price-intrinsic.false, ← c.max_price.ensures, c.if-price-max_price.false, ← c.ln-x.ensures, ← c.mul-2.ensures)
          (elim c.if-mul.branch [
            | then-mul w ↦ rw (w.if-mul.true, ← w.max-mapped.ensures, ← w.neg-mapped_type.ensures, ← w.mapped-is, ← w.mapped_type-is, ← n, e) over
            | else-mul w ↦ rw (w.if-mul.false, ← w.mapped-is, ← w.mapped_type-is, ← n, e) over
          ]);
      root = divided c.args.quote.expiry _ c.over_expiry.result root;
    }
