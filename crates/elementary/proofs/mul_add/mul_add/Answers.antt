-- `mul_add::mul_add` meets its contract: infinite and NaN operands by the cases of `fma` (Rounding). Assumes nothing.
use mathlib.Core.Path.{◌≡◌, sym, ◌∙◌}
use mathlib.Core.Bool.{Bool, true, false, not, ◌&&◌}
use lib.Dec.{T}
use lib.Ieee.{Float, binary64}
use lib.Ieee.Scale.{finite}
use Rattle.std.specs.Float.{float_is_finite}
use Rattle.elementary.proofs.Laws.Decode.{std_finite}
use Rattle.elementary.proofs.Laws.Rounding.{fma_addend, fma_factor}
use Rattle.elementary.proofs.mul_add.mul_add.Goals as goal
use Rattle.elementary.proofs.mul_add.mul_add.Goals.{then-not-is_finite-via-then-not-is_finite, then-not-is_finite-via-else-not-is_finite+then-not-is_finite-2}

-- what std's test says
finite_by : (x : Float) → true ≡ float_is_finite x → T (finite x)
finite_by x e = rw (← std_finite x, ← e) tt

not_finite_by : (x : Float) {t : Bool} → t ≡ float_is_finite x → t ≡ false → finite x ≡ false
not_finite_by x e h = sym (std_finite x) ∙ sym e ∙ h

not_first : (a b : Bool) → a ≡ false → T (not (a && b))
not_first a b e = rw e tt

not_second : (a b : Bool) → b ≡ false → T (not (a && b))
not_second true b e = rw e tt
not_second false b e = tt

pub returns-then-not-is_finite : goal.returns-then-not-is_finite
returns-then-not-is_finite c =
    sym (fma_factor binary64 _ _ _ (elim c.then-not-is_finite.branch [
      | then-not-is_finite-via-then-not-is_finite w ↦ not_first _ _ (not_finite_by c.args.a c.is_finite.ensures.value w.if-not-is_finite.true)
      | then-not-is_finite-via-else-not-is_finite+then-not-is_finite-2 w ↦ not_second _ _ (not_finite_by c.args.b w.is_finite-else-not-is_finite.ensures.value w.if-not-is_finite-2.true)
    ]))

pub returns-then-not-is_finite-3 : goal.returns-then-not-is_finite-3
returns-then-not-is_finite-3 c =
    sym (fma_addend binary64 c.args.a c.args.b c.args.c (finite_by c.args.a c.if-not-is_finite.ensures.value) (finite_by c.args.b c.if-not-is_finite-2.ensures.value)
    (rw (not_finite_by c.args.c c.is_finite-2.ensures.value c.if-not-is_finite-3.true) tt))

pub fma_finite-requires : goal.fma_finite-requires
fma_finite-requires c = record {
  a_finite = finite_by c.args.a c.if-not-is_finite.ensures.value;
  b_finite = finite_by c.args.b c.if-not-is_finite-2.ensures.value;
  c_finite = finite_by c.args.c c.if-not-is_finite-3.ensures.value;
}
