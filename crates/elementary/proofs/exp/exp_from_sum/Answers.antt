-- `exp::exp_from_sum` meets its contract: each way out is the arm that the tests before it leave. Assumes nothing.
use mathlib.Core.Path.{◌≡◌, sym, ◌∙◌}
use Prim.Native.Nat.{ℕ}
use lib.Ieee.{Float, binary64, minus, of_bits}
use Rattle.elementary.specs.Ops.{one}
use Rattle.elementary.specs.Exp.{exp_sum, scaled, exp_k, exp_r, exp_inner, exp_of}
use Rattle.elementary.specs.Inside.Exp.{BiasedExponent}
use Rattle.elementary.proofs.Laws.Bits.{ne_self, is_nan_lem}
use Rattle.elementary.proofs.exp.Range.{whole_k, in_range}
use Rattle.elementary.proofs.exp.exp_from_sum.Goals as goal

inner_is : (y k q r : Float) (e : ℕ) → k ≡ exp_k y → q ≡ exp_sum 13 (exp_r y) one → BiasedExponent k e → r ≡ scaled binary64 q (minus e 2048) → r ≡ exp_inner y
unfolding exp_inner
inner_is y k q r e a b c d = d ∙ rw (b, ← c.exponent, a)

pub returns-then-is_nan : goal.returns-then-is_nan
unfolding exp_of
returns-then-is_nan c =
    let t = c.if-is_nan.ensures.value in
    rw (ne_self, ← t) (is_nan_lem _ (rw (← t) tt))

pub returns-then-y : goal.returns-then-y
unfolding exp_of of_bits
returns-then-y c = rw (ne_self, ← c.if-is_nan.ensures.value, c.if-y.true)

pub returns-then-y-2 : goal.returns-then-y-2
unfolding exp_of
returns-then-y-2 c = rw (ne_self, ← c.if-is_nan.ensures.value, c.if-y.false, c.if-y-2.true)

pub biased_exponent-requires : goal.biased_exponent-requires
biased_exponent-requires c =
    rw c.requires.k_is (whole_k _ (in_range _ (ne_self _ ∙ sym c.if-is_nan.ensures.value) c.if-y.false c.if-y-2.false))

pub returns : goal.returns
unfolding exp_of
returns c =
    let h = c.requires in
    rw (ne_self, ← c.if-is_nan.ensures.value, c.if-y.false, c.if-y-2.false)
    (inner_is _ _ _ _ _ h.k_is h.q_is c.biased_exponent.ensures c.scale_by_power.ensures)
