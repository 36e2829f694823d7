-- `round::subnormal_parts` meets its contract: the digits shifted up by the leading zeros fill 53 places (Decode). Assumes nothing.
use mathlib.Core.Path.{◌≡◌}
use Prim.Native.Nat.{ℕ, ◌%◌, ◌^◌, ◌<◌}
use native.Mathlib.Omega.{arith}
use Rattle.elementary.proofs.Laws.Decode as decode
use Rattle.elementary.proofs.round.subnormal_parts.Goals as goal

pub overflow_sub-z : goal.overflow_sub-z
overflow_sub-z c = omega (arith, decode.far_up c.args.t c.requires c.if-t-eq0.false)

fits : (m : ℕ) → m < 2 ^ 53 → m % 2 ^ 64 ≡ m
fits m h = omega arith

pub invariant_of-result-2-clause-has_digits : goal.invariant_of-result-2-clause-has_digits
invariant_of-result-2-clause-has_digits c = rw (fits _ (decode.up_top c.args.t c.requires c.if-t-eq0.false)) (λ _. decode.up_digits c.args.t c.requires c.if-t-eq0.false)

pub returns-clause-value : goal.returns-clause-value
returns-clause-value c = rw (fits _ (decode.up_top c.args.t c.requires c.if-t-eq0.false)) (decode.up_same c.args.t c.requires c.if-t-eq0.false)
