-- `round::round_positive` meets its contract: the kept digits are a quarter of two digits more (Leaf), and their pattern is the float (Pattern). Assumes nothing.
use mathlib.Core.Path.{◌≡◌, sym, ◌∙◌}
use mathlib.Core.Bool.{false}
use Prim.Native.Nat.{ℕ, ◌+◌, ◌*◌, ◌%◌, ◌^◌, ◌≤◌}
use native.Mathlib.Nat.{mul-pos}
use native.Mathlib.Omega.{arith}
use lib.Count.{count_leading_zeros}
use lib.Pow.{pow_pos}
use lib.Ieee.{binary64}
use lib.Ieee.Fits.{round-fits}
use Rattle.elementary.proofs.Laws.Leaf.{filled, steps_of, c_small, q_small, q_large, rounds_to}
use Rattle.elementary.proofs.Laws.Bits.{no_nan_pattern}
use Rattle.elementary.proofs.Laws.Pattern.{too_large, units_pattern}
use Rattle.elementary.proofs.round.round_positive.Goals as goal

shl_is : (k : ℕ) → k ≤ 2045 → k * 2 ^ 52 % 2 ^ 64 ≡ k * 2 ^ 52
shl_is k h = omega arith

under : {k q : ℕ} → k ≤ 2045 → q ≤ 2 ^ 53 → (k * 2 ^ 52 % 2 ^ 64 + q) % 2 ^ 63 ≤ 2047 * 2 ^ 52
under h l = omega arith

pub shift_right-requires : goal.shift_right-requires
shift_right-requires c = rw (filled c.args.v c.requires.digits_low c.ranges.v.fits) (mul-pos c.requires.digits_low (pow_pos (count_leading_zeros 128 c.args.v)))

pub overflow_cast-shift_right : goal.overflow_cast-shift_right
overflow_cast-shift_right c = let s = steps_of c.requires.digits_low c.ranges.v.fits c.requires.e_low c.saturating_sub-k.ensures c.shift_right.ensures in omega (arith, c_small s.1)

pub quarter_to_even-q-requires : goal.quarter_to_even-q-requires
quarter_to_even-q-requires c = let s = steps_of c.requires.digits_low c.ranges.v.fits c.requires.e_low c.saturating_sub-k.ensures c.shift_right.ensures in omega (arith, c_small s.1)

pub float_from_bits-result : goal.float_from_bits-result
float_from_bits-result c =
    let s = steps_of c.requires.digits_low c.ranges.v.fits c.requires.e_low c.saturating_sub-k.ensures c.shift_right.ensures in
    no_nan_pattern _ (under c.if-k-gt2045.false (rw c.quarter_to_even-q.ensures (q_small s.1)))

pub returns-then-k-gt2045 : goal.returns-then-k-gt2045
returns-then-k-gt2045 c n R =
    let s = steps_of c.requires.digits_low c.ranges.v.fits c.requires.e_low c.saturating_sub-k.ensures c.shift_right.ensures in
    too_large _ _ c.if-k-gt2045.true (q_large s.1 (omega (arith, c.if-k-gt2045.true))) ∙ sym (rounds_to s.1 n R)

pub returns-else-k-gt2045 : goal.returns-else-k-gt2045
returns-else-k-gt2045 c n R =
    let s = steps_of c.requires.digits_low c.ranges.v.fits c.requires.e_low c.saturating_sub-k.ensures c.shift_right.ensures in
    let e = rounds_to s.1 n R in
    rw (shl_is c.saturating_sub-k.result c.if-k-gt2045.false, c.quarter_to_even-q.ensures)
    (units_pattern _ c.saturating_sub-k.result (q_small s.1) (q_large s.1) c.if-k-gt2045.false (rw e at (round-fits binary64 false n (2 ^ 2404))) ∙ sym e)
