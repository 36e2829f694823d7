-- `aligned_significand` meets its contract. Assumes nothing.
use Prim.Native.Nat.{◌+◌, ◌-◌, ◌^◌, ◌<◌}
use native.Mathlib.Omega.{arith}
use Rattle.elementary.proofs.sqrt.Alignment.{zeros, zeros_in, aligned_is}
use Rattle.elementary.proofs.sqrt.aligned_significand.Goals as goal

pub overflow_sub-result : goal.overflow_sub-result
overflow_sub-result c = (zeros_in 0 (c.requires.0, c.requires.1)).0

pub returns : goal.returns
returns c =
    let k = c.args.e - 1 in
    let M : (0 < c.args.m) × (c.args.m < 2 ^ 53) = (c.requires.0, c.requires.1) in
    aligned_is k M (c.args.e + 62 - zeros k M) (omega arith) (omega arith)
