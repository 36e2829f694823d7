-- `mul_add::addend` meets its contract: c has 53 digits. Assumes nothing.
use mathlib.Core.Path.{◌≡◌}
use Prim.Native.Nat.{ℕ, ◌*◌, ◌%◌, ◌^◌, ◌<◌}
use native.Mathlib.Nat.{mul-mul-mul_comm}
use native.Mathlib.Omega.{arith}
use lib.Pow.{pow-add}
use Rattle.elementary.proofs.mul_add.addend.Goals as goal

fits : (m : ℕ) → m < 2 ^ 53 → m * 2 ^ 64 % 2 ^ 128 ≡ m * 2 ^ 64
fits m h = omega arith

pub returns-clause-value : goal.returns-clause-value
returns-clause-value c =
    let a = c.args.c in
    rw (fits a.m (a.has_digits c.requires).top, pow-add 2 a.e 1202) (mul-mul-mul_comm a.m (2 ^ 64) (2 ^ a.e) (2 ^ 1202))
