-- `mul_add::product` meets its contract: both factors have 53 digits. Assumes nothing.
use mathlib.Core.Path.{◌≡◌, refl}
use Prim.Native.Nat.{ℕ, ◌+◌, ◌*◌, ◌%◌, ◌^◌, ◌<◌}
use native.Mathlib.Nat.{mul_assoc, mul_comm, mul_left_comm}
use native.Mathlib.Omega.{arith}
use lib.Pow.{pow-add}
use Rattle.std.proofs.lemmas.Nat.{mul-lt}
use Rattle.elementary.proofs.mul_add.product.Goals as goal

fits : (v : ℕ) → v < 2 ^ 106 → v * 2 ^ 12 % 2 ^ 128 ≡ v * 2 ^ 12
fits v h = omega arith

regroup : (a b x y : ℕ) → a * b * 2 ^ 12 * (x * y * 2 ^ 116) ≡ a * x * (b * y) * 2 ^ 128
regroup a b x y = simp (mul_assoc, mul_comm, mul_left_comm) refl

pub returns-clause-value : goal.returns-clause-value
returns-clause-value c =
    let a = c.args.a in
    let b = c.args.b in
    rw (fits (a.m * b.m) (mul-lt a.m b.m (2 ^ 53) (2 ^ 53) (a.has_digits c.requires.a_nonzero).top (b.has_digits c.requires.b_nonzero).top), pow-add 2 (a.e + b.e) 116, pow-add 2 a.e b.e)
    (regroup a.m b.m (2 ^ a.e) (2 ^ b.e))
