-- `isqrt n` is the whole part of √n. Assumes nothing.
use mathlib.Core.Path.{◌≡◌}
use mathlib.Core.Bool.{Bool, true, false, not, cond}
use Prim.Native.Nat.{ℕ, zero, suc, ◌+◌, ◌*◌, ◌/◌, ◌^◌, ◌≤◌, ◌<◌}
use native.Mathlib.Nat.{lt_of_not-le, not-le_of_lt, lt_of_lt_of_le, mul-le-mul, mul_assoc, mul_comm, mul_left_comm, pow-suc, pow-le-pow_left, suc-mul, mul-suc}
use native.Mathlib.Omega.{arith}
use lib.Dec.{T, leb, leb→le, nleb→lt, lit≤}
use lib.Ieee.{size}
use lib.Ieee.Digits.{size-lt}
use Rattle.elementary.specs.Sqrt.{digit, root_by, isqrt}

-- r is the whole part of √n
abbrev pub Root : ℕ → ℕ → Type 0
Root n r = (r * r ≤ n) × (n < suc r * suc r)

-- of two numbers, the one with the smaller square is the smaller
pub sq_lt : (a b : ℕ) → a * a < b * b → a < b
sq_lt a b h = lt_of_not-le (λ (g : b ≤ a). not-le_of_lt h (mul-le-mul g g))

pub sq_suc : (r : ℕ) → suc r * suc r ≡ r * r + 2 * r + 1
sq_suc r = simp (suc-mul, mul-suc) (omega arith)

pub sq_twice : (r : ℕ) → 2 * r * (2 * r) ≡ 4 * (r * r)
sq_twice r = simp (mul_assoc, mul_comm, mul_left_comm) (omega arith)

digit_root : (n r : ℕ) → r * r ≤ n → n < suc (suc r) * suc (suc r) → Root n (digit n r)
digit_root n r a b = go (leb (suc r * suc r) n) (leb→le (suc r * suc r) n) (nleb→lt (suc r * suc r) n)
  where
    go : (t : Bool) → (T t → suc r * suc r ≤ n) → (T (not t) → n < suc r * suc r) → Root n (cond t (suc r) r)
    go true y z = (y tt, b)
    go false y z = (a, z tt)

root_by_lem : (j n : ℕ) → n < 4 ^ j → Root n (root_by j n)
unfolding root_by
root_by_lem zero n h = (omega arith, omega arith)
root_by_lem (suc j) n h =
    let r = root_by j (n / 4) in
    let i = root_by_lem j (n / 4) (omega (arith, pow-suc 4 j)) in
    digit_root n (2 * r) (omega (arith, sq_twice r)) (omega (arith, sq_suc (suc (2 * r)), sq_suc (2 * r), sq_twice r, sq_suc r))

pub isqrt_root : (n : ℕ) → Root n (isqrt n)
unfolding isqrt
isqrt_root n = root_by_lem (size n) n (lt_of_lt_of_le (size-lt n) (pow-le-pow_left {n = 2} {m = 4} (lit≤ tt) (size n)))
