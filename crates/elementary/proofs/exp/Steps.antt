-- The steps of exp's sum: after those down to n, what is left of the 13 steps is the n steps from p on. Assumes nothing.
use mathlib.Core.Path.{◌≡◌, sym}
use Prim.Native.Nat.{ℕ, zero, suc, ◌-◌, ◌≤◌}
use native.Mathlib.Omega.{arith}
use lib.Ieee.{Float}
use Rattle.elementary.specs.Ops.{◌⊕◌, ◌⊗◌, ◌⊘◌, float, one}
use Rattle.elementary.specs.Exp.{exp_sum}
use Rattle.elementary.specs.Inside.Exp.{StepsLeft}

pub sum_step : (r p : Float) (n : ℕ) → 1 ≤ n → StepsLeft n r p → StepsLeft (n - 1) r (one ⊕ r ⊗ p ⊘ float n)
unfolding exp_sum
sum_step r p zero l h = absurd (omega arith)
sum_step r p (suc n) l h = let e : suc n - 1 ≡ n = omega arith in rw e h

pub no_steps_left : (r p : Float) (n : ℕ) → n ≤ 0 → StepsLeft n r p → p ≡ exp_sum 13 r one
unfolding exp_sum
no_steps_left r p zero l h = sym h
no_steps_left r p (suc n) l h = absurd (omega arith)
