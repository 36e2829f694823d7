-- `round::shift_right` meets its contract: what is lost is the remainder by 2^d (Sticky). Assumes nothing.
use mathlib.Core.Path.{◌≡◌, refl, sym}
use mathlib.Core.Logic.{inl, inr}
use Prim.Native.Nat.{ℕ, zero, suc, ◌+◌, ◌*◌, ◌/◌, ◌%◌, ◌^◌, ◌≤◌, ◌<◌}
use native.Mathlib.Nat.{div-add-mod', mod-lt}
use native.Mathlib.Numerals.{add-one}
use native.Mathlib.Omega.{arith}
use lib.Count.{under, count_trailing_zeros}
use lib.Pow.{pow_pos, pow_mono, mod-pow-add}
use Rattle.elementary.proofs.Laws.Sticky.{sticky}
use Rattle.elementary.proofs.round.shift_right.Goals as goal

-- the lowest digit by itself
lowest : (n d : ℕ) → n % 2 ^ suc d ≡ n / 2 % 2 ^ d * 2 + n % 2
lowest n d = rw add-one at (mod-pow-add n d 1)

-- the digits below the lowest that is set
nothing_lost : (k n d : ℕ) → d ≤ count_trailing_zeros k n → n % 2 ^ d ≡ 0
unfolding count_trailing_zeros
nothing_lost k n zero h = omega arith
nothing_lost zero n (suc d) h = absurd (omega arith)
nothing_lost (suc k) n (suc d) h = go (n % 2) refl h (nothing_lost k (n / 2) d)
  where
    go : (r : ℕ) → r ≡ n % 2 → suc d ≤ under r (count_trailing_zeros k (n / 2)) → (d ≤ count_trailing_zeros k (n / 2) → n / 2 % 2 ^ d ≡ 0) → n % 2 ^ suc d ≡ 0
    go zero e g f = omega (arith, lowest n d, f (omega arith))
    go (suc r) e g f = absurd (omega arith)

something_lost : (k n d : ℕ) → count_trailing_zeros k n < d → d ≤ k → 0 < n % 2 ^ d
unfolding count_trailing_zeros
something_lost zero n d h l = absurd (omega arith)
something_lost (suc k) n zero h l = absurd (omega arith)
something_lost (suc k) n (suc d) h l = go (n % 2) refl h (λ g. something_lost k (n / 2) d g (omega arith))
  where
    go : (r : ℕ) → r ≡ n % 2 → under r (count_trailing_zeros k (n / 2)) < suc d → (count_trailing_zeros k (n / 2) < d → 0 < n / 2 % 2 ^ d) → 0 < n % 2 ^ suc d
    go zero e g f = omega (arith, lowest n d, f (omega arith))
    go (suc r) e g f = omega (arith, lowest n d)

pub returns-then-d-ge128 : goal.returns-then-d-ge128
returns-then-d-ge128 c = let h = pow_mono {i = 128} {j = c.args.d} c.if-d-ge128.true in inr (refl, omega (arith, h), omega (arith, h))

pub returns-then-v-d : goal.returns-then-v-d
returns-then-v-d c = inl (omega (arith, div-add-mod' c.args.v (2 ^ c.args.d), nothing_lost 128 c.args.v c.args.d c.if-v-d.true))

pub returns-else-v-d : goal.returns-else-v-d
returns-else-v-d c =
    let v = c.args.v in
    let u = 2 ^ c.args.d in
    sticky (v / u) (v % u) u v (something_lost 128 v c.args.d c.if-v-d.false (omega arith)) (mod-lt v (pow_pos c.args.d)) (sym (div-add-mod' v u))
