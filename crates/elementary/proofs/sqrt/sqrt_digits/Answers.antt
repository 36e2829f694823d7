-- `sqrt_digits` meets its contract: its digits are the state's, without the zeros behind them. Assumes nothing.
use Rattle.std.proofs.Common.{rules, ◌≡◌, ◌<◌, ◌≤◌, ◌-◌, ◌*◌, ◌/◌, ◌^◌, ℕ, [], ◌∷◌}
use mathlib.Core.Path.{refl, ap, ◌∙◌}
use native.Mathlib.Omega.{arith}
use native.Mathlib.Nat.{pow-suc, mul-div_cancel, mul_assoc, mul_comm, mul_left_comm}
use Prim.Native.Nat.{suc}
use lib.Pow.{pow_pos}
use Rattle.elementary.specs.Sqrt.{first_digits}
use Rattle.elementary.specs.Inside.Sqrt.{significand_at, digits_at}
use Rattle.elementary.proofs.sqrt.Alignment.{significand_lt}
use Rattle.elementary.proofs.sqrt.sqrt_digits.Goals as goal

pub find_digits-found-requires : goal.find_digits-found-requires
find_digits-found-requires c =
    let a = c.sqrt_aligned.result in
    let l : a.significand < 2 ^ 54 = rw c.sqrt_aligned.ensures (significand_lt c.args.x) in
    let each : (i : ℕ) → i < 1 → significand_at i (a ∷ []) < 2 ^ 54 = λ i h. let e : i ≡ 0 = omega arith in rw e l in
    (omega arith, (omega arith, (search rules, record { each = each })))

-- d followed by zeros, doubled, without them
shifted : (d t s : ℕ) → t ≤ 53 → s ≡ 2 * (d * 2 ^ (53 - t)) → s / 2 ^ (54 - t) ≡ d
shifted d t s h e =
    let i : 54 - t ≡ suc (53 - t) = omega arith in
    let w : s ≡ d * 2 ^ (54 - t) = e ∙ rw (i, pow-suc 2 (53 - t)) (simp (mul_assoc, mul_comm, mul_left_comm)) in
    ap (λ (z : ℕ). z / 2 ^ (54 - t)) w ∙ mul-div_cancel d (pow_pos (54 - t))

pub returns : goal.returns
returns c =
    let t = c.min-turns.result in
    let h : t ≤ 53 = search rules in
    shifted (first_digits t c.sqrt_aligned.result.significand) t (digits_at 0 c.find_digits-found.result).doubled h (c.find_digits-found.ensures.each 0 (omega arith)).digits
    ∙ rw (c.min-turns.ensures, c.sqrt_aligned.ensures) refl
