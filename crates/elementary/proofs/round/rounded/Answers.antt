-- `round::rounded` meets its contract: 0 goes by itself, and a sign goes through the rounding (Sign). Assumes nothing.
use mathlib.Core.Path.{◌≡◌, refl, ap, ◌∙◌}
use mathlib.Core.Logic.{◌⊎◌, inl, inr}
use mathlib.Core.Bool.{true, false}
use Prim.Native.Nat.{ℕ, ◌^◌}
use native.Mathlib.Omega.{arith}
use lib.Ieee.{Float, binary64, round, of_bits}
use Rattle.std.specs.Float.MulAdd.{IsRoundable}
use Rattle.elementary.specs.Inside.Round.{Rounds}
use Rattle.elementary.proofs.Laws.Sign as sign
use Rattle.elementary.proofs.round.rounded.Goals as goal
use Rattle.elementary.proofs.round.rounded.Goals.{then-x-eq0, else-x-eq0}

-- only 0 is roundable to 0
no_digits : (u n : ℕ) → IsRoundable 0 u n → n ≡ 0
no_digits u n (inl e) = omega arith
no_digits u n (inr r) = absurd (omega (arith, r.1))

size_is : {r : Float} {v n : ℕ} (e : ℕ) → ((v ≡ 0) × (r ≡ of_bits binary64 0)) ⊎ Rounds r false v e → IsRoundable v (2 ^ e) n → r ≡ round binary64 false n (2 ^ 2404)
size_is {r} {v} {n} e (inl z) R = z.1 ∙ sign.zero_is false ∙ ap (λ (m : ℕ). round binary64 false m (2 ^ 2404)) (omega (arith, no_digits (2 ^ e) n (rw z.0 at R)))
size_is e (inr f) R = f _ R

pub returns-then-x : goal.returns-then-x
returns-then-x c n R =
    let e = size_is c.args.x.e (elim c.if-x-eq0.branch [ then-x-eq0 w ↦ inl (w.if-x-eq0.true, w.r-is) | else-x-eq0 w ↦ inr (λ n R. w.r-is ∙ w.round_positive-r.ensures n R) ]) R in
    rw (e, c.if-x.true) (sign.with_sign binary64 true n (2 ^ 2404))

pub returns-else-x : goal.returns-else-x
returns-else-x c n R =
    let e = size_is c.args.x.e (elim c.if-x-eq0.branch [ then-x-eq0 w ↦ inl (w.if-x-eq0.true, w.r-is) | else-x-eq0 w ↦ inr (λ n R. w.r-is ∙ w.round_positive-r.ensures n R) ]) R in
    rw (e, c.if-x.false) refl
