-- `ln::ln_inner` meets its contract: the place and the significand of y taken apart are the definition's. Assumes nothing.
use mathlib.Core.Path.{◌≡◌, sym, ap, ◌∙◌, subst}
use mathlib.Core.Bool.{Bool, false}
use lib.Ieee.{Float, binary64, fits}
use Prim.Native.Nat.{ℕ, ◌+◌, ◌-◌, ◌*◌, ◌^◌, ◌<◌, ◌≤◌}
use native.Mathlib.Omega.{arith}
use lib.Dec.{T, lit≤}
use lib.Ieee.Exact.{HasValue}
use lib.Ieee.Positive.{positive}
use Rattle.elementary.specs.Inside.Round.{Digits, PartsOf}
use Rattle.elementary.specs.Ln.{ln_at, place_of, significand_of}
use Rattle.elementary.proofs.ln.Steps.{difference, unit}
use Rattle.elementary.proofs.ln.Ends.{some_digits}
use Rattle.elementary.proofs.ln.Place.{place_is, significand_is, in_upper_part, in_lower_part}
use Rattle.elementary.proofs.ln.ln_inner.Goals as goal
use Rattle.elementary.proofs.ln.ln_inner.Goals.{then-m, else-m}

back : (m : ℕ) → 2 ^ 52 ≤ m → 2 ^ 52 + (m - 2 ^ 52) ≡ m
back m h = omega arith

-- y taken apart
module _ {y : Float} {s : Bool} {m e : ℕ} (p : T (positive y)) (parts : PartsOf y s m e) (d : 0 < m → Digits m e) where
  digits : Digits m e
  digits = d (some_digits y s m e p parts)

  place : e - 12 ≡ place_of y
  place = place_is y s m e parts digits

  significand : (r : Float) → T (fits binary64 r) → HasValue r false ((2 ^ 52 + (m - 2 ^ 52)) * 2 ^ 2352) (2 ^ 2404) → r ≡ significand_of y
  significand r f v = significand_is y s m e parts digits r f (subst (λ (w : ℕ). HasValue r false (w * 2 ^ 2352) (2 ^ 2404)) (back m digits.lead) v)

pub overflow_sub-t : goal.overflow_sub-t
overflow_sub-t c = (digits c.requires c.parts_of-t.ensures c.parts_of-t.result.has_digits).lead

pub overflow_sub-place : goal.overflow_sub-place
overflow_sub-place c = (digits c.requires c.parts_of-t.ensures c.parts_of-t.result.has_digits).least

pub returns : goal.returns
returns c =
    let j = c.before.before in
    let a = j.before.before in
    let d = a.before.before in
    let g = digits c.requires c.parts_of-t.ensures c.parts_of-t.result.has_digits in
    c.ln_near_one.ensures
    ∙ ap (ln_at j.if-m.m) (rw unit (difference j.if-m.place 1074 (elim j.if-m.branch [ then-m w ↦ omega arith | else-m w ↦ omega arith ]) (lit≤ tt)))
    ∙ (elim j.if-m.branch [
      | then-m w ↦ in_upper_part d.args.y a.float_of_fields-m.result j.if-m.m (d.parts_of-t.result.e - 12) j.if-m.place (significand c.requires c.parts_of-t.ensures c.parts_of-t.result.has_digits a.float_of_fields-m.result (subst T (sym a.float_of_fields-m.type_inv) tt) a.float_of_fields-m.ensures) (place c.requires c.parts_of-t.ensures c.parts_of-t.result.has_digits) w.if-m.true w.m-is w.place-is
      | else-m w ↦ in_lower_part d.args.y a.float_of_fields-m.result j.if-m.m (d.parts_of-t.result.e - 12) j.if-m.place (significand c.requires c.parts_of-t.ensures c.parts_of-t.result.has_digits a.float_of_fields-m.result (subst T (sym a.float_of_fields-m.type_inv) tt) a.float_of_fields-m.ensures) (place c.requires c.parts_of-t.ensures c.parts_of-t.result.has_digits) w.if-m.false w.m-is w.place-is
    ])
