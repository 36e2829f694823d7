-- `packed::units_in` meets its contract: each byte has two digits behind those before it, and the last one the sign. Assumes nothing.
use Rattle.std.proofs.Common.{rules}
use mathlib.Core.Path.{◌≡◌, refl, sym, ap, ◌∙◌}
use Prim.Native.Nat.{◌+◌}
use native.Mathlib.Omega.{arith}
use lib.ListN.{drop, get_or}
use Rattle.std.specs.Prelude.{Err}
use Rattle.std.proofs.lemmas.List.{drop_more}
use Rattle.market.specs.Packed.{halves, units_behind, units_in}
use Rattle.market.proofs.Laws.Digits.{lower_refused}
use Rattle.market.proofs.packed.units_in.Goals as goal

pub loop-i-init : goal.loop-i-init
unfolding units_in
loop-i-init c = (omega arith, refl)

pub returns-in_err-size-2 : goal.returns-in_err-size-2
returns-in_err-size-2 c =
    let p = c.args.packed.now in
    let i = c.loop-i.i in
    let here = drop_more p i 0 (omega (arith, c.told-packed, c.loop-i-test.true)) in
    let next = drop_more p (i + 1) 0 (omega (arith, c.told-packed, c.loop-i-test.true)) in
    let refused = lower_refused c.loop-i.size (get_or p i 0) (drop (i + 1) p) _ (sym c.digit_behind.ensures ∙ c.in_ok-size.was) _ _ next _ (sym c.digit_behind-in-loop-i.ensures ∙ c.in_err-size-2.was) in
    let all : Err c.in_err-size-2.field-0.0 ≡ units_in p = refused ∙ sym (c.loop-i.invariant.1 ∙ ap (λ z. units_behind c.loop-i.size (halves z)) here) in
    search (rules, all)
