-- `sqrts` meets its contract: each root is one of the answers, in order. Assumes nothing.
use Rattle.std.proofs.Common.{rules, ◌≡◌, ◌<◌, ◌≤◌, ◌^◌, ℕ, length, map, slice_index_or}
use mathlib.Core.Path.{sym, ap, subst, ◌∙◌}
use native.Mathlib.Omega.{arith}
use lib.Ieee.{nan, binary64}
use Rattle.std.proofs.lemmas.List.{ext_get_or, get_or-map, length-map}
use Rattle.elementary.specs.declared.sqrt.Aligned.{Aligned}
use Rattle.elementary.specs.Sqrt.{sqrt_of}
use Rattle.elementary.specs.Inside.Sqrt.{significand_at}
use Rattle.elementary.proofs.sqrt.Alignment.{significand_lt}
use Rattle.elementary.proofs.sqrt.sqrts.Goals as goal

pub find_digits-found-requires : goal.find_digits-found-requires
find_digits-found-requires g c =
    let n : length c.args.x ≡ g.row.N = search rules in
    let few : g.row.N ≤ 4 = search rules in
    let each : (i : ℕ) → i < length c.loop-i.aligned → significand_at i c.loop-i.aligned < 2 ^ 54 =
    λ i h.
    subst (λ z. z < 2 ^ 54) (ap (λ (y : Aligned). y.significand) (sym (c.loop-i.invariant.1 i (omega (arith, h, n, c.loop-i.invariant.0, c.loop-i-test.false))))) (significand_lt (slice_index_or c.args.x i nan)) in
    (omega (arith, few), (omega (arith, few), (omega arith, record { each = each })))

pub returns : goal.returns
returns g c =
    let n : length c.args.x ≡ g.row.N = search rules in
    let f = sqrt_of binary64 in
    ext_get_or nan c.loop-i-2.root (map f c.args.x) (c.loop-i-2.invariant.0 ∙ sym (length-map c.args.x f))
    (λ i h.
    c.loop-i-2.invariant.1 i (omega (arith, h, n, c.loop-i-2.invariant.0, c.loop-i-2-test.false)) ∙ sym (get_or-map f c.args.x i nan nan (omega (arith, h, c.loop-i-2.invariant.0))))
