-- `packed::nearest_shifted` meets its contract: almost a half is added, and the digit before decides at a tie. Assumes nothing.
use mathlib.Core.Path.{◌≡◌, sym, ap, ◌∙◌}
use Prim.Native.Nat.{ℕ, suc, ◌+◌, ◌-◌, ◌*◌, ◌/◌, ◌%◌, ◌^◌, ◌≤◌, ◌<◌}
use native.Mathlib.Nat.{pow-suc, mul_comm, mod-eq_of_lt}
use native.Mathlib.Omega.{arith}
use lib.Pow.{pow_pos, pow_mono}
use Rattle.market.specs.Packed.{nearest_whole}
use Rattle.market.proofs.Laws.Whole.{shifted}
use Rattle.market.proofs.packed.nearest_shifted.Goals as goal

module _ (places : ℕ) (least : 1 ≤ places) (room : places < 128) where
  abbrev half : ℕ
  half = 2 ^ (places - 1)

  half_le : half ≤ 2 ^ 126
  half_le = pow_mono {i = places - 1} {j = 126} (omega arith)

  -- as the code writes it
  half_is : 1 * half % 2 ^ 128 ≡ half
  half_is = omega (arith, mod-eq_of_lt {n = 1 * half} {m = 2 ^ 128} (omega (arith, half_le)))

  unit_is : 2 * half ≡ 2 ^ places
  unit_is = let e : suc (places - 1) ≡ places = omega arith in mul_comm 2 half ∙ sym (pow-suc 2 (places - 1)) ∙ ap (λ (z : ℕ). 2 ^ z) e

  nearest : (n : ℕ) → (n + (half - 1) + n / 2 ^ places % 2) / 2 ^ places ≡ nearest_whole n (2 ^ places)
  nearest n = rw unit_is at (shifted n half (pow_pos (places - 1)))

pub overflow_add-result : goal.overflow_add-result
overflow_add-result c =
    let r = c.requires in
    rw (half_is c.args.places r.places_low r.places_high) (record { fits = omega (arith, r.number_bound, half_le c.args.places r.places_low r.places_high) })

pub overflow_add-result-2 : goal.overflow_add-result-2
overflow_add-result-2 c =
    let r = c.requires in
    rw (half_is c.args.places r.places_low r.places_high) (record { fits = omega (arith, r.number_bound, half_le c.args.places r.places_low r.places_high) })

pub returns : goal.returns
returns c =
    let r = c.requires in
    rw (half_is c.args.places r.places_low r.places_high) (nearest c.args.places r.places_low r.places_high c.args.number)
