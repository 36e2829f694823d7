-- `listing::put_answer` meets its contract: the runs of bytes, one behind the other, are the answer's. Assumes nothing.
use mathlib.Core.List.{List, [], ◌∷◌, ◌++◌}
use Prim.Native.Nat.{ℕ, ◌≤◌}
use native.Mathlib.Omega.{arith}
use lib.ListN.{length}
use Rattle.solver.specs.Listing.{hex_by, space_and_count}
use Rattle.solver.proofs.Laws.Overwritten.{put_both}
use Rattle.solver.proofs.Laws.Lines.{decimal_length, hex_length}
use Rattle.solver.proofs.listing.put_answer.Goals as goal

pub put_space_and_count-end-requires : goal.put_space_and_count-end-requires
put_space_and_count-end-requires c = omega (arith, hex_length 16 c.bits_of.result)

pub put_space_and_count-end-requires-in-Ok : goal.put_space_and_count-end-requires-in-Ok
put_space_and_count-end-requires-in-Ok c = omega (arith, hex_length 16 c.bits_of.result, decimal_length 20 c.in-Ok.a.steps)

pub put_space_and_count-requires : goal.put_space_and_count-requires
put_space_and_count-requires c = omega (arith, hex_length 16 c.bits_of.result, decimal_length 20 c.in-Ok.a.steps, decimal_length 20 c.number.result)

pub returns-in-Ok : goal.returns-in-Ok
returns-in-Ok c =
    let a = c.args in
    let v = c.in-Ok.a in
    let xs₁ : List ℕ = 32 ∷ [] in
    let xs₂ = hex_by 16 c.bits_of.result in
    let xs₃ = space_and_count v.steps in
    let xs₄ = space_and_count c.number.result in
    let xs₅ = space_and_count c.number-in-Ok.result in
    let room : a.at ≤ length a.out.now = omega arith in
    let p₁ = c.put_byte-end.ensures in
    let p₂ = c.put_hex-end.ensures in
    let p₃ = c.put_space_and_count-end.ensures in
    let p₄ = c.put_space_and_count-end-in-Ok.ensures in
    let p₅ = c.put_space_and_count.ensures in
    let q₂ = put_both a.at xs₁ xs₂ a.out.now _ _ _ _ room (p₁.value, p₁.out_after) (p₂.value, p₂.out_after) in
    let q₃ = put_both a.at (xs₁ ++ xs₂) xs₃ a.out.now _ _ _ _ room q₂ (p₃.value, p₃.out_after) in
    let q₄ = put_both a.at (xs₁ ++ xs₂ ++ xs₃) xs₄ a.out.now _ _ _ _ room q₃ (p₄.value, p₄.out_after) in
    let q₅ = put_both a.at (xs₁ ++ xs₂ ++ xs₃ ++ xs₄) xs₅ a.out.now _ _ _ _ room q₄ (p₅.value, p₅.out_after) in
    record { value = rw (c.in-Ok.is, ← c.bits_of.ensures, ← c.number.ensures, ← c.number-in-Ok.ensures) q₅.0; out_after = rw (c.in-Ok.is, ← c.bits_of.ensures, ← c.number.ensures, ← c.number-in-Ok.ensures) q₅.1 }

pub returns-in-Err : goal.returns-in-Err
returns-in-Err c =
    let a = c.args in
    let room : a.at ≤ length a.out.now = omega arith in
    let p₁ = c.put_text-end.ensures in
    let p₂ = c.put_space_and_count-in-Err.ensures in
    let q₂ = put_both a.at (32 ∷ 82 ∷ 69 ∷ 70 ∷ []) (space_and_count c.number-in-Err.result) a.out.now _ _ _ _ room (p₁.value, p₁.out_after) (p₂.value, p₂.out_after) in
    record { value = rw (c.in-Err.is, ← c.number-in-Err.ensures) q₂.0; out_after = rw (c.in-Err.is, ← c.number-in-Err.ensures) q₂.1 }
