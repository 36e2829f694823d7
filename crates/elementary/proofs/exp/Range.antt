-- Between exp's two ends y is at most 746 in size, so k is a whole number of at most 1078. Assumes nothing.
use mathlib.Core.Path.{◌≡◌, refl, sym, ◌∙◌}
use mathlib.Core.Bool.{true, false, true≢false}
use Prim.Native.Nat.{◌*◌, ◌^◌}
use native.Mathlib.Omega.{arith}
use lib.Dec.{lit≤}
use lib.Pow.{pow_pos}
use borrow.Author.Tests.{ltb-false}
use lib.Ieee.{Float, nan, inf, fin, up, down, lt, ne, neg, of_bits}
use lib.Ieee.Compare.{nan_differs}
use Rattle.elementary.specs.Exp.{LARGEST, LEAST, LOG2_E, exp_k}
use Rattle.elementary.specs.Inside.Exp.{Whole}
use Rattle.elementary.proofs.Laws.Bounds.{small_exact, unsigned, mul_by, add_at_most, floor_whole}
use Rattle.elementary.specs.Inside.Bounds.{AtMost, sized}

pub whole_k : (y : Float) → AtMost y 746 → Whole (exp_k y)
unfolding of_bits
whole_k y h =
    let product = mul_by LOG2_E 6497320848556798 (2 ^ 52) 1077 (pow_pos 52) (refl, refl) (small_exact 1077 (lit≤ tt)) (lit≤ tt) h.side in
    let sum = add_at_most {b = 1} 1078 (small_exact 1078 (lit≤ tt)) (lit≤ tt) product.side (sized _ _ (lit≤ tt)) in
    let w = floor_whole {b = 1078} (lit≤ tt) sum.side in
    record { sign = sum.sign; size = w.0; value = w.1; small = w.2 }

-- below 709.78.., and from -746 on
pub in_range : (y : Float) → ne y y ≡ false → lt LARGEST y ≡ false → lt y LEAST ≡ false → AtMost y 746
unfolding lt neg of_bits
in_range nan a b c = absurd (true≢false (sym nan_differs ∙ a))
in_range (inf true) a b c = absurd (true≢false c)
in_range (inf false) a b c = absurd (true≢false b)
in_range (fin true m e) a b c = unsigned (sized m e (omega (arith, ltb-false (746 * down e) (m * up e * 1) c)))
in_range (fin false m e) a b c = unsigned (sized m e (omega (arith, ltb-false (6243314768165359 * down e) (m * up e * 8796093022208) b)))
