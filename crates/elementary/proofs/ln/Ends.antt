-- What ln's tests leave over is finite and above 0. Assumes nothing.
use mathlib.Core.Path.{◌≡◌, sym, ◌∙◌}
use mathlib.Core.Bool.{Bool, true, false, true≢false}
use Prim.Native.Nat.{ℕ, ◌*◌, ◌^◌, ◌<◌}
use native.Mathlib.Omega.{arith}
use borrow.Author.Tests.{ltb-true}
use lib.Dec.{T, lt→ltb}
use lib.Pow.{pow_pos}
use lib.Ieee.{Float, nan, inf, fin, up, down, lt, le, eq, ne, of_bits}
use lib.Ieee.Positive.{positive, own_value, value_pos, first_pos}
use Rattle.elementary.specs.Ops.{+0}
use Rattle.elementary.specs.Inside.Round.{PartsOf}
use Rattle.elementary.proofs.Laws.Places.{sign_of_lem}
use Rattle.elementary.proofs.Laws.Compare.{lt_of_not_le}

pub above : (y : Float) → ne y y ≡ false → lt y +0 ≡ false → eq y +0 ≡ false → eq y (inf false) ≡ false → T (positive y)
unfolding ne lt le eq of_bits
above nan n l z t = absurd (true≢false n)
above (inf true) n l z t = absurd (true≢false l)
above (inf false) n l z t = absurd (true≢false t)
above (fin true m e) n l z t = absurd (true≢false (sym (lt_of_not_le +0 (fin true m e) tt tt (rw (l, z)))))
above (fin false m e) n l z t =
    let h = ltb-true (0 * 1 * down e) (m * up e * 1) (lt_of_not_le +0 (fin false m e) tt tt (rw (l, z))) in
    lt→ltb 0 m (first_pos m (up e) (omega arith))

-- so it has digits
pub some_digits : (y : Float) (s : Bool) (m i : ℕ) → T (positive y) → PartsOf y s m i → 0 < m
some_digits y s m i p D =
    let e : s ≡ false = sym (sign_of_lem y s _ _ D.value) ∙ sign_of_lem y false _ _ (own_value y p) in
    first_pos m (2 ^ i) (value_pos y (m * 2 ^ i) (2 ^ 1138) p (pow_pos 1138) (rw e at D.value))
