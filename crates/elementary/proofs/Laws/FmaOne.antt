-- `fma` by the factor 1 is the plain sum, for every operand. Assumes nothing.
use mathlib.Core.Path.{◌≡◌, refl}
use mathlib.Core.Bool.{Bool, true, false}
use Prim.Native.Nat.{◌*◌}
use native.Mathlib.Nat.{mul-one}
use lib.Ieee.{Float, nan, inf, fin, binary64, unlike, up, down, add, of_bits}
use Rattle.elementary.specs.Ops.{one}
use Rattle.elementary.specs.MulAdd.{fma}

same_sign : (s : Bool) → unlike s false ≡ s
same_sign true = refl
same_sign false = refl

pub fma_one : (x y : Float) → fma binary64 x one y ≡ add binary64 x y
unfolding fma add of_bits
fma_one nan y = refl
fma_one (inf s) y = rw (same_sign s)
fma_one (fin s m e) nan = refl
fma_one (fin s m e) (inf v) = refl
fma_one (fin s m e) (fin v p g) = rw (same_sign s, mul-one (m * up e), mul-one (down e))
