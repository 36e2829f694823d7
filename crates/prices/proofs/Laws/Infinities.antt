-- std's test of an infinity is the definition's, by its size. Assumes nothing.
use mathlib.Core.Path.{◌≡◌, refl}
use lib.Ieee.{Float, nan, inf, fin, eq}
use Rattle.std.specs.Float.{float_is_infinite}
use Rattle.elementary.specs.Methods.{abs_of}
use Rattle.prices.specs.RationalCubic.{is_infinite}

pub infinite : (x : Float) → float_is_infinite x ≡ is_infinite x
unfolding float_is_infinite eq abs_of
infinite nan = refl
infinite (inf s) = refl
infinite (fin s m e) = refl
