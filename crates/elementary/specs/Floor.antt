-- IEEE 754's roundToIntegralTowardNegative over the values of `lib.Ieee`. Definitions only.
use Rattle.std.specs.Prelude.{Bool, cond, ℕ, ◌+◌, ◌-◌, ◌*◌, ◌/◌, Float}
use Rattle.std.specs.Float.{nan, inf, fin, Format}
use Rattle.std.specs.Float.Ieee.{up, down, round}

-- The size of the greatest whole number not above ±a / c, for a c above 0: cut where it is not negative, else brought up to the next whole number.
abbrev pub floor_size : Bool → ℕ → ℕ → ℕ
floor_size s a c = cond s ((a + (c - 1)) / c) (a / c)

-- The whole number has the sign of x, which is a zero's too: floor(−0.0) is −0.0, and floor(0.5) is +0. `round` changes nothing here.
unfoldable pub floor_of : Format → Float → Float
unfolding round
floor_of f nan = nan
floor_of f (inf s) = inf s
floor_of f (fin s m e) = round f s (floor_size s (m * up e) (down e)) 1
