-- What is in range: how large it is, and that it can be cut in two. Assumes nothing.
use mathlib.Core.Path.{sym, subst}
use mathlib.Core.Bool.{not}
use Prim.Native.Nat.{ℕ, ◌^◌, ◌<◌}
use native.Mathlib.Omega.{arith}
use lib.Dec.{T, lit≤}
use lib.Ieee.{Float, nan, inf, fin, binary64, is_nan, to_bits}
use Rattle.elementary.specs.Inside.Errors.{CanSplit}
use Rattle.prices.specs.Inside.SmallT.{Within, InRanges}
use Rattle.prices.proofs.Laws.Sizes.{below}

number : (x : Float) → to_bits binary64 x < 0x4000_0000_0000_0000 → T (not (is_nan x))
unfolding to_bits is_nan
number nan h = absurd (omega arith)
number (inf s) h = tt
number (fin s m e) h = tt

module _ {a h2 t2 : Float} (r : InRanges a h2 t2) where
  pub a_within : Within a 1
  a_within = below a 1 (subst T (sym r.a_fits) tt) (lit≤ tt) r.high

  pub square_within : Within h2 34
  square_within = below h2 34 (subst T (sym r.square_fits) tt) (lit≤ tt) r.square

  pub power_within : Within t2 0
  power_within = below t2 0 (subst T (sym r.power_fits) tt) (lit≤ tt) r.power

  pub can_split : (p q : ℕ) → p < 2 ^ 19 → q < 2 ^ 19 → CanSplit a p q
  can_split p q l m = record { number = number a r.high; low = r.low; high = r.high; factor = l; addend = m }
