-- A sign on a rounded fraction. Assumes nothing.
use mathlib.Core.Path.{◌≡◌, refl, sym, ap, ◌∙◌}
use mathlib.Core.Bool.{Bool, true, false, cond}
use Prim.Native.Nat.{ℕ, zero, suc, ◌+◌, ◌*◌, ◌^◌}
use lib.Dec.{ltb}
use lib.Ieee.{inf, Format, binary64, prec, emax, low, odd, units, round, neg, of_bits}
use lib.Ieee.Fits.{round_is}

neg_odd : (d q k l : ℕ) → neg (odd d false q k l) ≡ odd d true q k l
unfolding neg odd
neg_odd d zero k l = refl
neg_odd d (suc q) k l = refl

neg_units : (f : Format) (q k : ℕ) → neg (units f false q k) ≡ units f true q k
unfolding units neg
neg_units f q k = go (ltb (q * 2 ^ k) (2 ^ (low f + suc (emax f))))
  where
    go : (b : Bool) → neg (cond b (odd (suc (prec f)) false q k (low f)) (inf false)) ≡ cond b (odd (suc (prec f)) true q k (low f)) (inf true)
    go true = neg_odd (suc (prec f)) q k (low f)
    go false = refl

pub with_sign : (f : Format) (s : Bool) (num den : ℕ) → cond s (neg (round f false num den)) (round f false num den) ≡ round f s num den
with_sign f false num den = refl
with_sign f true num den = ap neg (round_is f false num den) ∙ neg_units f _ _ ∙ sym (round_is f true num den)

pub zero_is : (s : Bool) → cond s (neg (of_bits binary64 0)) (of_bits binary64 0) ≡ round binary64 s 0 (2 ^ 2404)
unfolding neg of_bits round
zero_is true = refl
zero_is false = refl
