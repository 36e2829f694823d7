-- The definitions at closed inputs, computed: lists of calls from an empty board, and packed prices. Assumes nothing.
use mathlib.Core.Path.{◌≡◌, refl}
use mathlib.Core.Bool.{true, false}
use mathlib.Core.List.{List, [], ◌∷◌}
use Prim.Native.Nat.{ℕ}
use lib.Dec.{T}
use lib.Ieee.{binary64, of_bits, of_int, nan, is_nan, fits, lt, mul, round}
use Rattle.std.specs.Prelude.{Ok, Err, Some, None}
use Rattle.market.specs.declared.board.LiveQuote.{LiveQuote}
use Rattle.elementary.specs.Ops.{◌⊗◌, float, half}
use Rattle.market.specs.declared.refusal.Refusal.TheVariants.{Volatility, SeriesLive, Packed, Price}
use Rattle.market.specs.Board.{arrival_check}
use Rattle.market.specs.Packed.{units_in, price_of, read_of, units_of, packed_of}
use Rattle.market.specs.Promises.Board.{arrive, leave, highest, arrival, departure, shown, answers_after}

abbrev quote : ℕ → ℕ → LiveQuote
quote series bits = record { series = series; volatility = of_bits binary64 bits }

-- NaN is a volatility that may come
nan_fits : T (fits binary64 nan)
unfolding fits
nan_fits = tt

-- of both zeros the earlier one is shown, with its own sign
zeros : answers_after [] (highest ∷ arrive (quote 7 0x8000_0000_0000_0000) ∷ arrive (quote 8 0) ∷ highest ∷ [])
    ≡ (shown None ∷ arrival (Ok tt) ∷ arrival (Ok tt) ∷ shown (Some (quote 7 0x8000_0000_0000_0000)) ∷ [])
unfolding arrival_check is_nan lt of_bits
zeros = refl

-- the earliest of equals leaves, and the next one is shown; it leaves once
equals : answers_after [] (arrive (quote 7 0x3ff0_0000_0000_0000) ∷ arrive (quote 8 0x3ff0_0000_0000_0000) ∷ leave 7 ∷ leave 7 ∷ highest ∷ [])
    ≡ (arrival (Ok tt) ∷ arrival (Ok tt) ∷ departure true ∷ departure false ∷ shown (Some (quote 8 0x3ff0_0000_0000_0000)) ∷ [])
unfolding arrival_check is_nan lt of_bits
equals = refl

-- a series that is live does not come again, and a NaN is told before that
refusals : answers_after [] (arrive (quote 7 0) ∷ arrive (quote 7 0x3ff0_0000_0000_0000) ∷ arrive (quote 7 0x7ff8_0000_0000_0001) ∷ highest ∷ [])
    ≡ (arrival (Ok tt) ∷ arrival (Err SeriesLive) ∷ arrival (Err Volatility) ∷ shown (Some (quote 7 0)) ∷ [])
unfolding arrival_check is_nan lt of_bits
refusals = refl

-- ---- packed prices
abbrev ends : ℕ → ℕ → List ℕ
ends a b = 0 ∷ 0 ∷ 0 ∷ 0 ∷ 0 ∷ 0 ∷ a ∷ b ∷ []

-- 0.0345 and -0.0001 are read, each the nearest float; a digit above 9, another sign and zero with D are refused
reads : (read_of (ends 0x34 0x5C) ≡ Ok (of_bits binary64 0x3fa1_a9fb_e76c_8b44))
    × (read_of (ends 0 0x1D) ≡ Ok (of_bits binary64 0xbf1a_36e2_eb1c_432d))
    × (read_of (ends 0 0xAC) ≡ Err Packed)
    × (read_of (ends 0 0x1B) ≡ Err Packed)
    × (read_of (ends 0 0x0D) ≡ Err Packed)
unfolding read_of units_in price_of round of_bits
reads = (refl, refl, refl, refl, refl)

-- 312.5 and 937.5 ten-thousandths are written to the even one; 0.00005 as a float is above the middle, though its product with 10,000 as floats is 0.5; a tenth of
-- one below zero is zero
writes : (units_of (of_bits binary64 0x3fa0_0000_0000_0000) ≡ Ok (record { minus = false; size = 312 }))
    × (units_of (of_bits binary64 0x3fb8_0000_0000_0000) ≡ Ok (record { minus = false; size = 938 }))
    × (units_of (of_bits binary64 0x3f0a_36e2_eb1c_432d) ≡ Ok (record { minus = false; size = 1 }))
    × (of_bits binary64 0x3f0a_36e2_eb1c_432d ⊗ float 10000 ≡ half)
    × (units_of (of_bits binary64 0xbee4_f8b5_88e3_68f1) ≡ Ok (record { minus = false; size = 0 }))
    × (units_of (of_bits binary64 0x4237_4876_e7ff_fffc) ≡ Ok (record { minus = false; size = 999999999999999 }))
    × (units_of (of_bits binary64 0x4237_4876_e7ff_fffd) ≡ Err Price)
unfolding units_of of_bits of_int mul round
writes = (refl, refl, refl, refl, refl, refl, refl)

-- the bytes of -12.5
bytes : packed_of (record { minus = true; size = 125000 }) ≡ 0 ∷ 0 ∷ 0 ∷ 0 ∷ 0x01 ∷ 0x25 ∷ 0x00 ∷ 0x0D ∷ []
unfolding packed_of
bytes = refl
