-- What the functions within a packed price's reading and writing answer. Definitions only.
use Rattle.std.specs.Prelude.{cond, ℕ, ◌+◌, ◌*◌, ltb, Float, Result, Ok, Err}
use Rattle.std.specs.Float.{nan, inf, fin}
use Rattle.std.specs.Float.Ieee.{up, down}
use Rattle.market.specs.declared.refusal.Refusal.{Refusal}
use Rattle.market.specs.declared.refusal.Refusal.TheVariants.{Packed}
use Rattle.elementary.specs.Ops.{bits}
use Rattle.market.specs.Packed.{nearest_whole}

-- a digit behind those of a number
abbrev pub digit_behind : ℕ → ℕ → Result ℕ Refusal
digit_behind n digit = cond (ltb 9 digit) (Err Packed) (Ok (n * 10 + digit))

-- from here on 16 digits are needed or more
abbrev pub TOO_LARGE : Float
TOO_LARGE = bits 0x4237_4876_e800_0000  -- 1e11

-- the whole number nearest to a float's ten-thousandths, by its size
unfoldable pub nearest_size : Float → ℕ
nearest_size nan = 0
nearest_size (inf s) = 0
nearest_size (fin s m e) = nearest_whole (m * up e * 10000) (down e)
