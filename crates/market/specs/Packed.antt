-- Packed decimal prices: 8 bytes with 15 decimal digits, two a byte, the most significant first, and in the last four bits the sign. The unit is one
-- ten-thousandth. What reading and writing answer, for any 8 bytes and every float. Definitions only.
use Rattle.std.specs.Prelude.{Bool, true, false, ◌&&◌, cond, List, [], ◌∷◌, ℕ, zero, suc, ◌+◌, ◌*◌, ◌/◌, ◌%◌, ◌^◌, ltb, eqb, Float, Result, Ok, Err}
use Prim.Native.Nat.{compare}
use Rattle.std.specs.Float.{nan, inf, fin, binary64}
use Rattle.std.specs.Float.Ieee.{up, down, round, nearest}
use Rattle.market.specs.declared.packed.Units.{Units}
use Rattle.market.specs.declared.refusal.Refusal.{Refusal}
use Rattle.market.specs.declared.refusal.Refusal.TheVariants.{Packed, Price}

-- ---- read

-- the halves of some bytes, of four bits each, the upper one first
abbrev pub halves : List ℕ → List ℕ
halves [] = []
halves (b ∷ bs) = b / 16 ∷ b % 16 ∷ halves bs

-- A size with its sign: C is plus and D minus, but zero has no minus.
abbrev pub signed_units : ℕ → ℕ → Result Units Refusal
signed_units sign size =
    cond (eqb sign 0xC) (Ok (record { minus = false; size = size }))
    (cond (eqb sign 0xD && ltb 0 size) (Ok (record { minus = true; size = size }))
    (Err Packed))

-- the digits of some halves behind those of a number; the last half is the sign
abbrev pub units_behind : ℕ → List ℕ → Result Units Refusal
units_behind n [] = Err Packed
units_behind n (sign ∷ []) = signed_units sign n
units_behind n (digit ∷ h ∷ hs) = cond (ltb 9 digit) (Err Packed) (units_behind (n * 10 + digit) (h ∷ hs))

-- the units of 8 bytes, or 36
unfoldable pub units_in : List ℕ → Result Units Refusal
units_in packed = units_behind 0 (halves packed)

-- the float nearest to so many ten-thousandths: one rounding of the fraction
unfoldable pub price_of : Units → Float
price_of u = round binary64 u.minus u.size 10000

-- a price, or what refuses its bytes
abbrev pub price_by : Result Units Refusal → Result Float Refusal
price_by (Ok u) = Ok (price_of u)
price_by (Err refusal) = Err refusal

-- read
unfoldable pub read_of : List ℕ → Result Float Refusal
read_of packed = price_by (units_in packed)

-- ---- write

-- the whole number nearest to a / c, ties to even
abbrev pub nearest_whole : ℕ → ℕ → ℕ
nearest_whole a c = nearest (a / c) (compare (a % c * 2) c)

-- What is written of a sign and a size: no more than 15 digits, and of zero no minus.
abbrev pub written : Bool → ℕ → Result Units Refusal
written minus size = cond (ltb size (10 ^ 15)) (Ok (record { minus = minus && ltb 0 size; size = size })) (Err Price)

-- the nearest ten-thousandth, of the exact number of them; or 37
unfoldable pub units_of : Float → Result Units Refusal
units_of nan = Err Price
units_of (inf s) = Err Price
units_of (fin s m e) = written s (nearest_whole (m * up e * 10000) (down e))

-- so many of a number's last digits, the most significant first, and what stands behind them
abbrev pub digits_before : ℕ → ℕ → List ℕ → List ℕ
digits_before zero n rest = rest
digits_before (suc k) n rest = digits_before k (n / 10) (n % 10 ∷ rest)

-- the bytes of some halves
abbrev pub bytes_from : List ℕ → List ℕ
bytes_from (upper ∷ lower ∷ hs) = (upper * 16 + lower) ∷ bytes_from hs
bytes_from hs = []

-- the 8 bytes
unfoldable pub packed_of : Units → List ℕ
packed_of u = bytes_from (digits_before 15 u.size (cond u.minus 0xD 0xC ∷ []))

-- what writing answers, and the bytes after it
pub record Writing : Type 0 where
  pub answer : Result Unit Refusal
  pub packed : List ℕ

-- by the units; a refusal leaves the bytes as they were
abbrev pub writing_by : Result Units Refusal → List ℕ → Writing
writing_by (Ok u) before = record { answer = Ok tt; packed = packed_of u }
writing_by (Err refusal) before = record { answer = Err refusal; packed = before }

-- write
unfoldable pub write_of : Float → List ℕ → Writing
write_of price before = writing_by (units_of price) before
