-- Numbers and floats as little-endian bytes of a list, written and read. Definitions only.
use Rattle.std.specs.Prelude.{List, [], ◌∷◌, ◌++◌, ℕ, zero, suc, ◌+◌, ◌*◌, ◌/◌, ◌%◌, length, take, drop, Float}
use Rattle.std.specs.Float.{binary64}
use Rattle.std.specs.Float.Ieee.{to_bits, of_bits}

-- the k lowest bytes of a number, the lowest first
abbrev pub bytes_of : ℕ → ℕ → List ℕ
bytes_of zero n = []
bytes_of (suc k) n = n % 256 ∷ bytes_of k (n / 256)

-- a float's bits as 8 bytes
abbrev pub float_bytes : Float → List ℕ
float_bytes x = bytes_of 8 (to_bits binary64 x)

-- the number whose bytes these are, the lowest first
abbrev pub number_from : List ℕ → ℕ
number_from [] = 0
number_from (b ∷ bs) = b + 256 * number_from bs

-- so many bytes from a place on
abbrev pub part : ℕ → ℕ → List ℕ → List ℕ
part at size bytes = take size (drop at bytes)

-- the number that stands there
abbrev pub number_at : ℕ → ℕ → List ℕ → ℕ
number_at at size bytes = number_from (part at size bytes)

-- the float that stands there
abbrev pub float_at : ℕ → List ℕ → Float
float_at at bytes = of_bits binary64 (number_at at 8 bytes)

-- the bytes bs in the place of those that stand from a place on
abbrev pub overwritten : ℕ → List ℕ → List ℕ → List ℕ
overwritten at bs old = take at old ++ (bs ++ drop (at + length bs) old)
