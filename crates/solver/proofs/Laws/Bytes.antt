-- What std's conversions of numbers to bits and bytes give, in the words of the layout. Theorems.
use mathlib.Core.Path.{◌≡◌, refl, ◌∙◌}
use mathlib.Core.Bool.{Bool, true, false}
use mathlib.Core.List.{List, [], ◌∷◌, ◌++◌}
use Prim.Native.Nat.{ℕ, zero, suc, ◌+◌, ◌^◌}
use lib.Dec.{ltb}
use lib.IntN.{ℤ, pos, negsuc}
use native.Mathlib.Omega.{arith}
use lib.ListN.{length, replicate, length-append, length-replicate}
use native.Mathlib.Nat.{div-div-eq-div-mul}
use Rattle.std.specs.Int.{w32, w64, cast_unsigned, cast_signed, to_le_bytes, from_le_bytes}
use Rattle.solver.specs.LittleEndian.{bytes_of, number_from}
use Rattle.solver.specs.Solve.{steps_of}
use Rattle.solver.specs.Book.{limit_bits, steps_from}

pub limit_bits_cast : (limit : ℤ) → cast_unsigned w32 limit ≡ limit_bits limit
limit_bits_cast (pos n) = refl
limit_bits_cast (negsuc n) = refl

pub steps_cast : (bits : ℕ) → steps_of (cast_signed w32 bits) ≡ steps_from bits
steps_cast bits = go (ltb bits (2 ^ 31)) refl
  where
    go : (b : Bool) → ltb bits (2 ^ 31) ≡ b → steps_of (cast_signed w32 bits) ≡ steps_from bits
    go true e = rw e
    go false e = rw e

pub four_bytes : (n : ℕ) → to_le_bytes w32 n ≡ bytes_of 4 n
four_bytes n = simp div-div-eq-div-mul

number_of_eight : (bs : List ℕ) → length bs ≡ 8 → from_le_bytes w64 bs ≡ number_from bs
number_of_eight (a ∷ b ∷ c ∷ d ∷ e ∷ f ∷ g ∷ h ∷ []) l = omega arith
number_of_eight bs l = absurd (omega arith)

-- zeros above a number's bytes leave it
number_above_zeros : (bs : List ℕ) (k : ℕ) → number_from (bs ++ replicate k 0) ≡ number_from bs
number_above_zeros [] zero = refl
number_above_zeros [] (suc k) = rw (number_above_zeros [] k)
number_above_zeros (b ∷ bs) k = rw (number_above_zeros bs k)

pub number_padded : (bs zs : List ℕ) (k : ℕ) → zs ≡ bs ++ replicate k 0 → length bs + k ≡ 8 → from_le_bytes w64 zs ≡ number_from bs
number_padded bs zs k e l = number_of_eight zs (rw (e, length-append, length-replicate) l) ∙ rw e (number_above_zeros bs k)
