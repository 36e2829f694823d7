-- What packed prices are promised to be: read and written with one rounding each, and back as they came. Statements only.
use Rattle.std.specs.Prelude.{◌≡◌, Bool, true, not, ◌&&◌, List, ℕ, ◌+◌, ◌-◌, ◌*◌, ◌%◌, ◌^◌, ◌≤◌, ◌<◌, T, ltb, length, Float, Ok, Err, ℤ}
use Rattle.std.specs.Float.{fin, binary64}
use Rattle.std.specs.Float.Ieee.{up, down, le, fits}
use Rattle.std.specs.Float.Ieee.Scale.{finite}
use Rattle.elementary.specs.Ops.{bits}
use Rattle.elementary.specs.Methods.{abs_of}
use Rattle.elementary.specs.Promises.{Rounded}
use Rattle.market.specs.declared.packed.Units.{Units}
use Rattle.market.specs.declared.refusal.Refusal.{Refusal}
use Rattle.market.specs.declared.refusal.Refusal.TheVariants.{Packed, Price}
use Rattle.market.specs.Packed.{units_in, price_of, read_of, units_of, packed_of, write_of}

-- ---- 8 bytes

-- units that 8 bytes have: 15 digits, and zero has no minus
pub record AreUnits (u : Units) : Type 0 where
  pub digits : u.size < 10 ^ 15
  pub minus : u.minus ≡ true → 0 < u.size

-- The 8 bytes that are accepted, and the units that they have, are one and the same.
pub record PackedAreUnits : Type 0 where
  -- All units have 8 bytes, from which they are read.
  pub all : (u : Units) → AreUnits u → (length (packed_of u) ≡ 8) × (units_in (packed_of u) ≡ Ok u)
  -- No other 8 bytes are accepted,
  pub no_other : (packed : List ℕ) (u : Units) → length packed ≡ 8 → units_in packed ≡ Ok u → AreUnits u × (packed_of u ≡ packed)
  -- and what refuses them is 36.
  pub refused : (packed : List ℕ) (refusal : Refusal) → units_in packed ≡ Err refusal → refusal ≡ Packed

-- What is read is the units over 10,000, correctly rounded.
abbrev pub ReadIsRounded : Type 0
ReadIsRounded = (packed : List ℕ) (u : Units) → units_in packed ≡ Ok u → (read_of packed ≡ Ok (price_of u)) × Rounded binary64 u.minus u.size 10000 (price_of u)

-- Every 8 bytes that are accepted come back after reading and writing.
abbrev pub PackedComesBack : Type 0
PackedComesBack = (packed before : List ℕ) (price : Float) → length packed ≡ 8 → read_of packed ≡ Ok price → write_of price before ≡ record { answer = Ok tt; packed = packed }

-- ---- floats

-- how far two numbers are apart
abbrev pub apart : ℕ → ℕ → ℕ
apart a b = a - b + (b - a)

-- n is a whole number nearest to a / c. Distances are taken c times as large: that of n is the one of n * c and a.
pub record NearestWhole (a c n : ℕ) : Type 0 where
  -- No whole number is nearer.
  pub nearest : (k : ℕ) → apart (n * c) a ≤ apart (k * c) a
  -- Where another one is as near, n is even.
  pub even : (k : ℕ) → (k ≡ n → ⊥) → apart (k * c) a ≡ apart (n * c) a → n % 2 ≡ 0

-- ±m × 2^e, times 10,000, is a fraction.
abbrev pub Nearest : ℕ → ℤ → ℕ → Type 0
Nearest m e n = NearestWhole (m * up e * 10000) (down e) n

-- What is written of each float, and which are refused.
pub record WriteIsNearest : Type 0 where
  -- What is written of a finite price is the nearest whole number of ten-thousandths. (One of the other sign is farther, or as far, and zero has no sign.)
  pub written : (s : Bool) (m : ℕ) (e : ℤ) (u : Units) → units_of (fin s m e) ≡ Ok u → Nearest m e u.size × (u.minus ≡ (s && ltb 0 u.size))
  -- It is refused where that has more than 15 digits,
  pub refused : (s : Bool) (m : ℕ) (e : ℤ) (n : ℕ) → Nearest m e n → 10 ^ 15 ≤ n → units_of (fin s m e) ≡ Err Price
  -- and only there.
  pub accepted : (s : Bool) (m : ℕ) (e : ℤ) (n : ℕ) → Nearest m e n → n < 10 ^ 15 → units_of (fin s m e) ≡ Ok (record { minus = s && ltb 0 n; size = n })
  -- An infinity and a NaN are refused.
  pub no_number : (x : Float) → T (not (finite x)) → units_of x ≡ Err Price
  -- There is one nearest whole number.
  pub one : (a c n k : ℕ) → 0 < c → NearestWhole a c n → NearestWhole a c k → n ≡ k

-- the largest price that is written, 999,999,999,999,999.4 ten-thousandths
abbrev pub LARGEST_PRICE : Float
LARGEST_PRICE = bits 0x4237_4876_e7ff_fffc  -- 99999999999.99994

-- Every float up to it is written, of either sign, and no other.
pub record WrittenUpToLargest : Type 0 where
  pub written : (x : Float) → T (fits binary64 x) → T (le (abs_of x) LARGEST_PRICE) → (u : Units) × (units_of x ≡ Ok u)
  pub no_other : (x : Float) → T (fits binary64 x) → T (not (le (abs_of x) LARGEST_PRICE)) → units_of x ≡ Err Price
