-- Flags that are 0. Assumes nothing.
use Rattle.std.proofs.Common.{◌≡◌, ℕ, arith}
use Rattle.std.proofs.lemmas.Nat.{le_or_l, le_or_r, and_le_l, and_le_r}
use Rattle.std.specs.Int.Bits.{bit_or, bit_xor, xor_add_and}

pub or_left : (a b : ℕ) → bit_or a b ≡ 0 → a ≡ 0
or_left a b z = omega (arith, le_or_l a b)

pub or_right : (a b : ℕ) → bit_or a b ≡ 0 → b ≡ 0
or_right a b z = omega (arith, le_or_r a b)

pub xor_same : (a b : ℕ) → bit_xor a b ≡ 0 → a ≡ b
xor_same a b z = omega (arith, xor_add_and a b, and_le_l a b, and_le_r a b)
