-- `book::agrees` meets its contract: bytes are those of a number just where they make that number.
use mathlib.Core.Path.{◌≡◌, refl}
use mathlib.Core.Bool.{Bool, true, false, ◌&&◌}
use mathlib.Core.List.{List}
use Prim.Native.Nat.{ℕ, zero, suc, ◌+◌, ◌*◌, ◌/◌, ◌%◌, ◌^◌, ◌≤◌, ◌<◌}
use native.Mathlib.Omega.{arith}
use native.Mathlib.Nat.{pow-suc}
use borrow.Author.Tests.{eqb-true, eqb-false, eq-eqb, ne_eqb}
use lib.Dec.{eqb}
use lib.Ieee.{binary64, to_bits}
use lib.ListN.{length, get_or}
use lib.Seq.{drop-cons}
use Rattle.std.proofs.Common.{rules}
use Rattle.solver.specs.LittleEndian.{bytes_of, part, number_at}
use Rattle.solver.specs.Book.{same_bytes}
use Rattle.solver.proofs.book.agrees.Goals as goal

-- the lowest byte and what stands above it
module _ (b m n : ℕ) (h : b < 256) where
  digit : (eqb b (n % 256) && eqb m (n / 256)) ≡ eqb (b + 256 * m) n
  digit = low (eqb b (n % 256)) refl
    where
      high : b ≡ n % 256 → (q : Bool) → eqb m (n / 256) ≡ q → q ≡ eqb (b + 256 * m) n
      high e true g = rw (eq-eqb (b + 256 * m) n (omega (arith, eqb-true m (n / 256) g)))
      high e false g = rw (ne_eqb (b + 256 * m) n (λ s. eqb-false m (n / 256) g (omega arith)))

      low : (p : Bool) → eqb b (n % 256) ≡ p → (p && eqb m (n / 256)) ≡ eqb (b + 256 * m) n
      low true e = high (eqb-true b (n % 256) e) (eqb m (n / 256)) refl
      low false e = rw (ne_eqb (b + 256 * m) n (λ s. eqb-false b (n % 256) e (omega arith)))

same_number : (r : List ℕ) (k start n : ℕ) → ((i : ℕ) → get_or r i 0 < 256) → start + k ≤ length r → n < 256 ^ k → same_bytes (part start k r) (bytes_of k n) ≡ eqb (number_at start k r) n
same_number r zero start n b l h = let z : n ≡ 0 = omega arith in rw z
same_number r (suc k) start n b l h =
    let u : n / 256 < 256 ^ k = omega (arith, pow-suc 256 k) in
    rw (drop-cons r start 0 (omega arith), same_number r k (suc start) (n / 256) b (omega arith) u)
    (digit (get_or r start 0) (number_at (suc start) k r) n (b start))

pub returns : goal.returns
returns c =
    let a = c.args in
    let r = a.r.now in
    let bytes : (i : ℕ) → get_or r i 0 < 256 = λ i. search rules in
    let bits = same_number r 8 32 (to_bits binary64 a.a.volatility) bytes (omega arith) (omega (arith, c.bits_of.type_inv, c.bits_of.ensures)) in
    let steps = same_number r 4 44 a.a.steps bytes (omega arith) (omega arith) in
    rw (bits, steps, c.number_at.ensures, c.number_at-2.ensures, c.bits_of.ensures, c.number.ensures, c.number-2.ensures) refl
