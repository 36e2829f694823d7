-- `listing::put_hex` meets its contract: no digit, or those above and then the last. Assumes nothing.
use mathlib.Core.Path.{◌≡◌}
use mathlib.Core.List.{List, [], ◌∷◌}
use Prim.Native.Nat.{ℕ, ◌-◌, ◌/◌, ◌%◌, ◌≤◌}
use native.Mathlib.Omega.{arith}
use lib.ListN.{length}
use Rattle.solver.specs.Listing.{hex_digit, hex_by}
use Rattle.solver.proofs.Laws.Overwritten.{Put, put_both, put_none}
use Rattle.solver.proofs.Laws.Lines.{hex_length}
use Rattle.solver.proofs.listing.Digits.{not_zero, hex_none, hex_more}
use Rattle.solver.proofs.listing.+put_hex.Goals as goal

module _ (at k n : ℕ) (old : List ℕ) where
  none : k ≡ 0 → Put at (hex_by k n) old at old
  none e = rw (hex_none k n e) (put_none at old)

  more : (end : ℕ) (mid : List ℕ) (digit last : ℕ) (new : List ℕ) → (k ≡ 0 → ⊥) → at ≤ length old → digit ≡ hex_digit (n % 16) → Put at (hex_by (k - 1) (n / 16)) old end mid
      → Put end (digit ∷ []) mid last new → Put at (hex_by k n) old last new
  more end mid digit last new e room d p q =
      rw (hex_more k n e, ← d) (put_both at (hex_by (k - 1) (n / 16)) (digit ∷ []) old end mid last new room p q)

pub returns-then-digits-eq0 : goal.returns-then-digits-eq0
returns-then-digits-eq0 t c = let p = none c.args.at c.args.digits c.args.n c.args.out.now c.if-digits-eq0.true in record { value = p.0; out_after = p.1 }

pub put_byte-requires : goal.put_byte-requires
put_byte-requires t c = omega (arith, not_zero c.args.digits c.if-digits-eq0.false, hex_length (c.args.digits - 1) (c.args.n / 16))

pub returns : goal.returns
returns t c =
    let p =
    more c.args.at c.args.digits c.args.n c.args.out.now _ _ _ _ _ c.if-digits-eq0.false (omega arith) c.hex_digit.ensures
    (c.put_hex-end.ensures.value, c.put_hex-end.ensures.out_after)
    (c.put_byte.ensures.value, c.put_byte.ensures.out_after)
    in record { value = p.0; out_after = p.1 }
