-- `listing::put_decimal` meets its contract: no digit, the only one, or those above and then the last. Assumes nothing.
use mathlib.Core.Path.{◌≡◌}
use mathlib.Core.List.{List, [], ◌∷◌}
use Prim.Native.Nat.{ℕ, ◌+◌, ◌-◌, ◌/◌, ◌%◌, ◌≤◌, ◌<◌}
use native.Mathlib.Omega.{arith}
use lib.ListN.{length}
use Rattle.solver.specs.Listing.{decimal_by}
use Rattle.solver.proofs.Laws.Overwritten.{Put, put_both, put_none}
use Rattle.solver.proofs.Laws.Lines.{decimal_length}
use Rattle.solver.proofs.listing.Digits.{not_zero, decimal_none, decimal_one, decimal_more}
use Rattle.solver.proofs.listing.+put_decimal.Goals as goal

module _ (at k n : ℕ) (old : List ℕ) where
  none : k ≡ 0 → Put at (decimal_by k n) old at old
  none e = rw (decimal_none k n e) (put_none at old)

  one : (end : ℕ) (new : List ℕ) → (k ≡ 0 → ⊥) → n < 10 → Put at ((48 + n) ∷ []) old end new → Put at (decimal_by k n) old end new
  one end new e h p = rw (decimal_one k n e h) p

  more : (end : ℕ) (mid : List ℕ) (last : ℕ) (new : List ℕ) → (k ≡ 0 → ⊥) → 10 ≤ n → at ≤ length old → Put at (decimal_by (k - 1) (n / 10)) old end mid
      → Put end ((48 + n % 10) ∷ []) mid last new → Put at (decimal_by k n) old last new
  more end mid last new e h room p q =
      rw (decimal_more k n e h) (put_both at (decimal_by (k - 1) (n / 10)) ((48 + n % 10) ∷ []) old end mid last new room p q)

pub returns-then-digits-eq0 : goal.returns-then-digits-eq0
returns-then-digits-eq0 t c = let p = none c.args.at c.args.digits c.args.n c.args.out.now c.if-digits-eq0.true in record { value = p.0; out_after = p.1 }

pub returns-then-n-lt10 : goal.returns-then-n-lt10
returns-then-n-lt10 t c =
    let p =
    one c.args.at c.args.digits c.args.n c.args.out.now _ _ c.if-digits-eq0.false c.if-n-lt10.true (c.put_byte.ensures.value, c.put_byte.ensures.out_after)
    in record { value = p.0; out_after = p.1 }

pub put_byte-requires-2 : goal.put_byte-requires-2
put_byte-requires-2 t c = omega (arith, not_zero c.args.digits c.if-digits-eq0.false, decimal_length (c.args.digits - 1) (c.args.n / 10))

pub returns : goal.returns
returns t c =
    let p =
    more c.args.at c.args.digits c.args.n c.args.out.now _ _ _ _ c.if-digits-eq0.false c.if-n-lt10.false (omega arith)
    (c.put_decimal-end.ensures.value, c.put_decimal-end.ensures.out_after)
    (c.put_byte-2.ensures.value, c.put_byte-2.ensures.out_after)
    in record { value = p.0; out_after = p.1 }
