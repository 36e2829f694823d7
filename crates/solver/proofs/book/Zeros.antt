-- A run of bytes is zero where each of them is. Theorems.
use mathlib.Core.Path.{◌≡◌, refl}
use mathlib.Core.List.{List, [], ◌∷◌}
use Prim.Native.Nat.{ℕ}
use lib.Dec.{eqb}
use Rattle.std.specs.List.{list_all}
use Rattle.solver.specs.Book.{all_zero}

pub zero_where_each : (bs : List ℕ) → list_all (λ b. eqb b 0) bs ≡ all_zero bs
zero_where_each [] = refl
zero_where_each (b ∷ bs) = rw (zero_where_each bs)
