-- The comparisons of floats among each other: what one test says of another. Assumes nothing.
use mathlib.Core.Path.{◌≡◌, refl, sym, ◌∙◌}
use mathlib.Core.Bool.{Bool, true, false, ◌||◌, true≢false}
use Prim.Native.Nat.{◌*◌}
use lib.Dec.{T, not_T}
use lib.Ieee.{Float, nan, inf, fin, up, down, is_nan, lt, le, eq, ne}
use lib.Ieee.Bits.{is_true, is_false}
use lib.Ieee.Scale.{finite}
use Rattle.elementary.proofs.Laws.Bits.{ne_self}
use Rattle.elementary.proofs.Laws.Decode.{finite_no_nan}
use Rattle.elementary.proofs.Laws.Order.{below_no, not_below, test→le, le→test}

-- of two numbers, where one is not below the other, the other is at most it
pub le_of_not_lt : (x y : Float) → T (finite x) → T (finite y) → lt x y ≡ false → le y x ≡ true
unfolding le lt eq
le_of_not_lt nan y f g h = absurd f
le_of_not_lt (inf s) y f g h = absurd f
le_of_not_lt (fin s m e) nan f g h = absurd g
le_of_not_lt (fin s m e) (inf t) f g h = absurd g
le_of_not_lt (fin s m e) (fin t n d) f g h = is_true _ (le→test t _ s _ (not_below s (m * up e * down d) t (n * up d * down e) h))

pub lt_of_not_le : (x y : Float) → T (finite x) → T (finite y) → le y x ≡ false → lt x y ≡ true
lt_of_not_le x y f g h = is_true (lt x y) (t_of_not (lt x y) (λ n. true≢false (sym (le_of_not_lt x y f g n) ∙ h)))
  where
    t_of_not : (b : Bool) → (b ≡ false → ⊥) → T b
    t_of_not true n = tt
    t_of_not false n = n refl

-- what is below a number is not above it, nor equal to it
pub not_le_of_lt : (x y : Float) → lt x y ≡ true → le y x ≡ false
unfolding le lt eq
not_le_of_lt nan y h = absurd (true≢false (sym h))
not_le_of_lt (inf s) nan h = absurd (true≢false (sym h))
not_le_of_lt (inf false) (inf t) h = absurd (true≢false (sym h))
not_le_of_lt (inf false) (fin t n d) h = absurd (true≢false (sym h))
not_le_of_lt (inf true) (inf true) h = absurd (true≢false (sym h))
not_le_of_lt (inf true) (inf false) h = refl
not_le_of_lt (inf true) (fin t n d) h = refl
not_le_of_lt (fin s m e) nan h = absurd (true≢false (sym h))
not_le_of_lt (fin s m e) (inf true) h = absurd (true≢false (sym h))
not_le_of_lt (fin s m e) (inf false) h = refl
not_le_of_lt (fin s m e) (fin t n d) h = is_false _ (not_T (le (fin t n d) (fin s m e)) (λ l. below_no s (m * up e * down d) t (n * up d * down e) h (test→le t (n * up d * down e) s (m * up e * down d) l)))

left_false : (a b : Bool) → (a || b) ≡ false → a ≡ false
left_false true b h = h
left_false false b h = refl

pub not_lt_of_not_le : (x y : Float) → le x y ≡ false → lt x y ≡ false
unfolding le
not_lt_of_not_le x y h = left_false (lt x y) (eq x y) h

-- so `<` holds one way round at most
pub lt_asym : (x y : Float) → lt x y ≡ true → lt y x ≡ false
lt_asym x y h = not_lt_of_not_le y x (not_le_of_lt x y h)

-- a number equals itself
pub equal_itself : (x : Float) → T (finite x) → ne x x ≡ false
equal_itself x f = ne_self x ∙ is_false (is_nan x) (finite_no_nan x f)
