-- `max` meets its contract: each way out is what `max_of` picks where the tests are as that way found them. Assumes nothing.
use mathlib.Core.Path.{◌≡◌, refl}
use mathlib.Core.Bool.{false, cond}
use lib.Ieee.{Float, nan, inf, fin, lt, is_nan}
use Rattle.std.specs.Float.{is_sign_negative}
use Rattle.elementary.specs.Methods.{max_of, sign_of}
use Rattle.elementary.proofs.Laws.Bits.{ne_self, lt_ordered}
use Rattle.elementary.proofs.methods.max.Goals as goal

pub returns-then-a-b : goal.returns-then-a-b
unfolding max_of
returns-then-a-b c =
    let z = lt_ordered c.args.a c.args.b c.if-a-b.true in
    rw (z.0, z.1, c.if-a-b.true)

pub returns-then-b-a : goal.returns-then-b-a
unfolding max_of
returns-then-b-a c =
    let z = lt_ordered c.args.b c.args.a c.if-b-a.true in
    rw (z.1, z.0, c.if-a-b.false, c.if-b-a.true)

pub returns-then-is_nan : goal.returns-then-is_nan
unfolding max_of
returns-then-is_nan c = rw (ne_self c.args.a, ← c.if-is_nan.ensures.value)

pub returns-then-is_nan-2 : goal.returns-then-is_nan-2
unfolding max_of
returns-then-is_nan-2 c = rw (ne_self c.args.a, ← c.if-is_nan.ensures.value, ne_self c.args.b, ← c.if-is_nan-2.ensures.value)

-- std's word for a number's sign
std_sign : (x : Float) → is_sign_negative x ≡ sign_of x
unfolding is_sign_negative sign_of
std_sign nan = refl
std_sign (inf s) = refl
std_sign (fin s m e) = refl

-- where neither is NaN or less, the sign of a decides
by_sign : (a b : Float) → false ≡ is_nan a → false ≡ is_nan b → lt a b ≡ false → lt b a ≡ false → max_of a b ≡ cond (is_sign_negative a) b a
unfolding max_of
by_sign a b m n h k = rw (ne_self a, ← m, ne_self b, ← n, h, k, std_sign a)

pub returns-then-is_sign_negative : goal.returns-then-is_sign_negative
returns-then-is_sign_negative c =
    rw (by_sign c.args.a c.args.b c.if-is_nan.ensures.value c.if-is_nan-2.ensures.value c.if-a-b.false c.if-b-a.false, ← c.if-is_sign_negative.ensures)

pub returns-else-is_sign_negative : goal.returns-else-is_sign_negative
returns-else-is_sign_negative c =
    rw (by_sign c.args.a c.args.b c.if-is_nan.ensures.value c.if-is_nan-2.ensures.value c.if-a-b.false c.if-b-a.false, ← c.if-is_sign_negative.ensures)
