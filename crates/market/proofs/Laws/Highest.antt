-- Of quotes without a NaN one is shown to which the earlier ones are below and the later ones not above. Theorems.
use mathlib.Core.Path.{◌≡◌, refl, ap}
use mathlib.Core.Bool.{Bool, true, false}
use mathlib.Core.Logic.{◌⊎◌, inl, inr}
use mathlib.Core.List.{List, [], ◌∷◌, ◌++◌}
use lib.Ieee.{Float, lt, is_nan}
use Rattle.std.proofs.lemmas.Float.{le_of_not-lt, lt_trans, lt_of_le_of_lt}
use Rattle.std.specs.Prelude.{Some}
use lib.Ieee.Bits.{is_true}
use Rattle.market.specs.declared.board.LiveQuote.{LiveQuote}
use Rattle.market.specs.Board.{highest_from, highest_in}
use Rattle.market.specs.Promises.Board.{AllQuotes}

abbrev pub Numbers : List LiveQuote → Type 0
Numbers qs = AllQuotes (λ e. is_nan e.volatility ≡ false) qs

abbrev Below : LiveQuote → List LiveQuote → Type 0
Below h qs = AllQuotes (λ e. lt e.volatility h.volatility ≡ true) qs

abbrev NotAbove : LiveQuote → List LiveQuote → Type 0
NotAbove h qs = AllQuotes (λ e. lt h.volatility e.volatility ≡ false) qs

-- below what is above another that is not below
further : (a b c : Float) → is_nan a ≡ false → is_nan b ≡ false → lt a b ≡ false → lt a c ≡ true → lt b c ≡ true
further a b c na nb h k = is_true (lt b c) (lt_of_le_of_lt b a c (le_of_not-lt a b (rw na tt) (rw nb tt) (rw h tt)) (rw k tt))

above : (a b c : Float) → lt a b ≡ true → lt b c ≡ true → lt a c ≡ true
above a b c h k = is_true (lt a c) (lt_trans a b c (rw h tt) (rw k tt))

-- one of some quotes is shown in place of h: it is above h and the earlier ones, and the later ones are not above it
record Shown (h r : LiveQuote) (qs : List LiveQuote) : Type 0 where
  earlier : List LiveQuote
  later : List LiveQuote
  parts : qs ≡ earlier ++ (r ∷ later)
  first : lt h.volatility r.volatility ≡ true
  below : Below r earlier
  not_above : NotAbove r later

-- or h stays
abbrev Cases : LiveQuote → LiveQuote → List LiveQuote → Type 0
Cases h r qs = ((r ≡ h) × NotAbove h qs) ⊎ Shown h r qs

cases : (h : LiveQuote) (qs : List LiveQuote) → is_nan h.volatility ≡ false → Numbers qs → Cases h (highest_from h qs) qs
cases h [] n ns = inl (refl, tt)
cases h (q ∷ qs) n ns = go (lt h.volatility q.volatility) refl (cases q qs ns.0 ns.1) (cases h qs n ns.1)
  where
    go : (b : Bool) → lt h.volatility q.volatility ≡ b → Cases q (highest_from q qs) qs → Cases h (highest_from h qs) qs → Cases h (highest_from h (q ∷ qs)) (q ∷ qs)
    go true e (inl stays) _ = inr (rw (e, stays.0) record { earlier = []; later = qs; parts = refl; first = e; below = tt; not_above = stays.1 })
    go true e (inr w) _ = inr (rw e record { earlier = q ∷ w.earlier; later = w.later; parts = ap (λ r. q ∷ r) w.parts; first = above _ _ _ e w.first; below = (w.first, w.below); not_above = w.not_above })
    go false e _ (inl stays) = inl (rw e stays.0, (e, stays.1))
    go false e _ (inr w) = inr (rw e record { earlier = q ∷ w.earlier; later = w.later; parts = ap (λ r. q ∷ r) w.parts; first = w.first; below = (further _ _ _ n ns.0 e w.first, w.below); not_above = w.not_above })

pub earliest : (q : LiveQuote) (qs : List LiveQuote) → Numbers (q ∷ qs)
    → (earlier later : List LiveQuote) × (h : LiveQuote) × (highest_in (q ∷ qs) ≡ Some h) × (q ∷ qs ≡ earlier ++ (h ∷ later))
    × AllQuotes (λ e. lt e.volatility h.volatility ≡ true) earlier × AllQuotes (λ e. lt h.volatility e.volatility ≡ false) later
earliest q qs ns = elim (cases q qs ns.0 ns.1) [
  | inl stays ↦ ([], qs, q, rw stays.0 refl, refl, tt, stays.1)
  | inr w ↦ (q ∷ w.earlier, w.later, highest_from q qs, refl, ap (λ r. q ∷ r) w.parts, (w.first, w.below), w.not_above)
]
