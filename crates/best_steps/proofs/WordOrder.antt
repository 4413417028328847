-- The order of words.
use Rattle.std.proofs.Common.{◌≡◌, ℕ, ◌⊎◌, List, [], ◌∷◌, sym, refl, ap, inl, inr, ◌++◌, ◌∙◌, subst, length, take, append-nil}
use Rattle.fare_law.specs.Lists.{IsPrefix}
use Rattle.fare_law.specs.Lists.{Less}
use Rattle.best_k.proofs.Orders.{less_behind}
use Rattle.best_steps.specs.Waiting.{Beats}
use Rattle.law_lemmas.proofs.Words.{less_trans}

-- no later than
abbrev pub AtMost : List ℕ → List ℕ → Type 0
AtMost v w = (v ≡ w) ⊎ Less v w

pub at_most_trans : (u v w : List ℕ) → AtMost u v → AtMost v w → AtMost u w
at_most_trans u v w (inl e) h = subst (λ z. AtMost z w) (sym e) h
at_most_trans u v w (inr h) (inl e) = inr (subst (λ z. Less u z) e h)
at_most_trans u v w (inr h) (inr k) = inr (less_trans u v w h k)

pub front_or_beats : (v w : List ℕ) → AtMost v w → IsPrefix v w ⊎ Beats v w
front_or_beats v w (inl e) = inl ([], sym e ∙ sym (append-nil v))
front_or_beats v w (inr h) = less_front v w h
  where
    less_front : (v w : List ℕ) → Less v w → IsPrefix v w ⊎ Beats v w
    less_front [] w h = inl (w, refl)
    less_front (x ∷ v) [] h = absurd h
    less_front (x ∷ v) (y ∷ w) (inl h) = inr (inl h)
    less_front (x ∷ v) (y ∷ w) (inr (e, h)) = elim (less_front v w h) [
      | inl p ↦ inl (p.0, λ i. sym e i ∷ p.1 i)
      | inr b ↦ inr (inr (e, b))
    ]

-- what follows makes no difference
pub beats_longer : (v w x : List ℕ) → Beats v w → Beats (v ++ x) w
beats_longer [] w x h = absurd h
beats_longer (a ∷ v) [] x h = absurd h
beats_longer (a ∷ v) (b ∷ w) x (inl h) = inl h
beats_longer (a ∷ v) (b ∷ w) x (inr (e, h)) = inr (e, beats_longer v w x h)

pub beats_wider : (v w y : List ℕ) → Beats v w → Beats v (w ++ y)
beats_wider [] w y h = absurd h
beats_wider (a ∷ v) [] y h = absurd h
beats_wider (a ∷ v) (b ∷ w) y (inl h) = inl h
beats_wider (a ∷ v) (b ∷ w) y (inr (e, h)) = inr (e, beats_wider v w y h)

pub beats_behind : (u v w : List ℕ) → Beats v w → Beats (u ++ v) (u ++ w)
beats_behind [] v w h = h
beats_behind (x ∷ u) v w h = inr (refl, beats_behind u v w h)

pub beats_less : (v w : List ℕ) → Beats v w → Less v w
beats_less [] w h = absurd h
beats_less (x ∷ v) [] h = absurd h
beats_less (x ∷ v) (y ∷ w) (inl h) = inl h
beats_less (x ∷ v) (y ∷ w) (inr (e, h)) = inr (e, beats_less v w h)

pub at_most_on : (v x : List ℕ) → AtMost v (v ++ x)
at_most_on [] [] = inl refl
at_most_on [] (y ∷ x) = inr tt
at_most_on (a ∷ v) x = elim (at_most_on v x) [ inl e ↦ inl (ap (λ z. a ∷ z) e) | inr h ↦ inr (inr (refl, h)) ]

pub at_most_behind : (u v w : List ℕ) → AtMost v w → AtMost (u ++ v) (u ++ w)
at_most_behind u v w (inl e) = inl (ap (λ z. u ++ z) e)
at_most_behind u v w (inr h) = inr (less_behind u v w h)

pub front_on : (v x : List ℕ) → IsPrefix v (v ++ x)
front_on v x = (x, refl)

pub front_again : (u v : List ℕ) → take (length u) (u ++ v) ≡ u
front_again [] [] = refl
front_again [] (y ∷ v) = refl
front_again (x ∷ u) v = ap (λ z. x ∷ z) (front_again u v)
