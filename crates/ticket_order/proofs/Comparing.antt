-- What the library's comparison of lists says of the order of words.
use Rattle.std.proofs.Common.{◌≡◌, ℕ, ◌<◌, ◌↔◌, List, [], ◌∷◌, refl, sym, ◌∙◌, ap₂, subst, inl, inr}
use Rattle.std.specs.declared.cmp.Ordering.{Ordering}
use Rattle.std.specs.declared.cmp.Ordering.TheVariants.{Less as Lower, Equal, Greater}
use Rattle.std.specs.Ordering.{MatchOrdering, nat_cmp, ordering_then}
use Rattle.std.specs.Cmp.Lexicographic.{slice_cmp}
use Rattle.std.proofs.lemmas.Cmp.{ranked}
use Rattle.fare_law.specs.Lists.{Less}
use Rattle.fare_law.specs.Best.{Before}
use Rattle.ticket_order.proofs.Words.{before_never, before_trans}
use Rattle.law_lemmas.proofs.Words.{words_told}

-- the answer names how the two stand
abbrev pub Tells : Ordering → ℕ → List ℕ → ℕ → List ℕ → Type 0
Tells o p v q w = MatchOrdering o (Before p v q w) ((p ≡ q) × (v ≡ w)) (Before q w p v)

equal_told : (p q : ℕ) (v w : List ℕ) (o : Ordering) → p ≡ q → o ≡ slice_cmp nat_cmp v w → Tells o p v q w
equal_told p q v w o e s = lift o (subst (λ r. MatchOrdering r (Less v w) (v ≡ w) (Less w v)) (sym s) (words_told v w))
  where
    lift : (r : Ordering) → MatchOrdering r (Less v w) (v ≡ w) (Less w v) → Tells r p v q w
    lift Lower k = inr (e, k)
    lift Equal k = (e, k)
    lift Greater k = inr (sym e, k)

pub code_told : (p q : ℕ) (v w v' w' : List ℕ) (o : Ordering) → Equal ≡ nat_cmp p q → v' ≡ v → w' ≡ w → o ≡ slice_cmp nat_cmp v' w' → Tells o p v q w
code_told p q v w v' w' o e a b s = equal_told p q v w o (ranked p q Equal e) (s ∙ ap₂ (slice_cmp nat_cmp) a b)

pub below_told : (o : Ordering) (p q : ℕ) (v w : List ℕ) → Tells o p v q w → o ≡ Lower ↔ Before p v q w
below_told Lower p q v w t = (λ e. t, λ b. refl)
below_told Equal p q v w t = (λ e. absurd (cc), λ b. absurd (before_never q w (subst (λ z. Before z w q w) t.0 (subst (λ z. Before p z q w) t.1 b))))
below_told Greater p q v w t = (λ e. absurd (cc), λ b. absurd (before_never p v (before_trans p q p v w v b t)))

pub same_told : (o : Ordering) (p q : ℕ) (v w : List ℕ) → Tells o p v q w → o ≡ Equal ↔ ((p ≡ q) × (v ≡ w))
same_told Lower p q v w t = (λ e. absurd (cc), λ b. absurd (before_never q w (subst (λ z. Before z w q w) b.0 (subst (λ z. Before p z q w) b.1 t))))
same_told Equal p q v w t = (λ e. t, λ b. refl)
same_told Greater p q v w t = (λ e. absurd (cc), λ b. absurd (before_never q w (subst (λ z. Before q w z w) b.0 (subst (λ z. Before q w p z) b.1 t))))

pub above_told : (o : Ordering) (p q : ℕ) (v w : List ℕ) → Tells o p v q w → o ≡ Greater ↔ Before q w p v
above_told Lower p q v w t = (λ e. absurd (cc), λ b. absurd (before_never p v (before_trans p q p v w v t b)))
above_told Equal p q v w t = (λ e. absurd (cc), λ b. absurd (before_never q w (subst (λ z. Before q w z w) t.0 (subst (λ z. Before q w p z) t.1 b))))
above_told Greater p q v w t = (λ e. t, λ b. refl)
