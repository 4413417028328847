-- The order of words, and of words with a price. Given on to the crates above.
use Rattle.std.proofs.Common.{◌≡◌, ℕ, ◌+◌, ◌≤◌, ◌⊎◌, ◌↔◌, List, [], ◌∷◌, ◌++◌, refl, sym, ap₂, ◌∙◌, inl, inr, arith}
use Rattle.std.proofs.lemmas.Bool.{cases_eq, cases_order}
use Rattle.fare_law.specs.Lists.{IsPrefix, Less}
use Rattle.fare_law.specs.Best.{Before}
use Rattle.ticket_order.specs.Coding.{Apart}
use Rattle.law_lemmas.proofs.Words.{less_never, less_total, less_trans}

-- what is less than a longer word is less than its front, or begins with it
pub less_cut : (w v z : List ℕ) → Less w (v ++ z) → Less w v ⊎ IsPrefix v w
less_cut w [] z h = inr (w, refl)
less_cut [] (y ∷ v) z h = inl tt
less_cut (x ∷ w) (y ∷ v) z (inl h) = inl (inl h)
less_cut (x ∷ w) (y ∷ v) z (inr (e, h)) = elim (less_cut w v z h) [
  | inl l ↦ inl (inr (e, l))
  | inr p ↦ inr (p.0, ap₂ (λ a l. a ∷ l) e p.1)
]

-- what is less than a word is less than each longer one
pub less_more : (w v z : List ℕ) → Less w v → Less w (v ++ z)
less_more [] [] z h = absurd h
less_more [] (y ∷ v) z h = tt
less_more (x ∷ w) [] z h = absurd h
less_more (x ∷ w) (y ∷ v) z (inl h) = inl h
less_more (x ∷ w) (y ∷ v) z (inr (e, h)) = inr (e, less_more w v z h)

-- words with one first part are ordered as their second parts
pub less_second : (u v w : List ℕ) → Less v w ↔ Less (u ++ v) (u ++ w)
less_second [] v w = (λ h. h, λ h. h)
less_second (x ∷ u) v w = let r = less_second u v w in (λ h. inr (refl, r.0 h), λ h. r.1 (below h))
  where
    below : Less (x ∷ (u ++ v)) (x ∷ (u ++ w)) → Less (u ++ v) (u ++ w)
    below (inl h) = absurd (omega arith)
    below (inr (e, h)) = h

-- words are ordered as their first parts where neither of these is the front of the other
pub less_first : (v w x y : List ℕ) → Apart v w → Less v w ↔ Less (v ++ x) (w ++ y)
less_first [] w x y a = absurd (a.0 (w, refl))
less_first (k ∷ v) [] x y a = absurd (a.1 (k ∷ v, refl))
less_first (k ∷ v) (l ∷ w) x y a = let r = λ (e : k ≡ l). less_first v w x y (rest e) in (forth (λ e. (r e).0), back (λ e. (r e).1))
  where
    rest : k ≡ l → Apart v w
    rest e = ((λ p. a.0 (p.0, ap₂ (λ z zs. z ∷ zs) (sym e) p.1)), (λ p. a.1 (p.0, ap₂ (λ z zs. z ∷ zs) e p.1)))

    forth : (k ≡ l → Less v w → Less (v ++ x) (w ++ y)) → Less (k ∷ v) (l ∷ w) → Less ((k ∷ v) ++ x) ((l ∷ w) ++ y)
    forth f (inl h) = inl h
    forth f (inr (e, h)) = inr (e, f e h)

    back : (k ≡ l → Less (v ++ x) (w ++ y) → Less v w) → Less ((k ∷ v) ++ x) ((l ∷ w) ++ y) → Less (k ∷ v) (l ∷ w)
    back f (inl h) = inl h
    back f (inr (e, h)) = inr (e, f e h)

pub before_never : (p : ℕ) (w : List ℕ) → Before p w p w → ⊥
before_never p w (inl h) = omega arith
before_never p w (inr (e, h)) = less_never w h

pub before_trans : (p q r : ℕ) (u v w : List ℕ) → Before p u q v → Before q v r w → Before p u r w
before_trans p q r u v w (inl h) (inl k) = inl (omega arith)
before_trans p q r u v w (inl h) (inr (e, k)) = inl (omega arith)
before_trans p q r u v w (inr (e, h)) (inl k) = inl (omega arith)
before_trans p q r u v w (inr (e, h)) (inr (f, k)) = inr (e ∙ f, less_trans u v w h k)

pub before_total : (p q : ℕ) (v w : List ℕ) → Before p v q w ⊎ (((p ≡ q) × (v ≡ w)) ⊎ Before q w p v)
before_total p q v w = elim (cases_order p q) [
  | inr o ↦ elim o [ inl lt ↦ inl (inl lt) | inr gt ↦ inr (inr (inl gt)) ]
  | inl e ↦ elim (less_total v w) [
    | inl l ↦ inl (inr (e, l))
    | inr o ↦ elim o [ inl s ↦ inr (inl (e, s)) | inr g ↦ inr (inr (inr (sym e, g))) ]
  ]
]

-- what comes before a price and a word comes before each greater price and longer word
pub before_more : (p l m : ℕ) (w v z : List ℕ) → Before p w l v → l ≤ m → Before p w m (v ++ z)
before_more p l m w v z (inl h) le = inl (omega arith)
before_more p l m w v z (inr (e, h)) le = elim (cases_eq l m) [
  | inl f ↦ inr (e ∙ f, less_more w v z h)
  | inr ne ↦ inl (omega arith)
]

-- what is joined to one first part, at one price, is ordered as before
pub before_second : (price p q : ℕ) (u v w : List ℕ) → Before p v q w ↔ Before (price + p) (u ++ v) (price + q) (u ++ w)
before_second price p q u v w = let r = less_second u v w in (forth r.0, back r.1)
  where
    forth : (Less v w → Less (u ++ v) (u ++ w)) → Before p v q w → Before (price + p) (u ++ v) (price + q) (u ++ w)
    forth f (inl h) = inl (omega arith)
    forth f (inr (e, h)) = inr (omega arith, f h)

    back : (Less (u ++ v) (u ++ w) → Less v w) → Before (price + p) (u ++ v) (price + q) (u ++ w) → Before p v q w
    back f (inl h) = inl (omega arith)
    back f (inr (e, h)) = inr (omega arith, f h)
