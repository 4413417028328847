-- Where a component begins and ends, and which way a fare of the sheet is filed.
use Rattle.std.proofs.Common.{◌≡◌, ◌⊎◌, ◌↔◌, ◌-◌, List, [], ◌∷◌, length, slice_get, inl, inr, ⊎_elim, sym, ap, subst, ◌∙◌, arith, suc}
use Rattle.std.specs.Option.{IsSomeAnd}
use Rattle.fare_law.specs.declared.fares.FareKey.{FareKey}
use Rattle.fare_law.specs.declared.flights.Flight.{Flight}
use Rattle.fare_law.specs.declared.names.Place.{Place}
use Rattle.fare_law.specs.Lists.{OnLast}
use Rattle.fare_law.specs.Offers.{FiledBetween, HasDirection}
use Rattle.fare_component.specs.Keys.{Begins, Ends}
use Rattle.law_lemmas.proofs.Ends.{on_last}

-- the element before the end is the last one
pub last_told : {X : Type 0} (P : X → Type 0) (xs : List X) → OnLast P xs ↔ IsSomeAnd (slice_get xs (length xs - 1)) P
last_told P [] = (λ h. absurd h, λ h. absurd h)
last_told P (y ∷ []) = (λ h. h, λ h. h)
last_told P (y ∷ z ∷ zs) =
    let one : length (y ∷ z ∷ zs) - 1 ≡ suc (length zs) = omega arith in
    let less : length zs ≡ length (z ∷ zs) - 1 = omega arith in
    let e : slice_get (y ∷ z ∷ zs) (length (y ∷ z ∷ zs) - 1) ≡ slice_get (z ∷ zs) (length (z ∷ zs) - 1) = ap (slice_get (y ∷ z ∷ zs)) one ∙ ap (slice_get (z ∷ zs)) less in
    let rest = last_told P (z ∷ zs) in
    (λ h. subst (λ o. IsSomeAnd o P) (sym e) (rest.0 h), λ h. rest.1 (subst (λ o. IsSomeAnd o P) e h))

pub ends_told : (place : Place) (fs : List Flight) → Ends place fs ↔ IsSomeAnd (slice_get fs (length fs - 1)) (λ f. place ≡ f.to)
ends_told place fs = last_told (λ f. place ≡ f.to) fs

on_last_both : {X : Type 0} (P Q R : X → Type 0) → ((x : X) → P x → Q x ⊎ R x) → (xs : List X) → OnLast P xs → OnLast Q xs ⊎ OnLast R xs
on_last_both P Q R f [] h = absurd h
on_last_both P Q R f (x ∷ []) h = f x h
on_last_both P Q R f (x ∷ y ∷ ys) h = on_last_both P Q R f (y ∷ ys) h

-- what holds apart from the last one
on_last_any : {X : Type 0} (P : Type 0) (xs : List X) → OnLast (λ x. P) xs → P
on_last_any P [] h = absurd h
on_last_any P (x ∷ []) h = h
on_last_any P (x ∷ y ∷ ys) h = on_last_any P (y ∷ ys) h

-- a fare of the sheet's market goes one way or the other exactly where the component does
pub directed : (key : FareKey) (from to : Place) (fs : List Flight) → key.from ≡ from → key.to ≡ to → (Begins from fs × Ends to fs) ⊎ (Begins to fs × Ends from fs) → HasDirection key fs
directed key from to [] f t h = absurd (⊎_elim (λ (p : Begins from [] × Ends to []). p.0) (λ (p : Begins to [] × Ends from []). p.0) h)
directed key from to (x ∷ xs) f t h =
    ⊎_elim (λ (p : Begins from (x ∷ xs) × Ends to (x ∷ xs)). on_last (λ z. to ≡ z.to) (λ z. FiledBetween key x.from z.to) (λ z e. inl (f ∙ p.0, t ∙ e)) (x ∷ xs) p.1)
    (λ (p : Begins to (x ∷ xs) × Ends from (x ∷ xs)). on_last (λ z. from ≡ z.to) (λ z. FiledBetween key x.from z.to) (λ z e. inr (f ∙ e, t ∙ p.0)) (x ∷ xs) p.1) h

pub undirected : (key : FareKey) (from to : Place) (fs : List Flight) → key.from ≡ from → key.to ≡ to → HasDirection key fs → (Begins from fs × Ends to fs) ⊎ (Begins to fs × Ends from fs)
undirected key from to [] f t h = absurd h
undirected key from to (x ∷ xs) f t h =
    ⊎_elim (λ (p : OnLast (λ z. (from ≡ x.from) × (to ≡ z.to)) (x ∷ xs)). inl (on_last_any (from ≡ x.from) (x ∷ xs) (on_last (λ z. (from ≡ x.from) × (to ≡ z.to)) (λ z. from ≡ x.from) (λ z q. q.0) (x ∷ xs) p), on_last (λ z. (from ≡ x.from) × (to ≡ z.to)) (λ z. to ≡ z.to) (λ z q. q.1) (x ∷ xs) p))
    (λ (p : OnLast (λ z. (from ≡ z.to) × (to ≡ x.from)) (x ∷ xs)). inr (on_last_any (to ≡ x.from) (x ∷ xs) (on_last (λ z. (from ≡ z.to) × (to ≡ x.from)) (λ z. to ≡ x.from) (λ z q. q.1) (x ∷ xs) p), on_last (λ z. (from ≡ z.to) × (to ≡ x.from)) (λ z. from ≡ z.to) (λ z q. q.0) (x ∷ xs) p))
    (on_last_both (λ z. FiledBetween key x.from z.to) (λ z. (from ≡ x.from) × (to ≡ z.to)) (λ z. (from ≡ z.to) × (to ≡ x.from)) (λ z. ⊎_elim (λ (e : (key.from ≡ x.from) × (key.to ≡ z.to)). inl (sym f ∙ e.0, sym t ∙ e.1)) (λ (e : (key.from ≡ z.to) × (key.to ≡ x.from)). inr (sym f ∙ e.0, sym t ∙ e.1))) (x ∷ xs) h)
