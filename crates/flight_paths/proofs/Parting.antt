-- Lists of flights, their places and their joins, put together and parted.
use Rattle.std.proofs.Common.{◌≡◌, ◌≢◌, List, [], ◌∷◌, ◌++◌, refl, sym, ap, ◌∙◌, inl, inr}
use Rattle.fare_law.specs.declared.flights.Flight.{Flight}
use Rattle.fare_law.specs.declared.names.Place.{Place}
use Rattle.fare_law.specs.declared.requests.Slice.{Slice}
use Rattle.fare_law.specs.Journey.{Joins, calls}
use Rattle.fare_law.specs.Lists.{AllDifferent, Each, EachPair, IsIn, OnFirst, OnLast}
use Rattle.flight_paths.specs.Positions.{KeepsOff}
use Rattle.flight_paths.specs.Ways.{arrivals_of}
use Rattle.law_lemmas.proofs.EachOne.{each_append, each_left}

pub each_right : {X : Type 0} (P : X → Type 0) (xs ys : List X) → Each P (xs ++ ys) → Each P ys
each_right P [] ys h = h
each_right P (x ∷ xs) ys h = each_right P xs ys h.1

pub arrivals_both : (fs gs : List Flight) → arrivals_of (fs ++ gs) ≡ arrivals_of fs ++ arrivals_of gs
arrivals_both [] gs = refl
arrivals_both (f ∷ fs) gs = ap (λ ps. f.to ∷ ps) (arrivals_both fs gs)

pub calls_both : (p : Place) (fs gs : List Flight) → calls p (fs ++ gs) ≡ calls p fs ++ arrivals_of gs
calls_both p fs gs = ap (λ ps. p ∷ ps) (arrivals_both fs gs)

pub different_left : (ps qs : List Place) → AllDifferent (ps ++ qs) → AllDifferent ps
different_left [] qs h = tt
different_left (p ∷ ps) qs h = (each_left (λ y. p ≢ y) ps qs h.0, different_left ps qs h.1)

pub different_right : (ps qs : List Place) → AllDifferent (ps ++ qs) → AllDifferent qs
different_right [] qs h = h
different_right (p ∷ ps) qs h = different_right ps qs h.1

pub different_apart : (ps qs : List Place) → AllDifferent (ps ++ qs) → Each (λ p. Each (λ q. p ≢ q) qs) ps
different_apart [] qs h = tt
different_apart (p ∷ ps) qs h = (each_right (λ y. p ≢ y) ps qs h.0, different_apart ps qs h.1)

pub different_both : (ps qs : List Place) → AllDifferent ps → AllDifferent qs → Each (λ p. Each (λ q. p ≢ q) qs) ps → AllDifferent (ps ++ qs)
different_both [] qs h k a = k
different_both (p ∷ ps) qs h k a = (each_append (λ y. p ≢ y) ps qs h.0 a.0, different_both ps qs h.1 k a.1)

pub joins_left : (fs gs : List Flight) → EachPair Joins (fs ++ gs) → EachPair Joins fs
joins_left [] gs h = tt
joins_left (f ∷ []) gs h = tt
joins_left (f ∷ g ∷ fs) gs h = (h.0, joins_left (g ∷ fs) gs h.1)

pub joins_right : (fs gs : List Flight) → EachPair Joins (fs ++ gs) → EachPair Joins gs
joins_right [] gs h = h
joins_right (f ∷ []) [] h = tt
joins_right (f ∷ []) (g ∷ gs) h = h.1
joins_right (f ∷ g ∷ fs) gs h = joins_right (g ∷ fs) gs h.1

-- where the first part ends, the second begins
pub joins_there : (p : Place) (fs gs : List Flight) → gs ≢ [] → OnLast (λ f. f.to ≡ p) fs → EachPair Joins (fs ++ gs) → OnFirst (λ g. g.from ≡ p) gs
joins_there p [] gs some a h = absurd a
joins_there p (f ∷ []) [] some a h = absurd (some refl)
joins_there p (f ∷ []) (g ∷ gs) some a h = h.0 ∙ a
joins_there p (f ∷ g ∷ fs) gs some a h = joins_there p (g ∷ fs) gs some a h.1

pub joins_both : (p : Place) (fs gs : List Flight) → OnLast (λ f. f.to ≡ p) fs → OnFirst (λ g. g.from ≡ p) gs → EachPair Joins fs → EachPair Joins gs → EachPair Joins (fs ++ gs)
joins_both p [] gs a o h k = absurd a
joins_both p (f ∷ []) [] a o h k = tt
joins_both p (f ∷ []) (g ∷ gs) a o h k = (o ∙ sym a, k)
joins_both p (f ∷ g ∷ fs) gs a o h k = (h.0, joins_both p (g ∷ fs) gs a o h.1 k)

-- the destination is one of the places
pub last_in : (p : Place) (fs : List Flight) → OnLast (λ f. f.to ≡ p) fs → IsIn p (arrivals_of fs)
last_in p [] a = absurd a
last_in p (f ∷ []) a = inl (sym a)
last_in p (f ∷ g ∷ fs) a = inr (last_in p (g ∷ fs) a)

-- places called at before bind until the destination is reached
pub keeps_left : (s : Slice) (p : Place) (fs gs : List Flight) → KeepsOff s (fs ++ gs) p → KeepsOff s fs p
keeps_left s p [] gs h = tt
keeps_left s p (f ∷ fs) gs h = (h.0, λ ne. keeps_left s p fs gs (h.1 ne))

pub keeps_on : (s : Slice) (p : Place) (fs gs : List Flight) → OnLast (λ f. f.to ≡ s.to) fs → KeepsOff s fs p → KeepsOff s (fs ++ gs) p
keeps_on s p [] gs a h = absurd a
keeps_on s p (f ∷ []) gs a h = (h.0, λ ne. absurd (ne a))
keeps_on s p (f ∷ g ∷ fs) gs a h = (h.0, λ ne. keeps_on s p (g ∷ fs) gs a (h.1 ne))

pub all_left : (s : Slice) (ps : List Place) (fs gs : List Flight) → Each (KeepsOff s (fs ++ gs)) ps → Each (KeepsOff s fs) ps
all_left s [] fs gs h = tt
all_left s (p ∷ ps) fs gs h = (keeps_left s p fs gs h.0, all_left s ps fs gs h.1)

pub all_on : (s : Slice) (ps : List Place) (fs gs : List Flight) → OnLast (λ f. f.to ≡ s.to) fs → Each (KeepsOff s fs) ps → Each (KeepsOff s (fs ++ gs)) ps
all_on s [] fs gs a h = tt
all_on s (p ∷ ps) fs gs a h = (keeps_on s p fs gs a h.0, all_on s ps fs gs a h.1)

-- flights that arrive nowhere here keep off
pub keeps : (s : Slice) (p : Place) (fs : List Flight) → Each (λ q. p ≢ q) (arrivals_of fs) → KeepsOff s fs p
keeps s p [] h = tt
keeps s p (f ∷ fs) h = ((λ e. h.0 (sym e)), λ ne. keeps s p fs h.1)
