-- Lists without repeats, and lists of flights and of numbers that are told apart. Given on to the crates above.
use Rattle.std.proofs.Common.{◌≡◌, ◌≢◌, ℕ, zero, suc, ◌+◌, ◌<◌, List, [], ◌∷◌, ◌++◌, length, take, get_or, refl, sym, ap, subst, ◌∙◌, inl, inr, arith, length-append}
use Rattle.fare_law.specs.declared.flights.Flight.{Flight}
use Rattle.fare_law.specs.declared.names.Place.{Place}
use Rattle.fare_law.specs.declared.requests.Slice.{Slice}
use Rattle.fare_law.specs.Lists.{AllDifferent, Each, EachPair, IsIn, OnLast, Less}
use Rattle.flight_paths.specs.declared.positions.Path.{Path}
use Rattle.flight_paths.specs.Heads.{Stays}
use Rattle.flight_paths.specs.Paths.{Precedes}
use Rattle.flight_paths.specs.Ways.{AreFlightsOf}
use Rattle.flight_paths.proofs.Ended.{precedes_trans}
use Rattle.flight_paths.proofs.Parting.{each_right}
use Rattle.law_lemmas.proofs.EachOne.{each_append}
use Rattle.law_lemmas.proofs.Members.{in_list}
use Rattle.law_lemmas.proofs.Options.{some_same}

pub same_path : (p q : Path) → p.flights ≡ q.flights → p.after ≡ q.after → p ≡ q
same_path p q e a = λ i. record { flights = e i; after = a i }

-- the flights of numbers are one list
pub flights_one : (flights : List Flight) (ns : List ℕ) (fs gs : List Flight) → AreFlightsOf flights ns fs → AreFlightsOf flights ns gs → fs ≡ gs
flights_one flights [] [] [] h k = refl
flights_one flights [] [] (g ∷ gs) h k = absurd k
flights_one flights [] (f ∷ fs) gs h k = absurd h
flights_one flights (n ∷ ns) [] gs h k = absurd h
flights_one flights (n ∷ ns) (f ∷ fs) [] h k = absurd k
flights_one flights (n ∷ ns) (f ∷ fs) (g ∷ gs) h k = two (some_same f g (sym h.0 ∙ k.0)) (flights_one flights ns fs gs h.1 k.1)
  where
    two : f ≡ g → fs ≡ gs → f ∷ fs ≡ g ∷ gs
    two a b = λ i. a i ∷ b i

pub flights_both : (flights : List Flight) (ns ms : List ℕ) (fs gs : List Flight) → AreFlightsOf flights ns fs → AreFlightsOf flights ms gs → AreFlightsOf flights (ns ++ ms) (fs ++ gs)
flights_both flights [] ms [] gs h k = k
flights_both flights [] ms (f ∷ fs) gs h k = absurd h
flights_both flights (n ∷ ns) ms [] gs h k = absurd h
flights_both flights (n ∷ ns) ms (f ∷ fs) gs h k = (h.0, flights_both flights ns ms fs gs h.1 k)

-- flights are cut at one place
pub cut_one : (s : Slice) (fs gs us vs : List Flight) → Stays s fs → OnLast (λ f. f.to ≡ s.to) fs → Stays s gs → OnLast (λ f. f.to ≡ s.to) gs → fs ++ us ≡ gs ++ vs → length fs ≡ length gs
cut_one s [] gs us vs h a k c e = absurd a
cut_one s (f ∷ fs) [] us vs h a k c e = absurd c
cut_one s (f ∷ []) (g ∷ []) us vs h a k c e = refl
cut_one s (f ∷ []) (g ∷ x ∷ gs) us vs h a k c e = absurd (k.0 (ap (λ y. y.to) (sym (first e)) ∙ a))
  where
    first : f ∷ us ≡ g ∷ x ∷ (gs ++ vs) → f ≡ g
    first w = cc
cut_one s (f ∷ y ∷ fs) (g ∷ []) us vs h a k c e = absurd (h.0 (ap (λ z. z.to) (first e) ∙ c))
  where
    first : f ∷ y ∷ (fs ++ us) ≡ g ∷ vs → f ≡ g
    first w = cc
cut_one s (f ∷ y ∷ fs) (g ∷ x ∷ gs) us vs h a k c e = omega (arith, cut_one s (y ∷ fs) (x ∷ gs) us vs h.1 a k.1 c (rest e))
  where
    rest : f ∷ y ∷ (fs ++ us) ≡ g ∷ x ∷ (gs ++ vs) → y ∷ (fs ++ us) ≡ x ∷ (gs ++ vs)
    rest w = cc

-- what stays does not go on where it arrives
pub never_past : (s : Slice) (fs gs : List Flight) → gs ≢ [] → OnLast (λ f. f.to ≡ s.to) fs → Stays s (fs ++ gs) → ⊥
never_past s [] gs some a h = a
never_past s (f ∷ []) [] some a h = some refl
never_past s (f ∷ []) (g ∷ gs) some a h = h.0 a
never_past s (f ∷ x ∷ fs) gs some a h = never_past s (x ∷ fs) gs some a h.1

-- places that differ, from both sides
pub turned : (ps qs : List Place) → Each (λ q. Each (λ p. q ≢ p) ps) qs → Each (λ p. Each (λ q. p ≢ q) qs) ps
turned [] qs h = tt
turned (p ∷ ps) qs h = (firsts qs h, turned ps qs (rests qs h))
  where
    firsts : (xs : List Place) → Each (λ q. Each (λ p. q ≢ p) (p ∷ ps)) xs → Each (λ q. p ≢ q) xs
    firsts [] h = tt
    firsts (x ∷ xs) h = ((λ e. h.0.0 (sym e)), firsts xs h.1)

    rests : (xs : List Place) → Each (λ q. Each (λ p. q ≢ p) (p ∷ ps)) xs → Each (λ q. Each (λ p. q ≢ p) ps) xs
    rests [] h = tt
    rests (x ∷ xs) h = (h.0.1, rests xs h.1)

pub turned_back : (ps qs : List Place) → Each (λ p. Each (λ q. p ≢ q) qs) ps → Each (λ q. Each (λ p. q ≢ p) ps) qs
turned_back ps qs h = turned qs ps h

-- each before a place differs from what stands there
pub not_itself : (ns : List ℕ) → Precedes ns ns → ⊥
not_itself ns (inl l) = omega (arith, l)
not_itself ns (inr h) = less_not ns h.1
  where
    less_not : (ms : List ℕ) → Less ms ms → ⊥
    less_not [] l = l
    less_not (m ∷ ms) (inl l) = omega (arith, l)
    less_not (m ∷ ms) (inr l) = less_not ms l.1

pub first_of_all : (p : Path) (ps : List Path) → EachPair (λ p q. Precedes p.flights q.flights) (p ∷ ps) → (q : Path) → IsIn q ps → Precedes p.flights q.flights
first_of_all p [] h q i = absurd i
first_of_all p (r ∷ ps) h q (inl e) = subst (λ x. Precedes p.flights x.flights) (sym e) h.0
first_of_all p (r ∷ ps) h q (inr i) = precedes_trans p.flights r.flights q.flights h.0 (first_of_all r ps h.1 q i)

pub not_before : (ps : List Path) (i : ℕ) (d : Path) → EachPair (λ p q. Precedes p.flights q.flights) ps → i < length ps → IsIn (get_or ps i d) (take i ps) → ⊥
not_before [] i d h lt k = omega arith
not_before (p ∷ ps) zero d h lt k = k
not_before (p ∷ ps) (suc i) d h lt (inl e) = not_itself p.flights (subst (λ x. Precedes p.flights x.flights) e (first_of_all p ps h (get_or ps i d) (in_list ps i d (omega arith))))
not_before (p ∷ ps) (suc i) d h lt (inr k) = not_before ps i d (rest p ps h) (omega arith) k
  where
    rest : (p : Path) (ps : List Path) → EachPair (λ p q. Precedes p.flights q.flights) (p ∷ ps) → EachPair (λ p q. Precedes p.flights q.flights) ps
    rest p [] h = tt
    rest p (q ∷ ps) h = h.1

-- lists without repeats
pub different_more : {X : Type 0} (xs ys : List X) → AllDifferent xs → AllDifferent ys → ((x : X) → IsIn x xs → IsIn x ys → ⊥) → AllDifferent (xs ++ ys)
different_more {X} [] ys h k c = k
different_more {X} (x ∷ xs) ys h k c = (put xs ys h.0 (λ i. c x (inl refl) i), different_more xs ys h.1 k (λ y i j. c y (inr i) j))
  where
    put : (us vs : List X) → Each (λ y. x ≢ y) us → (IsIn x vs → ⊥) → Each (λ y. x ≢ y) (us ++ vs)
    put [] [] h n = tt
    put [] (v ∷ vs) h n = ((λ e. n (inl e)), put [] vs tt (λ i. n (inr i)))
    put (u ∷ us) vs h n = (h.0, put us vs h.1 n)

pub none_is : {X : Type 0} (x : X) (xs : List X) → (IsIn x xs → ⊥) → Each (λ y. x ≢ y) xs
none_is x [] n = tt
none_is x (y ∷ xs) n = ((λ e. n (inl e)), none_is x xs (λ i. n (inr i)))

pub longer_not : (ns ms : List ℕ) → ms ≢ [] → ns ≡ ns ++ ms → ⊥
longer_not ns [] some e = some refl
longer_not ns (m ∷ ms) some e = omega (arith, ap length e, length-append ns (m ∷ ms))

each_taken : {X : Type 0} (P : X → Type 0) (xs : List X) (n : ℕ) → Each P xs → Each P (take n xs)
each_taken P xs zero h = tt
each_taken P [] (suc n) h = tt
each_taken P (x ∷ xs) (suc n) h = (h.0, each_taken P xs n h.1)

-- Where a flight's place of arrival is the next, it is apart where all are, and one more is where it is.
module _ {X : Type 0} (P : X → Type 0) (xs : List X) (i : ℕ) (x : X) (next : take (suc i) xs ≡ take i xs ++ x ∷ []) where
  pub next_apart : Each P xs → P x
  next_apart h = (each_right P (take i xs) (x ∷ []) (subst (Each P) next (each_taken P xs (suc i) h))).0

  pub more_apart : Each P (take i xs) → P x → Each P (take (i + 1) xs)
  more_apart h k = subst (λ n. Each P (take n xs)) (one_more i) (subst (Each P) (sym next) (each_append P (take i xs) (x ∷ []) h (k, tt)))
    where
      one_more : (i : ℕ) → suc i ≡ i + 1
      one_more i = omega arith
