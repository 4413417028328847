-- The flights of a component from their numbers, its legs, and its last flight. Given on to the crates above.
use Rattle.std.proofs.Common.{◌≡◌, ℕ, zero, suc, pos, ◌-◌, ◌≤◌, ◌<◌, List, [], ◌∷◌, ◌++◌, length, take, get_or, All, refl, sym, ap, subst, arith}
use Rattle.std.proofs.lemmas.List.Elements.{All-cons, All-nil}
use Rattle.fare_law.specs.declared.flights.Flight.{Flight}
use Rattle.fare_law.specs.declared.sheets.Leg.{Leg}
use Rattle.fare_law.specs.Book.{Book}
use Rattle.fare_law.specs.Lists.{Each, OnFirst, OnLast}
use Rattle.fare_law.specs.Offers.{flights_of}
use Rattle.fare_law.specs.Parts.{Numbers}
use Rattle.law_lemmas.proofs.EachOne.{each_got}
use Rattle.law_lemmas.proofs.Ends.{last_like}
use Rattle.law_lemmas.proofs.Lists.{get_is, got_within}

-- what stands for a flight past the end of a list
abbrev pub no_flight : Flight
no_flight = record { carrier = record { 0 = [] }; number = 0; from = record { 0 = [] }; to = record { 0 = [] }; day = pos 0; minute = 0; dep = pos 0; arr = pos 0 }

pub number_within : (b : Book) (ns : List ℕ) (fs : List Flight) (i : ℕ) → Numbers b ns fs → i < length ns → get_or ns i 0 < length b.timetable.flights
number_within b [] fs i h lt = absurd (omega arith)
number_within b (n ∷ ns) [] i h lt = absurd h
number_within b (n ∷ ns) (f ∷ fs) zero h lt = got_within b.timetable.flights n f h.0
number_within b (n ∷ ns) (f ∷ fs) (suc i) h lt = number_within b ns fs i h.1 (omega arith)

-- the flights so far and one more
pub flights_next : (b : Book) (ns : List ℕ) (fs : List Flight) (i : ℕ) (d : Flight) → Numbers b ns fs → i < length ns → take (suc i) fs ≡ take i fs ++ get_or b.timetable.flights (get_or ns i 0) d ∷ []
flights_next b [] fs i d h lt = absurd (omega arith)
flights_next b (n ∷ ns) [] i d h lt = absurd h
flights_next b (n ∷ ns) (f ∷ fs) zero d h lt = ap (λ x. x ∷ []) (sym (get_is b.timetable.flights n f d h.0))
flights_next b (n ∷ ns) (f ∷ fs) (suc i) d h lt = ap (λ xs. f ∷ xs) (flights_next b ns fs i d h.1 (omega arith))

pub flights_all : (b : Book) (ns : List ℕ) (fs : List Flight) (i : ℕ) → Numbers b ns fs → length ns ≤ i → take i fs ≡ fs
flights_all b [] [] zero h le = refl
flights_all b [] [] (suc i) h le = refl
flights_all b [] (f ∷ fs) i h le = absurd h
flights_all b (n ∷ ns) [] i h le = absurd h
flights_all b (n ∷ ns) (f ∷ fs) zero h le = absurd (omega arith)
flights_all b (n ∷ ns) (f ∷ fs) (suc i) h le = ap (λ xs. f ∷ xs) (flights_all b ns fs i h.1 (omega arith))

pub legs_more : (legs : List Leg) (leg : Leg) → flights_of (legs ++ leg ∷ []) ≡ flights_of legs ++ leg.flight ∷ []
legs_more [] leg = refl
legs_more (l ∷ legs) leg = ap (λ xs. l.flight ∷ xs) (legs_more legs leg)

pub last_stands : (fs : List Flight) (d : Flight) → 1 ≤ length fs → OnLast (λ f. get_or fs (length fs - 1) d ≡ f) fs
last_stands [] d h = absurd (omega arith)
last_stands (f ∷ []) d h = refl
last_stands (f ∷ g ∷ fs) d h = subst (λ k. OnLast (λ x. get_or (f ∷ g ∷ fs) k d ≡ x) (g ∷ fs)) (shift (length fs)) (last_stands (g ∷ fs) d (omega arith))
  where
    shift : (k : ℕ) → suc (suc k - 1) ≡ suc (suc k) - 1
    shift k = omega arith

pub numbered_hold : (P : Flight → Type 0) (b : Book) (ns : List ℕ) (fs : List Flight) → Each P b.timetable.flights → Numbers b ns fs → All P fs
numbered_hold P b [] [] h k = All-nil P
numbered_hold P b [] (f ∷ fs) h k = absurd k
numbered_hold P b (n ∷ ns) [] h k = absurd k
numbered_hold P b (n ∷ ns) (f ∷ fs) h k = All-cons P f fs (each_got P b.timetable.flights n f h k.0) (numbered_hold P b ns fs h k.1)

-- what holds of the last flight, beside what holds of the first
pub on_ends : (P : Flight → Flight → Type 0) (first last : Flight) (fs : List Flight) → OnFirst (λ f. first ≡ f) fs → OnLast (λ f. last ≡ f) fs → P first last → OnFirst (λ f. OnLast (λ z. P f z) fs) fs
on_ends P first last [] a b h = absurd a
on_ends P first last (f ∷ fs) a b h = last_like (λ z. last ≡ z) (λ z. P f z) (f ∷ fs) b (λ z e. subst (λ y. P f y) e (subst (λ y. P y last) a h))
