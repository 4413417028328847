-- Flights beside the next ones, and the places that they call at.
use Rattle.std.proofs.Common.{◌≢◌, ◌↔◌, ◌<◌, ◌≤◌, ◌+◌, ◌&&◌, ℕ, zero, suc, ℤ, pos, ◌+ℤ◌, ◌≤ℤ◌, int_le, List, [], ◌∷◌, Bool, refl, sym, subst, drop, get_or, length, map, arith}
use Rattle.std.specs.Bool.{Decides}
use Rattle.std.specs.List.{zip, list_all, All}
use Rattle.std.proofs.lemmas.Bool.Decides.{Decides-and}
use Rattle.std.proofs.lemmas.Int.{ints}
use Rattle.std.proofs.lemmas.List.{drop_all}
use Rattle.std.proofs.lemmas.List.Elements.{All-nil, All-cons}
use Rattle.fare_law.specs.declared.flights.Flight.{Flight}
use Rattle.fare_law.specs.declared.names.Place.{Place}
use Rattle.fare_law.specs.Book.{Book, connect, same_place}
use Rattle.fare_law.specs.Journey.{Joins, ShortStop, calls}
use Rattle.fare_law.specs.Lists.{AllDifferent, Each, EachPair}
use Rattle.law_lemmas.proofs.Lists.{rest_at}
use Rattle.law_lemmas.proofs.Names.{places_told}

pairs_told : {X : Type 0} (p : X → X → Bool) (R : X → X → Type 0) → ((a b : X) → Decides (p a b) (R a b)) → (xs : List X) → Decides (list_all (λ (q : X × X). p q.0 q.1) (zip xs (drop 1 xs))) (EachPair R xs)
pairs_told p R d [] = (λ _. tt, λ _. refl)
pairs_told p R d (x ∷ []) = (λ _. tt, λ _. refl)
pairs_told p R d (x ∷ y ∷ ys) = Decides-and _ _ (d x y) (pairs_told p R d (y ∷ ys))

pub joined_told : (fs : List Flight) → Decides (list_all (λ (p : Flight × Flight). same_place p.1.from p.0.to) (zip fs (drop 1 fs))) (EachPair Joins fs)
joined_told fs = pairs_told (λ f g. same_place g.from f.to) Joins (λ f g. places_told g.from f.to) fs

int_told : (a b : ℤ) → Decides (int_le a b) (a ≤ℤ b)
int_told a b = (λ h. grind (arith, ints), λ h. grind (arith, ints))

pub short_told : (b : Book) (fs : List Flight)
    → Decides (list_all (λ (p : Flight × Flight). int_le (p.0.arr +ℤ pos (connect b p.1.from)) p.1.dep && int_le p.1.dep (p.0.arr +ℤ pos 1440)) (zip fs (drop 1 fs))) (EachPair (ShortStop b) fs)
short_told b fs = pairs_told (λ f g. int_le (f.arr +ℤ pos (connect b g.from)) g.dep && int_le g.dep (f.arr +ℤ pos 1440)) (ShortStop b) (λ f g. Decides-and _ _ (int_told _ _) (int_told _ _)) fs

each_missed : (p : Place) (fs : List Flight) → All (λ f. p ≢ f.to) fs → Each (λ q. p ≢ q) (map (λ f. f.to) fs)
each_missed p [] h = tt
each_missed p (f ∷ fs) h = (h zero f (omega arith), each_missed p fs (λ k d lt. h (suc k) d (omega (arith, lt))))

missed_all : (p : Place) (fs : List Flight) → Each (λ q. p ≢ q) (map (λ f. f.to) fs) → All (λ f. p ≢ f.to) fs
missed_all p [] h = All-nil (λ f. p ≢ f.to)
missed_all p (f ∷ fs) h = All-cons (λ f. p ≢ f.to) f fs h.0 (missed_all p fs h.1)

all_calls : (p : Place) (fs : List Flight) → AllDifferent (calls p fs) → All (λ f. p ≢ f.to) fs
all_calls p fs h = missed_all p fs h.0

calls_on : (p : Place) (f : Flight) (fs : List Flight) → All (λ g. p ≢ g.to) (f ∷ fs) → AllDifferent (calls p (f ∷ fs)) ↔ AllDifferent (calls f.to fs)
calls_on p f fs m = (λ h. h.1, λ k. (each_missed p (f ∷ fs) m, k))

-- the calls from here on are all different where this place comes no more and the calls from the next on are
pub once_more : (p : Place) (fs : List Flight) (at : ℕ) (d : Flight) → at < length fs → All (λ f. p ≢ f.to) (drop at fs) → AllDifferent (calls p (drop at fs)) ↔ AllDifferent (calls (get_or fs at d).to (drop (at + 1) fs))
once_more p fs at d lt m =
    subst (λ gs. AllDifferent (calls p gs) ↔ AllDifferent (calls (get_or fs at d).to (drop (at + 1) fs))) (sym (rest_at fs at d lt))
    (calls_on p (get_or fs at d) (drop (at + 1) fs) (subst (All (λ f. p ≢ f.to)) (rest_at fs at d lt) m))

pub missed_from : (p : Place) (fs : List Flight) (at : ℕ) → AllDifferent (calls p (drop at fs)) → All (λ f. p ≢ f.to) (drop at fs)
missed_from p fs at h = all_calls p (drop at fs) h

pub none_left : (p : Place) (fs : List Flight) (at : ℕ) → length fs ≤ at → AllDifferent (calls p (drop at fs))
none_left p fs at le = subst (λ gs. AllDifferent (calls p gs)) (sym (drop_all at fs le)) (tt, tt)
