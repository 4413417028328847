-- Flights are cut at the first arrival at a slice's destination, and at no other place. Given on to the crates above.
use Rattle.std.proofs.Common.{◌≡◌, ◌≢◌, ◌↔◌, ◌<◌, ◌+◌, ◌∙◌, ℕ, ℤ, List, [], ◌∷◌, ◌++◌, Option, Some, option_map, IfSome, length, take, drop, get_or, ap, ap₂, sym, subst}
use Rattle.fare_law.specs.declared.flights.Flight.{Flight}
use Rattle.fare_law.specs.declared.names.Place.{Place}
use Rattle.fare_law.specs.declared.requests.Slice.{Slice}
use Rattle.fare_law.specs.Book.{Book}
use Rattle.fare_law.specs.Days.{IsInstant}
use Rattle.fare_law.specs.Journey.{Joins}
use Rattle.fare_law.specs.Limits.{IsFlight}
use Rattle.fare_law.specs.Lists.{Each, EachPair, OnFirst, OnLast, LastDiffers}
use Rattle.ticket_whole.specs.declared.demand.JourneyDemand.{JourneyDemand}
use Rattle.ticket_whole.specs.Cuts.{IsCut, SliceMeets, CutsMeet}
use Rattle.ticket_whole.specs.Known.{ends_of}
use Rattle.ticket_whole.proofs.FlightEnds.{on_last, last_on}
use Rattle.law_lemmas.proofs.Lists.{front_at, head_same, rest_at, tail_same}

abbrev pub EndsAt : Place → List Flight → Type 0
EndsAt p fs = LastDiffers (λ f. f.to ≢ p) (λ f. f.to ≡ p) fs

last_more : (p : Place) (fs : List Flight) (f : Flight) → Each (λ g. g.to ≢ p) fs → f.to ≡ p → EndsAt p (fs ++ f ∷ [])
last_more p [] f h e = e
last_more p (g ∷ []) f h e = (h.0, e)
last_more p (g ∷ k ∷ fs) f h e = (h.0, last_more p (k ∷ fs) f h.1 e)

pub ends_here : (p : Place) (fs : List Flight) (at : ℕ) (d : Flight) → at < length fs → Each (λ g. g.to ≢ p) (take at fs) → (get_or fs at d).to ≡ p → EndsAt p (take (at + 1) fs)
ends_here p fs at d lt h e = subst (EndsAt p) (sym (front_at fs at d lt)) (last_more p (take at fs) (get_or fs at d) h e)

one_cut : (p : Place) (fs gs more rest : List Flight) → EndsAt p fs → EndsAt p gs → fs ++ more ≡ gs ++ rest → (fs ≡ gs) × (more ≡ rest)
one_cut p [] gs more rest h k e = absurd h
one_cut p (f ∷ fs) [] more rest h k e = absurd k
one_cut p (f ∷ []) (g ∷ []) more rest h k e = (ap (λ x. x ∷ []) (head_same f g more rest e), tail_same f g more rest e)
one_cut p (f ∷ []) (g ∷ x ∷ gs) more rest h k e = absurd (k.0 (ap (λ (y : Flight). y.to) (sym (head_same f g more (x ∷ gs ++ rest) e)) ∙ h))
one_cut p (f ∷ x ∷ fs) (g ∷ []) more rest h k e = absurd (h.0 (ap (λ (y : Flight). y.to) (head_same f g (x ∷ fs ++ more) rest e) ∙ k))
one_cut p (f ∷ x ∷ fs) (g ∷ y ∷ gs) more rest h k e =
    let r = one_cut p (x ∷ fs) (y ∷ gs) more rest h.1 k.1 (tail_same f g (x ∷ fs ++ more) (y ∷ gs ++ rest) e) in
    (ap₂ (λ z zs. z ∷ zs) (head_same f g (x ∷ fs ++ more) (y ∷ gs ++ rest) e) r.0, r.1)

never_ends : (p : Place) (fs more : List Flight) → EndsAt p fs → Each (λ g. g.to ≢ p) (fs ++ more) → ⊥
never_ends p [] more h n = h
never_ends p (f ∷ []) more h n = n.0 h
never_ends p (f ∷ g ∷ fs) more h n = never_ends p (g ∷ fs) more h.1 n.1

-- what the flights up to the first arrival are, where the flights are cut into slices
pub cut_first : (b : Book) (d : JourneyDemand) (arrival : Option ℤ) (s : Slice) (ss : List Slice) (fs now later : List Flight) → fs ≡ now ++ later → EndsAt s.to now → CutsMeet b d arrival (s ∷ ss) fs
    → IsCut s now × SliceMeets b d arrival s now × OnLast (λ f. CutsMeet b d (Some f.arr) ss later) now
cut_first b d arrival s ss fs now later e ends h =
    let same = one_cut s.to h.0 now h.1 later h.3.ends ends (sym h.2 ∙ e) in
    subst (λ gs. IsCut s gs × SliceMeets b d arrival s gs × OnLast (λ f. CutsMeet b d (Some f.arr) ss later) gs) same.0
    (h.3, h.4, subst (λ gs. OnLast (λ f. CutsMeet b d (Some f.arr) ss gs) h.0) same.1 h.5)

module _ (b : Book) (d : JourneyDemand) (arrival : Option ℤ) (slices : List Slice) (i : ℕ) (dflt : Slice) (lt : i < length slices) where
  abbrev slice : Slice
  slice = get_or slices i dflt

  first_slice : (fs : List Flight) → CutsMeet b d arrival (drop i slices) fs → CutsMeet b d arrival (slice ∷ drop (i + 1) slices) fs
  first_slice fs h = subst (λ ss. CutsMeet b d arrival ss fs) (rest_at slices i dflt lt) h

  pub cut_none : (fs : List Flight) → Each (λ f. f.to ≢ slice.to) fs → CutsMeet b d arrival (drop i slices) fs → ⊥
  cut_none fs n h = let k = first_slice fs h in never_ends slice.to k.0 k.1 k.3.ends (subst (Each (λ f. f.to ≢ slice.to)) k.2 n)

  pub start_wrong : (fs now later : List Flight) → fs ≡ now ++ later → EndsAt slice.to now → ((OnFirst (λ f. f.from ≡ slice.from) now × EachPair Joins now) → ⊥) → CutsMeet b d arrival (drop i slices) fs → ⊥
  start_wrong fs now later e ends wrong h = let k = cut_first b d arrival slice (drop (i + 1) slices) fs now later e ends (first_slice fs h) in wrong (k.0.begins, k.0.joined)

  pub demand_wrong : (fs now later : List Flight) → fs ≡ now ++ later → EndsAt slice.to now → (SliceMeets b d arrival slice now → ⊥) → CutsMeet b d arrival (drop i slices) fs → ⊥
  demand_wrong fs now later e ends wrong h = wrong (cut_first b d arrival slice (drop (i + 1) slices) fs now later e ends (first_slice fs h)).1

  next_from : (now later : List Flight) → OnLast (λ f. CutsMeet b d (Some f.arr) (drop (i + 1) slices) later) now → CutsMeet b d (option_map (λ (e : Flight × Flight). e.1.arr) (ends_of now)) (drop (i + 1) slices) later
  next_from [] later h = absurd h
  next_from (f ∷ fs) later h = on_last (λ g. CutsMeet b d (Some g.arr) (drop (i + 1) slices) later) f fs h

  from_next : (p : Place) (now later : List Flight) → EndsAt p now → CutsMeet b d (option_map (λ (e : Flight × Flight). e.1.arr) (ends_of now)) (drop (i + 1) slices) later → OnLast (λ f. CutsMeet b d (Some f.arr) (drop (i + 1) slices) later) now
  from_next p [] later ends h = absurd ends
  from_next p (f ∷ fs) later ends h = last_on (λ g. CutsMeet b d (Some g.arr) (drop (i + 1) slices) later) f fs h

  pub cut_on : (fs now later : List Flight) → fs ≡ now ++ later → EndsAt slice.to now → OnFirst (λ f. f.from ≡ slice.from) now × EachPair Joins now → SliceMeets b d arrival slice now
      → CutsMeet b d arrival (drop i slices) fs ↔ CutsMeet b d (option_map (λ (e : Flight × Flight). e.1.arr) (ends_of now)) (drop (i + 1) slices) later
  cut_on fs now later e ends start meets = (
    λ h. next_from now later (cut_first b d arrival slice (drop (i + 1) slices) fs now later e ends (first_slice fs h)).2,
    λ k. subst (λ ss. CutsMeet b d arrival ss fs) (sym (rest_at slices i dflt lt)) (now, later, e, record { begins = start.0; ends = ends; joined = start.1 }, meets, from_next slice.to now later ends k),
  )

pub arrives_in_time : (fs : List Flight) → Each IsFlight fs → IfSome (option_map (λ (e : Flight × Flight). e.1.arr) (ends_of fs)) IsInstant
arrives_in_time [] h = tt
arrives_in_time (f ∷ []) h = h.0.arr
arrives_in_time (f ∷ g ∷ fs) h = arrives_in_time (g ∷ fs) h.1
