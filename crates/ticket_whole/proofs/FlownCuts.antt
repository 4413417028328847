-- Flights are a request's journey exactly where their one cut meets the five demands.
use Rattle.std.proofs.Common.{ℤ, List, [], ◌∷◌, Option, Some}
use Rattle.fare_law.specs.declared.flights.Flight.{Flight}
use Rattle.fare_law.specs.declared.requests.Slice.{Slice}
use Rattle.fare_law.specs.Book.{Book}
use Rattle.fare_law.specs.Journey.{FliesSlice, FliesFrom, LateEnough}
use Rattle.fare_law.specs.Lists.{OnFirst, OnLast}
use Rattle.ticket_whole.specs.declared.demand.JourneyDemand.{JourneyDemand}
use Rattle.ticket_whole.specs.declared.demand.JourneyDemand.TheVariants.{Slices, Length, Places, Connections, Window}
use Rattle.ticket_whole.specs.Cuts.{SliceMeets, CutsMeet}
use Rattle.ticket_whole.proofs.CutLemmas.{cut_first}
use Rattle.law_lemmas.proofs.LawFacts.{on_last_to}

slice_meets : (b : Book) (d : JourneyDemand) (arrival : Option ℤ) (s : Slice) (fs : List Flight) → FliesSlice b s fs → OnFirst (LateEnough b arrival) fs → SliceMeets b d arrival s fs
slice_meets b Slices arrival s fs h late = tt
slice_meets b Length arrival s fs h late = h.few
slice_meets b Places arrival s fs h late = h.apart
slice_meets b Connections arrival s fs h late = (h.stops, late)
slice_meets b Window arrival s fs h late = h.window

pub flown_meets : (b : Book) (d : JourneyDemand) (arrival : Option ℤ) (ss : List Slice) (fs : List Flight) → FliesFrom b arrival ss fs → CutsMeet b d arrival ss fs
flown_meets b d arrival [] fs h = h
flown_meets b d arrival (s ∷ ss) fs h = (
  h.0,
  h.1,
  h.2,
  record { begins = h.3.begins; ends = h.3.ends; joined = h.3.joined },
  slice_meets b d arrival s h.0 h.3 h.4,
  on_last_to (λ f. FliesFrom b (Some f.arr) ss h.1) (λ f. CutsMeet b d (Some f.arr) ss h.1) h.0 (λ f k. flown_meets b d (Some f.arr) ss h.1 k) h.5,
)

-- what holds of the last flight by all five
all_last : (P1 P2 P3 P4 P5 Q : Flight → Type 0) (fs : List Flight) → ((f : Flight) → P1 f → P2 f → P3 f → P4 f → P5 f → Q f) → OnLast P1 fs → OnLast P2 fs → OnLast P3 fs → OnLast P4 fs → OnLast P5 fs → OnLast Q fs
all_last P1 P2 P3 P4 P5 Q [] to a b c d e = a
all_last P1 P2 P3 P4 P5 Q (f ∷ []) to a b c d e = to f a b c d e
all_last P1 P2 P3 P4 P5 Q (f ∷ g ∷ fs) to a b c d e = all_last P1 P2 P3 P4 P5 Q (g ∷ fs) to a b c d e

pub meets_flown : (b : Book) (arrival : Option ℤ) (ss : List Slice) (fs : List Flight)
    → CutsMeet b Slices arrival ss fs → CutsMeet b Length arrival ss fs → CutsMeet b Places arrival ss fs → CutsMeet b Connections arrival ss fs → CutsMeet b Window arrival ss fs → FliesFrom b arrival ss fs
meets_flown b arrival [] fs one two three four five = one
meets_flown b arrival (s ∷ ss) fs one two three four five =
    let now = one.0 in
    let later = one.1 in
    let ends = one.3.ends in
    let k2 = cut_first b Length arrival s ss fs now later one.2 ends two in
    let k3 = cut_first b Places arrival s ss fs now later one.2 ends three in
    let k4 = cut_first b Connections arrival s ss fs now later one.2 ends four in
    let k5 = cut_first b Window arrival s ss fs now later one.2 ends five in (
      now,
      later,
      one.2,
      record { few = k2.1; begins = one.3.begins; ends = ends; joined = one.3.joined; stops = k4.1.0; apart = k3.1; window = k5.1 },
      k4.1.1,
      all_last (λ f. CutsMeet b Slices (Some f.arr) ss later) (λ f. CutsMeet b Length (Some f.arr) ss later) (λ f. CutsMeet b Places (Some f.arr) ss later) (λ f. CutsMeet b Connections (Some f.arr) ss later) (λ f. CutsMeet b Window (Some f.arr) ss later)
          (λ f. FliesFrom b (Some f.arr) ss later) now (λ f a c d e g. meets_flown b (Some f.arr) ss later a c d e g) one.5 k2.2 k3.2 k4.2 k5.2,
    )
