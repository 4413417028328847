-- The flights of a ticket against the slices of the request.
use Rattle.std.specs.Prelude.{◌≡◌, ◌≢◌, ℤ, pos, ◌≤◌, ◌+ℤ◌, ◌≤ℤ◌, ◌<ℤ◌, List, [], ◌∷◌, ◌++◌, length, map, Option, Some, None}
use Rattle.fare_law.specs.declared.flights.Flight.{Flight}
use Rattle.fare_law.specs.declared.names.Place.{Place}
use Rattle.fare_law.specs.declared.requests.Slice.{Slice}
use Rattle.fare_law.specs.Book.{Book, connect}
use Rattle.fare_law.specs.Lists.{EachPair, OnFirst, OnLast, LastDiffers, AllDifferent}

-- the next flight departs where this one arrives
abbrev pub Joins : Flight → Flight → Type 0
Joins f g = g.from ≡ f.to

-- the places that flights from here call at
abbrev pub calls : Place → List Flight → List Place
calls origin fs = origin ∷ map (λ f. f.to) fs

-- long enough for the place, and at most a day
abbrev pub ShortStop : Book → Flight → Flight → Type 0
ShortStop b f g = ((f.arr +ℤ pos (connect b g.from)) ≤ℤ g.dep) × (g.dep ≤ℤ (f.arr +ℤ pos 1440))

abbrev pub InWindow : Slice → Flight → Type 0
InWindow s f = (s.first ≤ℤ f.day) × (f.day <ℤ (s.first +ℤ pos s.days))

-- These are the flights of one slice.
pub record FliesSlice (b : Book) (s : Slice) (fs : List Flight) : Type 0 where
  pub few : length fs ≤ 3
  pub begins : OnFirst (λ f. f.from ≡ s.from) fs
  pub ends : LastDiffers (λ f. f.to ≢ s.to) (λ f. f.to ≡ s.to) fs
  pub joined : EachPair Joins fs
  pub stops : EachPair (ShortStop b) fs
  pub apart : AllDifferent (calls s.from fs)
  pub window : OnFirst (InWindow s) fs

-- not before the least connect time after an arrival, if there was one
abbrev pub LateEnough : Book → Option ℤ → Flight → Type 0
LateEnough b None f = Unit {0}
LateEnough b (Some arrival) f = (arrival +ℤ pos (connect b f.from)) ≤ℤ f.dep

-- After this arrival the flights are those of these slices, one slice after another.
abbrev pub FliesFrom : Book → Option ℤ → List Slice → List Flight → Type 0
FliesFrom b arrival [] fs = fs ≡ []
FliesFrom b arrival (s ∷ ss) fs =
    (now : List Flight) × (later : List Flight) × (fs ≡ now ++ later)
    × FliesSlice b s now × OnFirst (LateEnough b arrival) now
    × OnLast (λ f. FliesFrom b (Some f.arr) ss later) now

abbrev pub Itinerary : Book → List Slice → List Flight → Type 0
Itinerary b slices fs = FliesFrom b None slices fs
