-- How the flights of a ticket are cut into the slices of a request.
use Rattle.std.specs.Prelude.{◌≡◌, ◌≢◌, ℤ, ◌≤◌, List, [], ◌∷◌, ◌++◌, length, Option, Some}
use Rattle.fare_law.specs.declared.flights.Flight.{Flight}
use Rattle.fare_law.specs.declared.requests.Slice.{Slice}
use Rattle.fare_law.specs.Book.{Book}
use Rattle.fare_law.specs.Journey.{Joins, calls, ShortStop, InWindow, LateEnough}
use Rattle.fare_law.specs.Lists.{EachPair, OnFirst, OnLast, LastDiffers, AllDifferent}
use Rattle.ticket_whole.specs.declared.demand.JourneyDemand.{JourneyDemand}
use Rattle.ticket_whole.specs.declared.demand.JourneyDemand.TheVariants.{Slices, Length, Places, Connections, Window}

-- These flights are cut off for a slice: from its origin, each from where the one before arrived, to the first arrival at its destination.
pub record IsCut (s : Slice) (fs : List Flight) : Type 0 where
  pub begins : OnFirst (λ f. f.from ≡ s.from) fs
  pub ends : LastDiffers (λ f. f.to ≢ s.to) (λ f. f.to ≡ s.to) fs
  pub joined : EachPair Joins fs

-- What the flights of one slice meet, after an arrival if there was one.
abbrev pub SliceMeets : Book → JourneyDemand → Option ℤ → Slice → List Flight → Type 0
SliceMeets b Slices arrival s fs = Unit {0}
SliceMeets b Length arrival s fs = length fs ≤ 3
SliceMeets b Places arrival s fs = AllDifferent (calls s.from fs)
SliceMeets b Connections arrival s fs = EachPair (ShortStop b) fs × OnFirst (LateEnough b arrival) fs
SliceMeets b Window arrival s fs = OnFirst (InWindow s) fs

-- After an arrival the flights are cut into these slices, and those of each slice meet the demand.
abbrev pub CutsMeet : Book → JourneyDemand → Option ℤ → List Slice → List Flight → Type 0
CutsMeet b demand arrival [] fs = fs ≡ []
CutsMeet b demand arrival (s ∷ ss) fs =
    (now : List Flight) × (later : List Flight) × (fs ≡ now ++ later)
    × IsCut s now × SliceMeets b demand arrival s now
    × OnLast (λ f. CutsMeet b demand (Some f.arr) ss later) now
