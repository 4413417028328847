-- Which requests are refused, and for what reason.
use Rattle.std.specs.Prelude.{ℕ, ℤ, Bool, true, false, not, nat_le, int_le, ◌&&◌, List, length, map, Option, Some, None}
use Rattle.std.specs.List.{list_all, list_any}
use Rattle.fare_law.specs.declared.limits.TheConstants.{FIRST_DAY, LAST_DAY, MOST_SLICES, MOST_PASSENGERS, MOST_TICKETS, MOST_WINDOW_DAYS}
use Rattle.fare_law.specs.declared.names.Place.{Place}
use Rattle.fare_law.specs.declared.requests.Request.{Request}
use Rattle.fare_law.specs.declared.requests.Slice.{Slice}
use Rattle.fare_law.specs.declared.requests.Why.{Why}
use Rattle.fare_law.specs.declared.requests.Why.TheVariants.{Slices, Party, Best, Window, SamePlace, UnknownPlace}
use Rattle.fare_law.specs.Book.{Book, same_place}
use Rattle.fare_law.specs.Limits.{IsPlace}

abbrev pub within : ℕ → ℕ → ℕ → Bool
within low high n = nat_le low n && nat_le n high

-- a day from 2000-01-01 to 2099-12-31
abbrev pub in_century : ℤ → Bool
in_century day = int_le FIRST_DAY day && int_le day LAST_DAY

-- a window of 1 to 7 days
abbrev pub has_window : Slice → Bool
has_window s = in_century s.first && within 1 MOST_WINDOW_DAYS s.days

-- the slice ends elsewhere than it begins
abbrev pub departs : Slice → Bool
departs s = not (same_place s.from s.to)

abbrev pub is_known : List Place → Place → Bool
is_known places p = list_any (same_place p) places

abbrev pub are_known : List Place → Slice → Bool
are_known places s = is_known places s.from && is_known places s.to

-- the reason where the test fails, and else what comes after it
abbrev pub required : Bool → Why → Option Why → Option Why
required true why next = next
required false why next = Some why

-- the first reason that the numbers and names of the request give, and else what comes after them
abbrev pub by_limits : Request → Option Why → Option Why
by_limits q next =
    required (within 1 MOST_SLICES (length q.slices)) Slices
    (required (within 1 MOST_PASSENGERS q.party) Party
    (required (within 1 MOST_TICKETS q.best) Best
    (required (in_century q.sale && list_all has_window q.slices) Window
    (required (list_all departs q.slices) SamePlace next))))

-- the first reason for which the request is refused whatever places are known
abbrev pub judged_alone : Request → Option Why
judged_alone q = by_limits q None

-- the first reason for which the request is refused where these places are known
abbrev pub judged : List Place → Request → Option Why
judged places q = by_limits q (required (list_all (are_known places) q.slices) UnknownPlace None)

-- the places that a book knows
abbrev pub known_places : Book → List Place
known_places b = map (λ row. row.place) b.timetable.places

-- the slice goes between places of their form
abbrev pub NamesPlaces : Slice → Type 0
NamesPlaces s = IsPlace s.from × IsPlace s.to
