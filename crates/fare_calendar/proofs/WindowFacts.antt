-- Flights that are in both windows or in neither: for `same_windows`.
use Rattle.std.proofs.Common.{◌≡◌, ◌∙◌, ◌≤◌, ◌<◌, ℕ, List, length, All, Some, slice_get, IfSome, sym, ap, subst}
use Rattle.fare_calendar.specs.Sharing.{IsFirst, SameWindows}
use Rattle.fare_calendar.specs.Windows.{IsAlike}
use Rattle.fare_law.specs.Book.{Book}
use Rattle.fare_law.specs.Journey.{InWindow}
use Rattle.fare_law.specs.Lists.{IsIn}
use Rattle.fare_law.specs.declared.flights.Flight.{Flight}
use Rattle.fare_law.specs.declared.requests.Request.{Request}
use Rattle.fare_law.specs.declared.requests.Slice.{Slice}
use Rattle.flight_paths.specs.declared.positions.Position.{Position}
use Rattle.flight_paths.specs.Positions.{in_window}
use Rattle.flight_paths.proofs.Told.{window_from, window_to}
use Rattle.law_lemmas.proofs.Lists.{get_is, got_within}
use Rattle.law_lemmas.proofs.Members.{in_got}
use Rattle.law_lemmas.proofs.Options.{some_same}
use Rattle.schedule_book.specs.Departures.{AreDepartures}

all_in : {X : Type 0} (P : X → Type 0) (xs : List X) (x : X) → All P xs → IsIn x xs → P x
all_in P xs x h i = let r = in_got xs x i in subst P (get_is xs r.0 x x r.1) (h r.0 x (got_within xs r.0 x r.1))

pub windows_same : (b : Book) (q r : Request) (here : Position) (flights : List Flight) (numbers : List ℕ) (one other : Slice) → flights ≡ b.timetable.flights → AreDepartures flights here.place here.lo here.hi numbers
    → slice_get q.slices 0 ≡ Some one → slice_get r.slices 0 ≡ Some other → ((at : Position) → IsFirst b r at → here ≡ at) → All (IsAlike flights one other) numbers → SameWindows b q r
windows_same b q r here flights numbers one other same departures eo et is all at s t first es er n f low high known from =
    let e = is at first in
    let known' : slice_get flights n ≡ Some f = ap (λ (fs : List Flight). slice_get fs n) same ∙ known in
    let i : IsIn n numbers = (departures.are n).1 (subst (λ (p : Position). p.lo ≤ n) (sym e) low, subst (λ (p : Position). n < p.hi) (sym e) high, (f, known', from ∙ sym (ap (λ p. p.place) e))) in
    let alike : in_window one f ≡ in_window other f = subst (λ o. IfSome o (λ g. in_window one g ≡ in_window other g)) known' (all_in (IsAlike flights one other) numbers n all i) in
    let a : one ≡ s = some_same one s (sym eo ∙ es) in
    let c : other ≡ t = some_same other t (sym et ∙ er) in (
      λ w. subst (λ (x : Slice). InWindow x f) c (window_from other f (sym alike ∙ window_to one f (subst (λ (x : Slice). InWindow x f) (sym a) w))),
      λ w. subst (λ (x : Slice). InWindow x f) a (window_from one f (alike ∙ window_to other f (subst (λ (x : Slice). InWindow x f) (sym c) w))),
    )
