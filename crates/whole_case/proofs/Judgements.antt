-- A request within its limits is refused for unknown places alone.
use Rattle.std.proofs.Common.{◌≡◌, ℕ, Err, Bool, true, false, ◌||◌, ◌&&◌, cond, List, [], ◌∷◌, length, map, find, Option, Some, None, option_map, is_some, refl, sym, ap, ◌∙◌}
use Rattle.std.specs.List.{list_all}
use Rattle.fare_law.specs.declared.names.Place.{Place}
use Rattle.fare_law.specs.declared.requests.Request.{Request}
use Rattle.fare_law.specs.declared.requests.Why.{Why}
use Rattle.fare_law.specs.declared.requests.Why.TheVariants.{Slices, Party, Best, Window, SamePlace, UnknownPlace}
use Rattle.fare_law.specs.declared.rows.PlaceRow.{PlaceRow}
use Rattle.fare_law.specs.Book.{Book, same_place}
use Rattle.fare_law.specs.Limits.{IsRequest}
use Rattle.fare_law.specs.Requests.{are_known, by_limits, departs, has_window, in_century, is_known, judged, judged_alone, known_places, required, within}
use Rattle.fare_law.specs.declared.limits.TheConstants.{MOST_PASSENGERS, MOST_SLICES, MOST_TICKETS}
use Rattle.fare_law.proofs.Judged.{within_judged}
use Rattle.schedule_book.specs.Connects.{connect_of}
use Rattle.whole_case.specs.declared.refusals.LoadFault.{LoadFault}
use Rattle.whole_case.specs.declared.refusals.LoadFault.TheVariants.{Refused, Mem}
use Rattle.whole_case.specs.declared.refusals.Reason.TheVariants.{BadRequest}
use Rattle.whole_case.specs.declared.refusals.Refusal.{Refusal}
use Rattle.whole_case.specs.Refusals.{IsAs, refused_at}
use Rattle.whole_case.specs.Requests.{allowed_in}
use Rattle.whole_case.specs.Stages.{Reads}

-- where a test gives no reason, what comes after it decides
pub tested : (test : Bool) (why : Why) (next : Option Why) → required test why next ≡ None → (test ≡ true) × (next ≡ None)
tested true why next e = (refl, e)
tested false why next e = absurd (cc)

pub same_after : (test : Bool) (why : Why) (next other : Option Why) → test ≡ true → next ≡ other → required test why next ≡ other
same_after true why next other t e = e
same_after false why next other t e = absurd (cc)

limits_kept : (q : Request) → judged_alone q ≡ None → (next : Option Why) → by_limits q next ≡ next
limits_kept q e next =
    let a = tested (within 1 MOST_SLICES (length q.slices)) Slices _ e in
    let b = tested (within 1 MOST_PASSENGERS q.party) Party _ a.1 in
    let c = tested (within 1 MOST_TICKETS q.best) Best _ b.1 in
    let d = tested (in_century q.sale && list_all has_window q.slices) Window _ c.1 in
    let f = tested (list_all departs q.slices) SamePlace None d.1 in
    same_after _ Slices _ next a.0 (same_after _ Party _ next b.0 (same_after _ Best _ next c.0 (same_after _ Window _ next d.0 (same_after _ SamePlace next next f.0 refl))))

judged_is : (b : Book) (q : Request) (known : Bool) → IsRequest q → known ≡ list_all (are_known (known_places b)) q.slices → judged (known_places b) q ≡ required known UnknownPlace None
judged_is b q known h e = limits_kept q (within_judged q h) (required (list_all (are_known (known_places b)) q.slices) UnknownPlace None) ∙ ap (λ x. required x UnknownPlace None) (sym e)

pub known_alone : (b : Book) (q : Request) (known : Bool) → IsRequest q → known ≡ list_all (are_known (known_places b)) q.slices → known ≡ true → judged (known_places b) q ≡ None
known_alone b q known h e t = judged_is b q known h e ∙ ap (λ x. required x UnknownPlace None) t

-- an unknown place is the reason that is told
pub unknown_stops : (b : Book) (line : ℕ) (q : Request) (known : Bool) (fault : LoadFault) → IsRequest q → known ≡ list_all (are_known (known_places b)) q.slices → known ≡ false
    → IsAs fault (Some (refused_at line (BadRequest UnknownPlace))) → Reads {A = Unit {0}} (Err fault) (allowed_in b line q)
unknown_stops b line q known (Refused refusal) h e t is = (UnknownPlace, judged_is b q known h e ∙ ap (λ x. required x UnknownPlace None) t, told (refused_at line (BadRequest UnknownPlace)) refusal is)
  where
    told : (one other : Refusal) → Some one ≡ Some other → other ≡ one
    told one other e = cc
unknown_stops b line q known Mem h e t is = tt

-- a place is known where it has a connect time
known_row : (rows : List PlaceRow) (place : Place) → is_some (connect_of rows place) ≡ is_known (map (λ row. row.place) rows) place
known_row [] place = refl
known_row (r ∷ rows) place = by (same_place place r.place) (known_row rows place)
  where
    by : (b : Bool) → is_some (connect_of rows place) ≡ is_known (map (λ row. row.place) rows) place
        → is_some (option_map (λ (row : PlaceRow). row.connect) (cond b (Some r) (find (λ row. same_place place row.place) rows))) ≡ (b || is_known (map (λ row. row.place) rows) place)
    by true e = refl
    by false e = e

pub known_told : (b : Book) (place : Place) → is_some (connect_of b.timetable.places place) ≡ is_known (known_places b) place
known_told b place = known_row b.timetable.places place
