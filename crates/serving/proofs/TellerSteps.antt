-- The tellers of watches, one after another: for `tellers_of`.
use Rattle.std.proofs.Common.{◌≡◌, ◌∙◌, List, ap, sym, subst}
use Rattle.fare_law.specs.Book.{Book}
use Rattle.fare_versions.specs.Published.{Published}
use Rattle.fare_versions.specs.Seen.{HasSeen, Sight}
use Rattle.search_desk.specs.Tellers.{AreAllowed, TellerView}
use Rattle.serve_desks.specs.Terms.{IsOf, Terms, terms_of}
use Rattle.serve_desks.specs.declared.workload.Ask.{Ask}

abbrev asked_of : TellerView → Terms
asked_of t = record { asks = t.asks; timetable = t.sight.book.timetable }

-- what is allowed over a book is so over what a watch of it has seen
pub allowed_of : (p : Published) (w : Sight) (asks : List Ask) → HasSeen p w → AreAllowed p.book asks → AreAllowed w.book asks
allowed_of p w asks seen allowed = subst (λ (b : Book). AreAllowed b asks) (sym seen.book) allowed

-- the teller of a watch is of the history that the watch has seen, and is asked these over its timetable
pub of_watch : (p : Published) (w : Sight) (asks : List Ask) (t : TellerView) → HasSeen p w → t ≡ record { sight = w; asks = asks; wants = 0 }
    → IsOf (λ (v : TellerView). v.sight.house) (λ (v : TellerView). record { asks = v.asks; timetable = v.sight.book.timetable }) (λ (v : TellerView). v.wants) p.house (terms_of asks p.book) t
of_watch p w asks t seen is = (ap (λ (v : TellerView). v.sight.house) is ∙ seen.house, ap asked_of is ∙ ap (terms_of asks) seen.book, ap (λ (v : TellerView). v.wants) is)
