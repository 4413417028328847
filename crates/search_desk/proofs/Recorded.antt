-- Searches and replies as the core records them: for the laws.
use Rattle.std.proofs.Common.{◌≡◌, ℕ, ◌+◌, ◌<◌, ◌≤◌, List, [], ◌∷◌, ◌++◌, length, take, set, None, Some, Result, Ok, Err, IfErr, IfOk, IfSome, OnOk, ap, sym, subst, refl, arith, get_or-set_same, length-append, length-set}
use Rattle.std.proofs.lemmas.List.{length-take}
use Rattle.search_desk.specs.Events.{IsOfOffers, IsRecorded, IsRefusedSearchOf, IsReplyOf, IsSearchOf, outcome_in, outcome_of}
use Rattle.search_desk.specs.Outcomes.{AnswersAsk, tickets_in, version_of}
use Rattle.fare_law.specs.Book.{Book}
use Rattle.fare_law.specs.Lists.{Each}
use Rattle.fare_law.specs.Requests.{judged, known_places}
use Rattle.fare_law.specs.declared.filings.Filing.{Filing}
use Rattle.fare_law.specs.declared.requests.Request.{Request}
use Rattle.fare_law.specs.declared.requests.Why.{Why}
use Rattle.run_core.specs.Counting.{book_after}
use Rattle.run_core.specs.Outcomes.{IsOutcome}
use Rattle.run_core.specs.Records.{tickets_of}
use Rattle.run_core.specs.Worlds.{ComesOf, Looks, Sees, StepsTo, WorldView}
use Rattle.run_core.specs.declared.events.Event.{Event}
use Rattle.run_core.specs.declared.events.Event.TheVariants.{File, Look, Fetch, Keep, Answer as Answers}
use Rattle.run_core.specs.declared.events.Outcome.{Outcome}
use Rattle.run_core.specs.declared.events.Recorded.{Recorded}
use Rattle.run_core.specs.declared.events.Outcome.TheVariants.{Tickets, TooLarge}
use Rattle.search_core.specs.Answers.{HasCause, IsAnswer, Searchable}
use Rattle.search_core.specs.declared.outcome.Answer.{Answer}
use Rattle.search_core.specs.declared.outcome.SearchFault.{SearchFault}
use Rattle.search_core.specs.declared.outcome.SearchFault.TheVariants.{BadRequest, TooLarge as IsTooLarge, Mem}
use Rattle.serve_desks.specs.declared.log.Body.{Body}
use Rattle.serve_desks.specs.declared.log.Body.TheVariants.{Tickets as TellsTickets, TooLarge as TellsTooLarge}
use Rattle.serve_desks.specs.declared.log.Reply.{Reply}
use Rattle.serve_desks.specs.declared.workload.Ask.{Ask}

-- the desk looked at this world's version, and answered nothing since
record HasLooked (w : WorldView) (desk : ℕ) (u : WorldView) : Type 0 where
  sees : Sees u desk w.book
  answers : u.answers ≡ w.answers

at_look : (w : WorldView) (desk : ℕ) (u : WorldView) → Looks w desk u → HasLooked w desk u
at_look w desk u h = subst (HasLooked w desk) (sym h.next) (record {
  sees = record { within = subst (λ (n : ℕ). desk < n) (sym (length-set w.desks desk (Some w.book))) h.within; sees = get_or-set_same w.desks desk (Some w.book) None h.within };
  answers = refl;
})

-- whatever the desk then reads and keeps
looked : (w : WorldView) (desk : ℕ) (between : List Event) (u : WorldView) → Each (IsOfOffers desk) between → ComesOf w (between ++ Look desk ∷ []) u → HasLooked w desk u
looked w desk [] u own c = at_look w desk u (subst (λ (x : WorldView). StepsTo x (Look desk) u) c.1 c.2)
looked w desk (Fetch d key ∷ more) u own c = subst (HasLooked w desk) (sym c.2.next) (looked w desk more c.0 own.1 c.1)
looked w desk (Keep d key ∷ more) u own c =
    let h = looked w desk more c.0 own.1 c.1 in
    subst (HasLooked w desk) (sym c.2.next) (record { sees = record { within = h.sees.within; sees = h.sees.sees }; answers = h.answers })
looked w desk (File filing ∷ more) u own c = absurd own.0
looked w desk (Look d ∷ more) u own c = absurd own.0
looked w desk (Answers d q budget ∷ more) u own c = absurd own.0

-- a desk that looked answers with the outcome of its version
recorded : (w : WorldView) (desk : ℕ) (q : Request) (budget : ℕ) (outcome : Outcome) (u : WorldView) → judged (known_places w.book) q ≡ None → IsOutcome w.book q budget (tickets_of outcome)
    → HasLooked w desk u → IsRecorded w.book w u desk q budget outcome
recorded w desk q budget outcome u right is h =
    let answer : Recorded = record { desk = desk; request = q; version = length w.book.entries; outcome = outcome } in record {
      after = record u { desks = set u.desks desk None; answers = u.answers ++ answer ∷ [] };
      taken = record {
        version = w.book;
        seen = h.sees;
        right = right;
        answer = answer;
        records = record { desk_is = refl; request_is = refl; version_is = refl; outcome_is = is };
        next = refl;
      };
      recorded = ap (λ rs. rs ++ answer ∷ []) h.answers;
    }

pub searched : (w : WorldView) (desk : ℕ) (q : Request) (budget : ℕ) (between : List Event) (result : Result Answer SearchFault) → Each (IsOfOffers desk) between
    → IfOk result (IsAnswer w.book q) → OnOk result (Searchable w.book q budget) → IfErr result (HasCause w.book q budget) → IfSome (outcome_of result) (IsSearchOf w desk q budget between)
searched w desk q budget between (Ok a) own is fits cause =
    λ u c. recorded w desk q budget (Tickets a.tickets) u fits.right (record { best = is.best; prices = is.prices; small = fits.small }) (looked w desk between u own c)
searched w desk q budget between (Err IsTooLarge) own is fits cause = λ u c. recorded w desk q budget TooLarge u cause.0 cause.1 (looked w desk between u own c)
searched w desk q budget between (Err (BadRequest why)) own is fits cause = tt
searched w desk q budget between (Err Mem) own is fits cause = tt

pub refused : (w : WorldView) (desk : ℕ) (q : Request) (budget : ℕ) (between : List Event) (why : Why) → Each (IsOfOffers desk) between → judged (known_places w.book) q ≡ Some why → IsRefusedSearchOf w desk q budget between why
refused w desk q budget between why own wrong = λ u c. record { version = w.book; seen = (looked w desk between u own c).sees; wrong = wrong }

-- a body tells what its outcome does
same_tickets : (body : Body) → tickets_of (outcome_in body) ≡ tickets_in body
same_tickets (TellsTickets tickets) = refl
same_tickets TellsTooLarge = refl

pub replied : (opening : Book) (filings : List Filing) (ask : Ask) (r : Reply) → r.number ≤ length filings → AnswersAsk ask opening.timetable (take r.number filings) r.body → IsReplyOf opening filings ask r
replied opening filings ask r known is = λ desk past filed at same. record {
  filed = filed;
  looked = at;
  desk = refl;
  request = refl;
  version = omega (arith, ap length same, length-append opening.entries filed, length-take r.number filings, known);
  outcome = subst (IsOutcome (book_after opening filed) ask.request ask.budget) (sym (same_tickets r.body))
      (subst (λ es. IsOutcome (version_of opening.timetable es) ask.request ask.budget (tickets_in r.body)) (sym same) is);
}
