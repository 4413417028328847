-- What follows each stage of what a case asks, and how a stage that refuses the case ends the whole.
use Rattle.std.proofs.Common.{ℕ, Option, List, [], Ok, Err, refl}
use Rattle.fare_law.specs.declared.requests.Request.{Request}
use Rattle.fare_law.specs.Book.{Book, Timetable}
use Rattle.case_text.specs.declared.contents.Case.{Case}
use Rattle.case_text.specs.declared.kinds.CaseKind.{CaseKind}
use Rattle.whole_case.specs.declared.asked.AskedCase.{AskedCase}
use Rattle.whole_case.specs.declared.books.FiledCase.{FiledCase}
use Rattle.whole_case.specs.declared.refusals.LoadFault.{LoadFault}
use Rattle.whole_case.specs.Books.{filed_case}
use Rattle.whole_case.specs.Cases.{asked_case, asked_of as to_asked}
use Rattle.whole_case.specs.Filings.{filed_version}
use Rattle.whole_case.specs.Requests.{sole_line, sole_request}
use Rattle.whole_case.specs.Stages.{Reads, Stage, done, ◌>>=◌}
use Rattle.whole_case.specs.Timetables.{opening_of}
use Rattle.whole_case.proofs.BookSteps.{parted}
use Rattle.whole_case.proofs.StageLemmas.{goes_on, stops}

abbrev pub opening : Timetable → Book
opening timetable = record { timetable = timetable; entries = [] }

abbrev pub asked_of : Case → Book → Request → AskedCase
asked_of case book request = record { book = book; request = request; line = sole_line case.requests; filings = case.filings; ticket = case.ticket; certificate = case.certificate; end = case.end }

abbrev pub after_request : Case → Book → Request → Stage AskedCase
after_request case book request = done (asked_of case book request)

abbrev pub after_book : Case → Book → Stage AskedCase
after_book case book = sole_request book case.requests >>= after_request case book

abbrev pub after_opening : Option ℕ → Case → Book → Stage AskedCase
after_opening at case opening = filed_version opening case.filings at >>= after_book case

abbrev pub after_form : Option ℕ → Case → Stage AskedCase
after_form at case = opening_of case.places case.flights case.seats >>= after_opening at case

-- what follows the filings
abbrev pub after_filed : FiledCase → Stage AskedCase
after_filed filed = sole_request filed.book filed.requests >>= (λ request. done (to_asked filed request))

module _ (kind : CaseKind) (at : Option ℕ) (bytes : List ℕ) where
  pub filed_stops : (fault : LoadFault) → Reads {A = FiledCase} (Err fault) (filed_case kind at bytes) → Reads {A = AskedCase} (Err fault) (asked_case kind at bytes)
  filed_stops fault h = parted kind at bytes after_filed (Err fault) (stops (filed_case kind at bytes) after_filed fault h)

  module _ (filed : FiledCase) (is : filed_case kind at bytes (Ok filed)) where
    pub request_stops : (fault : LoadFault) → Reads {A = Request} (Err fault) (sole_request filed.book filed.requests) → Reads {A = AskedCase} (Err fault) (asked_case kind at bytes)
    request_stops fault h =
        parted kind at bytes after_filed (Err fault) (goes_on (filed_case kind at bytes) after_filed filed (Err fault) is (stops (sole_request filed.book filed.requests) (λ request. done (to_asked filed request)) fault h))

    pub asks : (request : Request) → sole_request filed.book filed.requests (Ok request) → asked_case kind at bytes (Ok (to_asked filed request))
    asks request h = parted kind at bytes after_filed (Ok (to_asked filed request)) (filed, is, (request, h, refl))
