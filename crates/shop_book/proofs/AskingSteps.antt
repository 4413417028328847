-- What follows the spelling of a request, and what follows a request.
use Rattle.std.proofs.Common.{ℕ, List, Option, None, Ok, Err, refl, inl, inr}
use Rattle.certificate.specs.declared.parts.Certificate.{Certificate}
use Rattle.fare_law.specs.Book.{Book}
use Rattle.fare_law.specs.declared.requests.Request.{Request}
use Rattle.fare_law.specs.declared.tickets.Ticket.{Ticket}
use Rattle.shop_book.specs.Asked.{ReadsBoth, ReadsTicket, asked, certificate_of, check_of, sole, ticket_of, verdict_of}
use Rattle.whole_case.specs.Requests.{allowed_in, spelled_in, with_best}
use Rattle.whole_case.specs.Stages.{Reads, Stage, done, ◌>>=◌}
use Rattle.whole_case.specs.declared.check.CheckCase.{CheckCase}
use Rattle.whole_case.specs.declared.refusals.LoadFault.{LoadFault}
use Rattle.whole_case.specs.declared.refusals.LoadFault.TheVariants.{Refused, Mem}
use Rattle.whole_case.specs.declared.verdict.VerdictCase.{VerdictCase}
use Rattle.whole_case.proofs.StageLemmas.{goes_on, stops}

module _ (b : Book) (best : Option ℕ) (bytes : List ℕ) where
  abbrev then_allowed : Request → Stage Request
  then_allowed request = allowed_in b 1 (with_best best request) >>= (λ _. done (with_best best request))

  pub spelling_stops : (fault : LoadFault) → Reads {A = Request} (Err fault) (spelled_in (sole bytes)) → Reads {A = Request} (Err fault) (asked b best bytes)
  spelling_stops fault h = stops (spelled_in (sole bytes)) then_allowed fault h

  module _ (request : Request) (spelled : spelled_in (sole bytes) (Ok request)) where
    pub limits_stop : (fault : LoadFault) → Reads {A = Unit {0}} (Err fault) (allowed_in b 1 (with_best best request)) → Reads {A = Request} (Err fault) (asked b best bytes)
    limits_stop fault h = goes_on (spelled_in (sole bytes)) then_allowed request (Err fault) spelled (stops (allowed_in b 1 (with_best best request)) (λ _. done (with_best best request)) fault h)

    pub asks : allowed_in b 1 (with_best best request) (Ok tt) → asked b best bytes (Ok (with_best best request))
    asks h = (request, spelled, (tt, h, refl))

-- the request refuses a check
pub asked_stops_check : (b : Book) (request certificate : List ℕ) (fault : LoadFault) → Reads {A = Request} (Err fault) (asked b None request) → ReadsBoth (Err fault) b request certificate
asked_stops_check b request certificate (Refused refusal) h = inl h
asked_stops_check b request certificate Mem h = tt

-- the certificate does
pub certificate_stops : (b : Book) (request certificate : List ℕ) (q : Request) → asked b None request (Ok q) → (fault : LoadFault) → Reads {A = Certificate} (Err fault) (certificate_of certificate) → ReadsBoth (Err fault) b request certificate
certificate_stops b request certificate q is (Refused refusal) h = inr (q, is, inl h)
certificate_stops b request certificate q is Mem h = tt

-- the request refuses a verdict
pub asked_stops_verdict : (b : Book) (request ticket : List ℕ) (fault : LoadFault) → Reads {A = Request} (Err fault) (asked b None request) → ReadsTicket (Err fault) b request ticket
asked_stops_verdict b request ticket (Refused refusal) h = inl h
asked_stops_verdict b request ticket Mem h = tt

-- the ticket does
pub ticket_stops : (b : Book) (request ticket : List ℕ) (q : Request) → asked b None request (Ok q) → (fault : LoadFault) → Reads {A = Ticket} (Err fault) (ticket_of b ticket) → ReadsTicket (Err fault) b request ticket
ticket_stops b request ticket q is (Refused refusal) h = inr (q, is, inl h)
ticket_stops b request ticket q is Mem h = tt
