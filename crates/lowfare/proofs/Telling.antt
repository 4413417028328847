-- The text of an answer tells the best tickets of its case; and a request that is right is within its limits.
use Rattle.std.proofs.Common.{◌≡◌, ℕ, ◌<◌, ◌^◌, refl, Ok, Option, List, [], ◌∷◌, ◌++◌, map, codes, decimal, ap, ◌∙◌, append_assoc}
use Rattle.answer_text.specs.Answer.{AnswerText, IsRight}
use Rattle.answer_text.specs.Lines.{Adds}
use Rattle.certificate.specs.CertOf.{CertOf}
use Rattle.certificate.specs.Checks.{Checks}
use Rattle.certificate.specs.declared.parts.Certificate.{Certificate}
use Rattle.certificate_text.specs.CertText.{AddsCertText, CertText}
use Rattle.fare_law.specs.Best.{Costs}
use Rattle.fare_law.specs.Book.{Book}
use Rattle.fare_law.specs.Lawful.{Lawful}
use Rattle.fare_law.specs.Limits.{IsPlace, IsPlaceRow}
use Rattle.fare_law.specs.Lists.{Each}
use Rattle.fare_law.specs.declared.requests.Request.{Request}
use Rattle.fare_law.specs.declared.rows.PlaceRow.{PlaceRow}
use Rattle.fare_law.specs.declared.tickets.Priced.{Priced}
use Rattle.lowfare.specs.Searches.{IsAccepted, IsAcceptedByLines, TellsBest}
use Rattle.residual_keys.specs.Searches.{ReachesMoreThan}
use Rattle.search_check.specs.Accepted.{AddsLines, AddsText, with_certificate, IsAccepted as IsCaseAccepted}
use Rattle.search_core.specs.Answers.{IsAnswer}
use Rattle.search_core.specs.declared.outcome.Answer.{Answer}
use Rattle.whole_case.specs.declared.search.SearchCase.{SearchCase}

-- lawful tickets at their prices are right
are_right : (b : Book) (q : Request) (tickets : List Priced) → Each (λ t. Lawful t b q) (map (λ p. p.ticket) tickets) → Each (λ t. Costs t.ticket b q t.price) tickets → Each (IsRight b q) tickets
are_right b q [] lawful costs = tt
are_right b q (t ∷ ts) lawful costs = ((lawful.0, costs.0), are_right b q ts lawful.1 costs.1)

-- the version's line, the answer and the certificate, which were added one after another
joined : (a b c answer proof head mid text : List ℕ) → head ≡ a ++ (b ++ c) → mid ≡ head ++ answer → text ≡ mid ++ proof → text ≡ a ++ (b ++ (c ++ (answer ++ proof)))
joined a b c answer proof head mid text h m t =
    t ∙ ap (λ x. x ++ proof) (m ∙ ap (λ x. x ++ answer) h) ∙ append_assoc (a ++ (b ++ c)) answer proof ∙ append_assoc a (b ++ c) (answer ++ proof) ∙ ap (λ x. a ++ x) (append_assoc b c (answer ++ proof))

-- the certificate of the search, by its text, is accepted
pub is_accepted : (found : SearchCase) (c : Certificate) (budget : ℕ) → IsCaseAccepted AddsText found → budget < 2 ^ 32 → (ReachesMoreThan budget found.book found.request → ⊥) → CertOf found.book found.request c
    → (proof : List ℕ) → CertText c proof → IsAccepted found proof
is_accepted found c budget law fits few made proof written = λ best at front spelled.
    let r = law best at budget (front ++ codes "\n#end\n") (front ++ (codes "\n#certificate\n" ++ (proof ++ codes "#end\n"))) c spelled fits few made
    (record { front = front; proof = proof; text = written; search = refl; check = refl }) in
    record { found = with_certificate found c; spelled = r.0; meets = r.1 }

-- and by its lines
pub is_accepted_by_lines : (found : SearchCase) (c : Certificate) (budget : ℕ) → IsCaseAccepted AddsLines found → budget < 2 ^ 32 → (ReachesMoreThan budget found.book found.request → ⊥) → CertOf found.book found.request c
    → IsAcceptedByLines found c
is_accepted_by_lines found c budget law fits few made = λ best at bytes added spelled adds.
    let r = law best at budget bytes added c spelled fits few made adds in
    record { found = with_certificate found c; spelled = r.0; meets = r.1 }

pub tells_best : (found : SearchCase) (a : Answer) (head mid text : List ℕ) → IsAnswer found.book found.request a → Checks a.certificate found.book found.request → head ≡ codes "version " ++ (decimal a.number ++ codes "\n")
    → ((q : Request) → Each (IsRight found.book q) a.tickets → Adds (AnswerText found.book q (map (λ p. p.ticket) a.tickets)) head mid) → AddsCertText a.certificate mid text
    → ((proof : List ℕ) → CertText a.certificate proof → IsAccepted found proof) → IsAcceptedByLines found a.certificate → TellsBest found text
tells_best found a head mid text is meets h told written accepted by_lines =
    let answer = told found.request (are_right found.book found.request a.tickets is.best.each is.prices) in
    record {
      tickets = map (λ p. p.ticket) a.tickets;
      best = is.best;
      answer = answer.added;
      tells = answer.is;
      certificate = a.certificate;
      made = is.certificate;
      meets = meets;
      proof = written.added;
      written = written.is;
      accepted = accepted written.added written.is;
      accepted_by_lines = by_lines;
      whole =
          joined (codes "version ") (decimal a.number) (codes "\n") answer.added written.added head mid text h answer.whole written.whole
          ∙ ap (λ n. codes "version " ++ (decimal n ++ (codes "\n" ++ (answer.added ++ written.added)))) is.number;
    }

-- the places of rows within their limits
pub places_formed : (rows : List PlaceRow) → Each IsPlaceRow rows → Each IsPlace (map (λ row. row.place) rows)
places_formed [] h = tt
places_formed (row ∷ rows) h = (h.0.place, places_formed rows h.1)
