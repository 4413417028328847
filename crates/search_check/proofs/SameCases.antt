-- The same sections with the lines of a certificate are the case of a check, and so are the same bytes with its text.
use Rattle.std.proofs.Common.{◌≡◌, ◌∙◌, ◌≤◌, ◌++◌, ℕ, List, [], ◌∷◌, length, slice_get, Option, Some, Ok, codes, ap, refl, sym, subst, arith}
use Rattle.case_text.specs.declared.contents.Case.{Case}
use Rattle.case_text.specs.declared.kinds.CaseKind.TheVariants.{Check, Search}
use Rattle.case_text.specs.Entries.{case_of}
use Rattle.certificate.specs.declared.parts.Certificate.{Certificate}
use Rattle.certificate_text.specs.CertText.{IsCertificate, cert_lines, text_of}
use Rattle.fare_law.specs.declared.requests.Request.{Request}
use Rattle.fare_law.specs.declared.requests.Slice.{Slice}
use Rattle.fare_law.specs.Book.{Book}
use Rattle.residual_keys.proofs.WordFacts.{Words}
use Rattle.whole_case.specs.declared.asked.AskedCase.{AskedCase}
use Rattle.whole_case.specs.declared.search.SearchCase.{SearchCase}
use Rattle.whole_case.specs.Cases.{asked_case, check_case}
use Rattle.whole_case.specs.Filings.{filed_version, has_version}
use Rattle.whole_case.specs.Requests.{sole_line, sole_request, with_best}
use Rattle.whole_case.specs.Timetables.{opening_of, sections_in}
use Rattle.search_check.specs.Accepted.{AddsLines, AddsText, IsSpelled, with_certificate}
use Rattle.search_check.specs.Sections.{SameSections}
use Rattle.search_check.proofs.OwnLines.{certificate_own}
use Rattle.search_check.proofs.SectionsJoined.{has_added}
use Rattle.law_lemmas.proofs.Options.{ok_same}

-- what a case with these sections asks
abbrev asked_of : Case → Book → Request → AskedCase
asked_of case book request = record { book = book; request = request; line = sole_line case.requests; filings = case.filings; ticket = case.ticket; certificate = case.certificate; end = case.end }

-- the stages before the certificate give the same of the same sections
asked_again : (at : Option ℕ) (added : List ℕ) (one other : Case) (book : Book) (request : Request) (opening : Book) → SameSections one other → sections_in Check added (Ok other)
    → opening_of one.places one.flights one.seats (Ok opening) → filed_version opening one.filings at (Ok book) → sole_request book one.requests (Ok request)
    → asked_case Check at added (Ok (asked_of other book request))
asked_again at added one other book request opening same form rows filed sole = (other, form, (opening, opened, (book, filed_again, (request, sole_again, refl))))
  where
    opened : opening_of other.places other.flights other.seats (Ok opening)
    opened =
        subst (λ z. opening_of other.places other.flights z (Ok opening)) (sym same.seats)
        (subst (λ y. opening_of other.places y one.seats (Ok opening)) (sym same.flights) (subst (λ x. opening_of x one.flights one.seats (Ok opening)) (sym same.places) rows))

    filed_again : filed_version opening other.filings at (Ok book)
    filed_again = subst (λ x. filed_version opening x at (Ok book)) (sym same.filings) filed

    sole_again : sole_request book other.requests (Ok request)
    sole_again = subst (λ x. sole_request book x (Ok request)) (sym same.requests) sole

pub added_is_spelled : IsSpelled AddsLines
added_is_spelled best at bytes added found c (asked, (case, form, (opening, rows, (book, filed, (request, sole, e)))), (u, number, done)) is adds =
    subst (λ (x : SearchCase). check_case best at added (Ok (with_certificate x c))) (sym (ok_same found (searched asked) done)) (
    subst (λ (x : AskedCase). check_case best at added (Ok (with_certificate (searched x) c))) (sym same_asked)
    (asked_of adds.after book request, again, (c, (is, adds.lines), (u, number_again, refl))))
  where
    searched : AskedCase → SearchCase
    searched asked = record { book = asked.book; request = with_best best asked.request }

    whole : case ≡ adds.before
    whole = ok_same case adds.before (sym form ∙ adds.search)

    same_asked : asked ≡ asked_of case book request
    same_asked = ok_same asked (asked_of case book request) e

    again : asked_case Check at added (Ok (asked_of adds.after book request))
    again =
        asked_again at added adds.before adds.after book request opening adds.same adds.check
        (subst (λ (x : Case). opening_of x.places x.flights x.seats (Ok opening)) whole rows)
        (subst (λ (x : Case). filed_version opening x.filings at (Ok book)) whole filed)
        (subst (λ (x : Case). sole_request book x.requests (Ok request)) whole sole)

    number_again : has_version at (length adds.after.filings) (Ok u)
    number_again =
        subst (λ fs. has_version at (length fs) (Ok u)) (sym adds.same.filings)
        (subst (λ (x : Case). has_version at (length x.filings) (Ok u)) whole (subst (λ (x : AskedCase). has_version at (length x.filings) (Ok u)) same_asked number))

-- bytes with the text of a certificate have its lines
adds_lines : Words → (c : Certificate) (bytes added : List ℕ) (case : Case) → IsCertificate c → case_of Search bytes ≡ Ok case → AddsText c bytes added → AddsLines c bytes added
adds_lines k c bytes added case is spelled adds =
    let lines = cert_lines c adds.text.request in
    let h = has_added adds.front lines case (certificate_own k c adds.text.request is adds.text.is) (subst (λ x. case_of Search x ≡ Ok case) adds.search spelled) in
    let check : added ≡ adds.front ++ (codes "\n#certificate\n" ++ (text_of lines ++ codes "#end\n")) = adds.check ∙ ap (λ x. adds.front ++ (codes "\n#certificate\n" ++ (x ++ codes "#end\n"))) adds.text.written in
    record { before = case; after = h.after; search = spelled; check = subst (λ x. case_of Check x ≡ Ok h.after) (sym check) h.spelled; same = h.same; lines = record { request = adds.text.request; is = adds.text.is; written = h.lines } }

pub text_is_spelled : Words → IsSpelled AddsText
text_is_spelled k best at bytes added found c spelled is adds = added_is_spelled best at bytes added found c spelled is (adds_lines k c bytes added spelled.1.0 is spelled.1.1 adds)

-- the first slice of some
pub first_slice : (slices : List Slice) → 1 ≤ length slices → (s : Slice) × (slice_get slices 0 ≡ Some s)
first_slice [] h = absurd (omega (arith, h))
first_slice (s ∷ slices) h = (s, refl)
