-- What is of a certificate begins with its lines, of the forms that are due, and nothing is left after them.
use Rattle.std.proofs.Common.{ℕ, List, [], ◌∷◌, ◌++◌, length, map, refl, sym, subst}
use Rattle.std.specs.Prelude.{Result, Ok, Err, IfOk, IfErr, codes}
use Rattle.certificate.specs.declared.parts.Certificate.{Certificate}
use Rattle.certificate_text.specs.CertText.{IsCertificate, IsRequestText, answer_lines, cert_lines, row_lines}
use Rattle.certificate_text.specs.declared.faults.CertFault.{CertFault}
use Rattle.certificate_text.specs.Faults.{Head, FaultFrom}
use Rattle.certificate_text.specs.Lines.{IsAnswer, IsRow, answer_line, row_line}
use Rattle.certificate_text.specs.Readings.{IsOfCert, IsRead, NoFault, OneCertificate, OneFault}
use Rattle.certificate_text.specs.Unread.{Unread, Text, Numbered, TakesAll, IsOver}
use Rattle.certificate_text.proofs.JsonFeeds.{request_free}
use Rattle.certificate_text.proofs.LineFeeds.{free_answer, free_known, free_more, free_number, free_row}
use Rattle.certificate_text.proofs.LineWords.{Numbers}
use Rattle.certificate_text.proofs.OneReading.{Whole, no_fault, one_fault, whole_one}
use Rattle.certificate_text.proofs.SameLines.{OneResidual, certificate_leads, certificate_same}
use Rattle.certificate_text.proofs.TakingLemmas.{lines_take, lines_whole, text_takes, text_whole}
use Rattle.fare_law.specs.Lists.{Each}
use Rattle.residual_keys.proofs.WordFacts.{Words}
use Rattle.word_text.specs.Laws.{LastCutTells}
use Rattle.word_text.specs.Words.{IsFreeOf}
use Rattle.law_lemmas.proofs.EachOne.{each_append}

listed_free : {X : Type 0} (Is : X → Type 0) (f : X → List ℕ) → ((x : X) → Is x → IsFreeOf 10 (f x)) → (xs : List X) → Each Is xs → Each (IsFreeOf 10) (map f xs)
listed_free Is f free [] h = tt
listed_free Is f free (x ∷ xs) h = (free x h.0, listed_free Is f free xs h.1)

certificate_free : Words → (c : Certificate) (request : List ℕ) → IsCertificate c → IsRequestText c.request request → Each (IsFreeOf 10) (cert_lines c request)
certificate_free k c request h q =
    let asked = free_more (codes "request ") request (free_known (codes "request ") refl) (request_free k c.request request h.request q.compact) in
    let answers : Each (IsFreeOf 10) (answer_lines c.answers) = (free_number k (codes "answers") (length c.answers) (free_known (codes "answers") refl) h.answer_count, listed_free IsAnswer answer_line (free_answer k) c.answers h.answers) in
    let rows : Each (IsFreeOf 10) (row_lines c.rows) = (free_number k (codes "rows") (length c.rows) (free_known (codes "rows") refl) h.row_count, listed_free IsRow row_line (free_row k) c.rows h.rows) in (
      free_known (codes "certificate 1") refl,
      (
        free_number k (codes "version") c.number (free_known (codes "version") refl) h.number,
        (
          asked,
          each_append (IsFreeOf 10) (answer_lines c.answers) (row_lines c.rows ++ codes "end" ∷ []) answers
              (each_append (IsFreeOf 10) (row_lines c.rows) (codes "end" ∷ []) rows (free_known (codes "end") refl, tt)),
        ),
      ),
    )

whole : Words → (from : Unread) (c : Certificate) → IsCertificate c → IsOfCert from c → Whole from c
whole k (Text text n) c h t =
    let lines = cert_lines c t.request in
    let r = text_takes lines n (certificate_free k c t.request h t.is) in
    record { request = t.request; is = t.is; leads = certificate_leads c t.request h t.is; left = Text [] r.0; taken = subst (λ (z : List ℕ). TakesAll (Text z n) lines (Text [] r.0)) (sym t.written) r.1; over = refl }
whole k (Numbered ls end) c h t =
    record { request = t.request; is = t.is; leads = certificate_leads c t.request h t.is; left = Numbered [] end; taken = subst (λ (z : List (List ℕ)). TakesAll (Numbered ls end) z (Numbered [] end)) t.written (lines_take ls end); over = refl }

-- what was taken to its end is the certificate's text or its lines
pub is_of : (from : Unread) (c : Certificate) (request : List ℕ) (left : Unread) → IsRequestText c.request request → TakesAll from (cert_lines c request) left → IsOver left → IsOfCert from c
is_of (Text text n) c request left q taken over = record { request = request; is = q; written = text_whole text n (cert_lines c request) left taken over }
is_of (Numbered ls end) c request left q taken over = record { request = request; is = q; written = lines_whole ls end (cert_lines c request) left taken over }

numbers : Words → Numbers
numbers k = record { number = k.number; digits = k.digits }

pub one_certificate : LastCutTells → OneResidual → Words → OneCertificate
one_certificate cuts one k from c d h g t u =
    let w = whole k from c h t in
    let v = whole k from d g u in
    certificate_same cuts one (numbers k) c d w.request v.request h g w.is v.is (whole_one (numbers k) from c d w v)

pub certificate_right : Words → NoFault
certificate_right k from c fault h t f = no_fault (numbers k) from c fault (whole k from c h t) f

pub fault_one : Words → OneFault
fault_one k = one_fault (numbers k)

-- what is of a certificate is read as it
pub read_again : OneCertificate → NoFault → (from : Unread) (r : Result Certificate CertFault) → IfOk r (IsOfCert from) → IfOk r IsCertificate → IfErr r (FaultFrom Head from)
    → (c : Certificate) → IsCertificate c → IsOfCert from c → IsRead c r
read_again one none from (Ok d) of limits fault c h t = one from d c limits h of t
read_again one none from (Err f) of limits fault c h t = none from c f h t fault
