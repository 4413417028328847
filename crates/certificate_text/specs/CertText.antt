-- The text of a certificate.
use Rattle.std.specs.Prelude.{◌≡◌, ◌<◌, ◌^◌, ℕ, List, [], ◌∷◌, ◌++◌, length, map, flat_map, Ok, codes}
use Rattle.certificate.specs.declared.parts.CertAnswer.{CertAnswer}
use Rattle.certificate.specs.declared.parts.CertRow.{CertRow}
use Rattle.certificate.specs.declared.parts.Certificate.{Certificate}
use Rattle.certificate_text.specs.Lines.{IsAnswer, IsRow, answer_line, number_line, row_line}
use Rattle.fare_law.specs.declared.requests.Request.{Request}
use Rattle.fare_law.specs.declared.rows.TextLine.{TextLine}
use Rattle.fare_law.specs.Limits.{IsRequest}
use Rattle.fare_law.specs.Lists.{Each}
use Rattle.request_text.specs.Reading.{request_of}
use Rattle.request_text.specs.Text.{Writes}

-- the compact text of the request, which is read as it
pub record IsRequestText (q : Request) (text : List ℕ) : Type 0 where
  pub compact : Writes q text
  pub read : request_of text ≡ Ok q

abbrev pub request_line : List ℕ → List ℕ
request_line request = codes "request " ++ request

-- the first lines: the form's number, the version, and the request in its text
abbrev pub head_lines : ℕ → List ℕ → List (List ℕ)
head_lines number request = codes "certificate 1" ∷ number_line (codes "version") number ∷ request_line request ∷ []

-- how many answers there are, and a line for each
abbrev pub answer_lines : List CertAnswer → List (List ℕ)
answer_lines answers = number_line (codes "answers") (length answers) ∷ map answer_line answers

-- how many rows there are, and a line for each
abbrev pub row_lines : List CertRow → List (List ℕ)
row_lines rows = number_line (codes "rows") (length rows) ∷ map row_line rows

abbrev pub cert_lines : Certificate → List ℕ → List (List ℕ)
cert_lines c request = head_lines c.number request ++ (answer_lines c.answers ++ (row_lines c.rows ++ codes "end" ∷ []))

-- lines, each with its line feed
abbrev pub text_of : List (List ℕ) → List ℕ
text_of lines = flat_map (λ line. line ++ 10 ∷ []) lines

-- The text is that of the certificate: its lines, each with its line feed.
pub record CertText (c : Certificate) (text : List ℕ) : Type 0 where
  pub request : List ℕ
  pub is : IsRequestText c.request request
  pub written : text ≡ text_of (cert_lines c request)

-- The text of the certificate was added at the end.
pub record AddsCertText (c : Certificate) (old new : List ℕ) : Type 0 where
  pub added : List ℕ
  pub is : CertText c added
  pub whole : new ≡ old ++ added

-- The lines are those of the certificate.
pub record CertLines (c : Certificate) (lines : List TextLine) : Type 0 where
  pub request : List ℕ
  pub is : IsRequestText c.request request
  pub written : map (λ (l : TextLine). l.bytes) lines ≡ cert_lines c request

-- a certificate that has a text of its own
pub record IsCertificate (c : Certificate) : Type 0 where
  pub number : c.number < 2 ^ 32
  pub request : IsRequest c.request
  pub answers : Each IsAnswer c.answers
  pub rows : Each IsRow c.rows
  pub answer_count : length c.answers < 2 ^ 32
  pub row_count : length c.rows < 2 ^ 32
