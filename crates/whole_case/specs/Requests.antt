-- The requests of a case.
use Rattle.std.specs.Prelude.{◌≡◌, ℕ, List, [], ◌∷◌, Option, Some, None, Ok, Err}
use Rattle.fare_law.specs.declared.requests.Request.{Request}
use Rattle.fare_law.specs.declared.requests.Why.{Why}
use Rattle.fare_law.specs.declared.rows.TextLine.{TextLine}
use Rattle.fare_law.specs.Book.{Book}
use Rattle.fare_law.specs.Requests.{judged, known_places}
use Rattle.request_text.specs.Reading.{request_of}
use Rattle.whole_case.specs.declared.refusals.Reason.TheVariants.{BadRequest}
use Rattle.whole_case.specs.Refusals.{at_line, refused_at, request_reason}
use Rattle.whole_case.specs.Stages.{Stage, done, told, ◌>>=◌}

-- the request that a line spells
abbrev pub spelled_in : TextLine → Stage Request
spelled_in line = told (request_of line.bytes) (λ fault. at_line line.line (request_reason fault))

-- the request of this line breaks no limit, or the first that it breaks
abbrev pub allowed_in : Book → ℕ → Request → Stage (Unit {0})
allowed_in b line request (Ok u) = judged (known_places b) request ≡ None
allowed_in b line request (Err refusal) = (why : Why) × (judged (known_places b) request ≡ Some why) × (refusal ≡ refused_at line (BadRequest why))

abbrev pub request_in : Book → TextLine → Stage Request
request_in b line = do
  request ← spelled_in line
  _ ← allowed_in b line.line request
  done request

-- the request of the one line
abbrev pub sole_request : Book → List TextLine → Stage Request
sole_request b (line ∷ []) outcome = request_in b line outcome
sole_request b lines outcome = ⊥

-- the line of the one request
abbrev pub sole_line : List TextLine → ℕ
sole_line [] = 0
sole_line (line ∷ lines) = line.line

-- the request with another number of tickets, where one is given
abbrev pub with_best : Option ℕ → Request → Request
with_best None request = request
with_best (Some best) request = record request { best = best }
