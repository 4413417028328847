-- What is asked as a request, and its judgement by the law.
use Rattle.std.specs.Prelude.{ℕ, ℤ, pos, negsuc, map, Option, Some, None, Result, Ok, Err}
use Rattle.fare_law.specs.declared.requests.Request.{Request}
use Rattle.fare_law.specs.declared.requests.Slice.{Slice}
use Rattle.fare_law.specs.declared.requests.Why.{Why}
use Rattle.fare_law.specs.Requests.{judged_alone}
use Rattle.request_text.specs.declared.asked.Asked.{Asked}
use Rattle.request_text.specs.declared.asked.AskedSlice.{AskedSlice}

-- the number; one below 0 is read as 0, which is in no range
abbrev pub counted : ℤ → ℕ
counted (pos n) = n
counted (negsuc n) = 0

abbrev pub slice_asked : AskedSlice → Slice
slice_asked s = record { from = s.from; to = s.to; first = s.first; days = counted s.days }

-- the request of the numbers that are asked for
abbrev pub request_asked : Asked → Request
request_asked a = record { sale = a.terms.sale; party = counted a.terms.party; best = counted a.terms.best; slices = map slice_asked a.slices }

-- the request, if there is no reason to refuse it
abbrev pub or_refused : Request → Option Why → Result Request Why
or_refused q None = Ok q
or_refused q (Some why) = Err why

-- the request that is asked for, or the first reason for which it is refused whatever places are known
unfoldable pub allowed : Asked → Result Request Why
allowed a = or_refused (request_asked a) (judged_alone (request_asked a))
