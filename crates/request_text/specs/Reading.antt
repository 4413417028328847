-- The request that a text spells, or its first fault.
use Rattle.std.specs.Prelude.{◌≡◌, ℕ, List, Result, Ok, Err, ok_or, ⊤}
use Rattle.fare_law.specs.declared.requests.Request.{Request}
use Rattle.fare_law.specs.declared.requests.Why.{Why}
use Rattle.json_form.specs.Spelled.{spelled}
use Rattle.serde_json.specs.Data.{Data}
use Rattle.request_text.specs.declared.asked.Asked.{Asked}
use Rattle.request_text.specs.declared.fault.RequestFault.{RequestFault}
use Rattle.request_text.specs.declared.fault.RequestFault.TheVariants.{Syntax, Shape, BadRequest, Mem}
use Rattle.request_text.specs.Form.{asked}
use Rattle.request_text.specs.Limits.{allowed}

-- from one judgement to the next, up to the first fault
infixl 10 ◌>>=◌
abbrev pub ◌>>=◌ : {A B E : Type 0} → Result A E → (A → Result B E) → Result B E
(Ok a) >>= f = f a
(Err e) >>= f = Err e

-- a reason for refusal, as a fault
abbrev pub with_reason : Result Request Why → Result Request RequestFault
with_reason (Ok q) = Ok q
with_reason (Err why) = Err (BadRequest why)

-- of what is asked: the request, or the reason for which it is refused
abbrev pub judged : Asked → Result Request RequestFault
judged a = with_reason (allowed a)

-- of a JSON value: the request, if it is of the form
abbrev pub request_spelled : Data → Result Request RequestFault
request_spelled d = ok_or (asked d) Shape >>= judged

-- of bytes: the request, if they are a JSON text
abbrev pub request_of : List ℕ → Result Request RequestFault
request_of bytes = ok_or (spelled bytes) Syntax >>= request_spelled

-- what was returned is what is told, unless memory ran out
abbrev pub Tells : Result Request RequestFault → Result Request RequestFault → Type 0
Tells (Ok q) told = told ≡ Ok q
Tells (Err Mem) told = ⊤
Tells (Err Syntax) told = told ≡ Err Syntax
Tells (Err Shape) told = told ≡ Err Shape
Tells (Err (BadRequest why)) told = told ≡ Err (BadRequest why)
