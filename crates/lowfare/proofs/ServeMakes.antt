-- What a serving run makes of its bytes, from what its parts give.
use Rattle.std.proofs.Common.{◌≡◌, ◌<◌, ℕ, zero, suc, All, List, [], ◌∷◌, length, map, slice_index_or, arith, Global, Option, None, Result, Ok, IfOk, sym, subst}
use Rattle.std.specs.Arc.{arc_value}
use Rattle.std.specs.declared.sync.Arc.{Arc}
use Rattle.search_desk.specs.Tellers.{AreAllowed}
use Rattle.fare_law.specs.Book.{Book}
use Rattle.fare_law.specs.Lists.{Each}
use Rattle.fare_law.specs.Requests.{judged, known_places}
use Rattle.fare_law.specs.declared.filings.Filing.{Filing}
use Rattle.fare_law.specs.declared.mem.Mem.{Mem}
use Rattle.fare_law.specs.declared.requests.Request.{Request}
use Rattle.program_words.specs.declared.commands.Command.TheVariants.{Serve}
use Rattle.serve_desks.specs.declared.workload.Ask.{Ask}
use Rattle.whole_case.specs.ServeCases.{serve_case}
use Rattle.whole_case.specs.declared.serve.ServeCase.{ServeCase}
use Rattle.lowfare.specs.Makes.{Makes}
use Rattle.lowfare.specs.Servings.{TellsServing, asks_of}
use Rattle.lowfare.specs.declared.outcomes.Outcome.{Outcome}
use Rattle.lowfare.specs.declared.status.Status.TheVariants.{Done}
use Rattle.lowfare.proofs.Ending.{ends_with}

pub served_made : (best : Option ℕ) (budget : ℕ) (bytes : List ℕ) (r : Result Outcome Mem) (found : ServeCase) → serve_case best bytes (Ok found) → IfOk r (λ o. o.status ≡ Done) → IfOk r (λ o. TellsServing budget found o.text)
    → IfOk r (λ o. Makes (Serve best budget) bytes o.status o.text)
served_made best budget bytes r found spelled is text =
    ends_with r Done (TellsServing budget found) (Makes (Serve best budget) bytes) (λ t tells. record { case = record { found = found; spelled = spelled }; tells = tells }) is text

-- right requests are right asks
pub asks_allowed : (b : Book) (budget : ℕ) (requests : List Request) (asks : List Ask) → asks ≡ asks_of budget requests → Each (λ q. judged (known_places b) q ≡ None) requests → AreAllowed b asks
asks_allowed b budget requests asks same right = subst (AreAllowed b) (sym same) (by requests right)
  where
    by : (requests : List Request) → Each (λ q. judged (known_places b) q ≡ None) requests → AreAllowed b (asks_of budget requests)
    by [] h = tt
    by (q ∷ qs) h = (h.0, by qs h.1)

-- what holds of each filing holds of each that is shared
pub shared_such : (P : Filing → Type 0) (shared : List (Arc Filing Global)) (all : List Filing) → map arc_value shared ≡ all → Each P all → All (λ a. P (arc_value a)) shared
shared_such P shared all same each i d less = at shared (subst (Each P) (sym same) each) i less
  where
    at : (vs : List (Arc Filing Global)) → Each P (map arc_value vs) → (i : ℕ) → i < length vs → P (arc_value (slice_index_or vs i d))
    at [] h i l = absurd (omega (arith, l))
    at (a ∷ vs) h zero l = h.0
    at (a ∷ vs) h (suc i) l = at vs h.1 i (omega (arith, l))
