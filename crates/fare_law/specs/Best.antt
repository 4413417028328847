-- The price of a ticket, the order of tickets and the best ones.
use Rattle.std.specs.Prelude.{◌≡◌, ◌⊎◌, ℕ, ◌<◌, List, sum_by}
use Rattle.fare_law.specs.declared.requests.Request.{Request}
use Rattle.fare_law.specs.declared.tickets.Ticket.{Ticket}
use Rattle.fare_law.specs.Book.{Book}
use Rattle.fare_law.specs.Codes.{code}
use Rattle.fare_law.specs.Lawful.{Lawful}
use Rattle.fare_law.specs.Lists.{KLeast, Less, Matched}
use Rattle.fare_law.specs.Parts.{Part, IsPart, price_of}

abbrev pub Costs : Ticket → Book → Request → ℕ → Type 0
Costs t b q price = (parts : List Part) × Matched (IsPart b q) t.components parts × (price ≡ sum_by (λ part. price_of part.flights part.piece) parts)

-- cheaper, or as cheap with a smaller code
abbrev pub Before : ℕ → List ℕ → ℕ → List ℕ → Type 0
Before price word price' word' = (price < price') ⊎ ((price ≡ price') × Less word word')

abbrev pub Cheaper : Book → Request → Ticket → Ticket → Type 0
Cheaper b q t u = (price : ℕ) × (price' : ℕ) × Costs t b q price × Costs u b q price' × Before price (code t) price' (code u)

-- The best tickets: the k least of the lawful ones, k being the request's number.
abbrev pub Best : Book → Request → List Ticket → Type 0
Best b q best = KLeast (λ t. Lawful t b q) (Cheaper b q) q.best best
