-- Components that begin with a flight.
use Rattle.std.proofs.Common.{◌≡◌, ℕ, ◌<◌, ◌≤◌, List, ◌∷◌, sym, subst}
use Rattle.fare_law.specs.declared.requests.Request.{Request}
use Rattle.fare_law.specs.Book.{Book}
use Rattle.flight_paths.specs.declared.positions.Position.{Position}
use Rattle.flight_paths.specs.Positions.{IsPath}
use Rattle.outlines.specs.declared.outline.Outline.{Outline}
use Rattle.outlines.specs.Outlines.{Outlined}
use Rattle.fare_ends.specs.Begins.{narrowed}
use Rattle.fare_ends.proofs.FirstFlights.{begins_narrowed}

module _ (b : Book) (q : Request) (at : Position) (o : Outline) (price : ℕ) where
  -- a component with the same flights of another position
  pub outlined_there : (there : Position) (h : Outlined b q at o price) → IsPath b q.slices there h.numbers h.flights o.after → Outlined b q there o price
  outlined_there there h path = record { numbers = h.numbers; flights = h.flights; piece = h.piece; path = path; stands = h.stands; lawful = h.lawful; costs = h.costs; outline = h.outline }

  -- what begins with a flight of the range is a component of the position that takes it alone
  pub outlined_narrowed : (n : ℕ) (rest : List ℕ) → at.lo ≤ n → n < at.hi → (h : Outlined b q at o price) → h.numbers ≡ n ∷ rest → Outlined b q (narrowed at n) o price
  outlined_narrowed n rest low high h e =
      outlined_there (narrowed at n) h (subst (λ ns. IsPath b q.slices (narrowed at n) ns h.flights o.after) (sym e) ((begins_narrowed b q.slices at n rest h.flights o.after low high).0 (subst (λ ns. IsPath b q.slices at ns h.flights o.after) e h.path)))
