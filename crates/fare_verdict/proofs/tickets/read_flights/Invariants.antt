use Rattle.std.proofs.Common.{◌≡◌, ◌++◌, ◌∷◌, [], ℕ, List, length, drop}
use Rattle.fare_law.specs.declared.fares.FareKey.{FareKey}
use Rattle.fare_law.specs.declared.tickets.Component.{Component}
use Rattle.fare_verdict.specs.Tickets.{ticket_with}
use Rattle.fare_verdict.proofs.tickets.read_flights.Given as goal

abbrev pub invariant-loop-line : goal.invariant-loop-line
invariant-loop-line l =
    (length l.numbers ≡ l.line-index)
    × ((front : List Component) (unit : ℕ) (fare : FareKey) → ticket_with l.book l.lines (front ++ record { flights = []; fare = fare; unit = unit } ∷ []) ≡ ticket_with l.book (drop l.line-index l.lines) (front ++ record { flights = l.numbers; fare = fare; unit = unit } ∷ []))
