-- What a ticket costs, lawful or not.
use Rattle.std.specs.Prelude.{◌≡◌, ◌≢◌, ◌⊎◌, ℕ, List, [], Some, None, Any, sum}
use Rattle.fare_law.specs.declared.fares.Fare.{Fare}
use Rattle.fare_law.specs.declared.flights.Flight.{Flight}
use Rattle.fare_law.specs.declared.rules.Rule.{Rule}
use Rattle.fare_law.specs.declared.tickets.Component.{Component}
use Rattle.fare_law.specs.declared.tickets.Ticket.{Ticket}
use Rattle.fare_law.specs.Book.{Book, live_fare, live_rule}
use Rattle.fare_law.specs.Lists.{Matched}
use Rattle.fare_law.specs.Parts.{Numbers, fare_price}
use Rattle.ticket_whole.specs.Known.{IsUnknown}

-- the component has no flight, one that is unknown, or a fare that isn't live
abbrev pub HasNoPrice : Book → Component → Type 0
HasNoPrice b c = (c.flights ≡ []) ⊎ Any (IsUnknown b) c.flights ⊎ (live_fare b c.fare ≡ None)

-- The component costs this: what its fare with its rule costs on its flights.
pub record ComponentCosts (b : Book) (c : Component) (price : ℕ) : Type 0 where
  pub flights : List Flight
  pub fare : Fare
  pub rule : Rule
  pub numbered : Numbers b c.flights flights
  pub some : c.flights ≢ []
  pub fare_is : live_fare b c.fare ≡ Some fare
  pub rule_is : live_rule b c.fare.carrier fare.rule ≡ Some rule
  pub adds : price ≡ fare_price flights fare rule

-- The ticket costs the sum of what its components cost.
pub record TicketCosts (b : Book) (t : Ticket) (price : ℕ) : Type 0 where
  pub prices : List ℕ
  pub each : Matched (ComponentCosts b) t.components prices
  pub adds : price ≡ sum prices
