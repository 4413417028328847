-- Ways, as the calls on paths have them.
use Rattle.std.specs.Prelude.{All}
use Rattle.fare_law.specs.declared.requests.Request.{Request}
use Rattle.fare_law.specs.Book.{Book}
use Rattle.fare_law.specs.Limits.{IsFlight}
use Rattle.residual_keys.specs.declared.way.Way.{Way}
use Rattle.residual_keys.specs.Gathered.{AreLegs, IsPathOf}
use Rattle.residual_keys.specs.Residuals.{State}

-- The way of a path of the state: its flights, within their limits, and these as legs with the seats for the party.
pub record IsWayOf (b : Book) (q : Request) (r : State) (way : Way) : Type 0 where
  pub path : IsPathOf b q r way.path way.flights
  pub limits : All IsFlight way.flights
  pub legs : AreLegs b q way.flights way.legs
