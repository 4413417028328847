-- Where the tails stand that a place needs.
use Rattle.std.specs.Prelude.{◌≡◌, ℕ, List, Some, slice_get}
use Rattle.component_table.specs.declared.networks.FareTails.{FareTails}
use Rattle.fare_law.specs.declared.names.Place.{Place}

-- the tails of this slice that a place needs stand at this place of a list
pub record FareTailsStand (kept : List FareTails) (place : Place) (slice at : ℕ) : Type 0 where
  pub tails : FareTails
  pub stands : slice_get kept at ≡ Some tails
  pub place_is : tails.place ≡ place
  pub slice_is : tails.slice ≡ slice
