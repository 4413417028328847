-- The tables of positions, and the lists that are made of them.
use Rattle.std.specs.Prelude.{◌≡◌, ℕ, List, map, slice_get, Some}
use Rattle.component_table.specs.Networks.{IsNetwork}
use Rattle.component_table.specs.Tables.{IsTable}
use Rattle.fare_law.specs.declared.requests.Request.{Request}
use Rattle.fare_law.specs.Book.{Book}
use Rattle.fare_law.specs.Lists.{Each}
use Rattle.flight_paths.specs.declared.positions.Position.{Position}
use Rattle.graph_walk.specs.declared.outcome.Outcome.{Outcome}
use Rattle.outlines.specs.declared.outline.Outcome.{Outcome as Tried}
use Rattle.residual_keys.specs.Residuals.{State}
use Rattle.search_steps.specs.declared.tables.PositionTable.{PositionTable}
use Rattle.search_steps.specs.declared.tables.Tables.{Tables}
use Rattle.search_steps.specs.Leads.{state_of}

-- it is the table of its position
abbrev pub IsOwnTable : Book → Request → PositionTable → Type 0
IsOwnTable b q t = IsTable b q t.at t.entries

-- the tables and the network are the book's and the request's
pub record AreTables (b : Book) (q : Request) (t : Tables) : Type 0 where
  pub tables : Each (IsOwnTable b q) t.kept.items
  pub network : IsNetwork b q t.network

-- a table stands at this place
abbrev pub HasTable : List PositionTable → ℕ → Type 0
HasTable ts n = (t : PositionTable) × (slice_get ts n ≡ Some t)

-- the table of a position stands at this place
pub record TableAt (ts : List PositionTable) (at : Position) (n : ℕ) : Type 0 where
  pub table : PositionTable
  pub stands : slice_get ts n ≡ Some table
  pub position : table.at ≡ at

-- an outcome of a table, as one of states
abbrev pub outcome_tried : Tried → Outcome State
outcome_tried o = record { next = state_of o.next; price = o.price }

abbrev pub AsTried : List Tried → List (Outcome State) → Type 0
AsTried tried outcomes = outcomes ≡ map outcome_tried tried
