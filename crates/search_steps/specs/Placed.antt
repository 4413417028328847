-- Where the lists of a residual stand, and what they give.
use Rattle.std.specs.Prelude.{◌≡◌, ◌≢◌, ℕ, true, List, [], slice_get, slice_range, Option, Some, None}
use Rattle.graph_walk.specs.declared.outcome.Outcome.{Outcome}
use Rattle.outlines.specs.declared.marks.Listed.{Listed}
use Rattle.outlines.specs.declared.outline.Outcome.{Outcome as Tried}
use Rattle.residual_keys.specs.Residuals.{State}
use Rattle.residual_table.specs.declared.key.ResidualKey.{ResidualKey}
use Rattle.search_steps.specs.declared.keyed.Placed.{Placed}
use Rattle.search_steps.specs.declared.numbered.PositionSteps.{PositionSteps}
use Rattle.search_steps.specs.declared.numbered.StepLists.{StepLists}
use Rattle.search_steps.specs.declared.numbered.UnitSteps.{UnitSteps}
use Rattle.search_steps.specs.Giving.{LeftBy, OpenedBy, UnitBy}
use Rattle.search_steps.specs.Numbers.{AddsAll, StandsIn, UnitStepsAt}

-- The lists of a key stand at these places.
pub record ArePlaced (l : StepLists) (k : ResidualKey) (p : Placed) : Type 0 where
  pub steps : PositionSteps
  pub stands : slice_get l.positions.items p.at ≡ Some steps
  pub of_position : steps.position ≡ k.position
  pub first : UnitStepsAt l.units.items steps.place k.first p.first
  pub second : UnitStepsAt l.units.items steps.place k.second p.second

-- a list stands there, with its steps, and its slot is not that of none
abbrev pub MayStand : StepLists → ℕ → Option ℕ → Type 0
MayStand l slot None = Unit {0}
MayStand l slot (Some n) = (u : UnitSteps) × (slice_get l.units.items n ≡ Some u) × StandsIn l.unit_steps.items u × (slot ≢ 0)

-- what the list of an open unit gives was added, where there is one
abbrev pub AddsOfUnit : (State → Listed → Tried → Type 0) → ResidualKey → StepLists → Option ℕ → List (Outcome ResidualKey) → List (Outcome ResidualKey) → Type 0
AddsOfUnit P k l None old new = new ≡ old
AddsOfUnit P k l (Some n) old new = (u : UnitSteps) → slice_get l.units.items n ≡ Some u → AddsAll P k (slice_range l.unit_steps.items u.begin u.end) old new

-- What the lists that stand at these places give was added, one after another.
pub record AddsFour (l : StepLists) (k : ResidualKey) (p : Placed) (found : List (Outcome ResidualKey)) : Type 0 where
  pub one : List (Outcome ResidualKey)
  pub two : List (Outcome ResidualKey)
  pub three : List (Outcome ResidualKey)
  pub alone : (s : PositionSteps) → slice_get l.positions.items p.at ≡ Some s → AddsAll (λ r. LeftBy r true r.units) k s.alone.items [] one
  pub opening : (s : PositionSteps) → slice_get l.positions.items p.at ≡ Some s → AddsAll OpenedBy k s.opening.items one two
  pub first : AddsOfUnit (λ r. UnitBy r 0) k l p.first two three
  pub second : AddsOfUnit (λ r. UnitBy r 1) k l p.second three found
