-- Lists of steps: what the entries of a table are in them.
use Rattle.std.specs.Prelude.{◌≡◌, ℤ, Bool, false, true, not, List, [], ◌∷◌, ◌++◌, MatchBool, None, Some}
use Rattle.fare_law.specs.Lists.{Each}
use Rattle.fare_law.specs.declared.names.Place.{Place}
use Rattle.open_unit.specs.declared.units.OpenUnit.{OpenUnit}
use Rattle.open_unit.specs.Ranges.{UnitInRanges}
use Rattle.outlines.specs.declared.marks.Mark.{Mark}
use Rattle.outlines.specs.declared.outline.Entry.{Entry}
use Rattle.outlines.specs.Marks.{IsAlone, IsOfUnit, IsOpening, mark_of}
use Rattle.outlines.specs.Outcomes.{EntryWithin}
use Rattle.residual_table.specs.Keys.{Tables as Numbers}
use Rattle.search_steps.specs.declared.listing.Doing.{Doing}
use Rattle.search_steps.specs.declared.listing.Doing.TheVariants.{Alone, Joining, Opening}
use Rattle.search_steps.specs.declared.listing.Listing.{Listing}
use Rattle.search_steps.specs.declared.listing.TableSteps.{TableSteps}
use Rattle.search_steps.specs.declared.numbered.Step.{Step}
use Rattle.search_steps.specs.Numbers.{AreBare, AreStepsOf}
use Rattle.search_steps.specs.Runs.{AreRuns}

-- the mark of an entry's component that does this, from a place and on a day of sale
abbrev pub IsDoing : Doing → Place → ℤ → Entry → Mark → Type 0
IsDoing Alone begin sale = IsAlone begin sale
IsDoing Opening begin sale = IsOpening begin sale
IsDoing (Joining u) begin sale = IsOfUnit begin sale u

-- the mark that an entry's component has in a list
abbrev pub IsListed : Listing → Entry → Mark → Type 0
IsListed l = IsDoing l.doing l.begin l.sale

-- the open unit of a list, where it is of one, is in its ranges
abbrev pub KeepsUnit : Doing → Type 0
KeepsUnit Alone = Unit {0}
KeepsUnit Opening = Unit {0}
KeepsUnit (Joining u) = UnitInRanges u

-- whatever mark an entry's component has in a list, it leaves a unit open or none, as this tells
abbrev pub LeavesUnit : Listing → Entry → Bool → Type 0
LeavesUnit l e leaves = (m : Mark) → IsListed l e m → MatchBool leaves ((u : OpenUnit) × (m ≡ mark_of e (Some u))) (m ≡ mark_of e None)

-- whatever entries the steps were of, they are of one more, by numbers that grew
abbrev pub StepsOneMore : Numbers → Numbers → (Entry → Mark → Type 0) → Entry → List Step → List Step → Type 0
StepsOneMore t u Is e old new = (table : List Entry) → AreStepsOf t Is table old → AreStepsOf u Is (table ++ e ∷ []) new

-- what is told of it by the way in which its fare is filed
abbrev pub leaves_by : Doing → Bool → Bool
leaves_by Alone reverse = false
leaves_by Opening reverse = true
leaves_by (Joining u) reverse = not reverse

-- The entries of a table with what they are by these numbers where they leave no unit open, and with their runs.
pub record AreListed (t : Numbers) (table : TableSteps) : Type 0 where
  pub within : Each EntryWithin table.entries.now
  pub bare : AreBare t table.entries.now table.bare.now
  pub runs : AreRuns table.entries.now table.bare.now table.runs.now
