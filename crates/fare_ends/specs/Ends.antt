-- The fares of a carrier between two places, both ways, as paths ask for them.
use Rattle.std.specs.Prelude.{◌≡◌, ◌≤◌, ◌<◌, ◌-◌, ◌⊎◌, ℕ, Bool, List, drop, take, length, slice_get, Some}
use Rattle.fare_book.specs.Keeping.{NoFare}
use Rattle.fare_ends.specs.declared.ends.EndGroup.{EndGroup}
use Rattle.fare_ends.specs.declared.ends.EndKey.{EndKey}
use Rattle.fare_ends.specs.declared.ends.EndWay.{EndWay}
use Rattle.fare_ends.specs.declared.ends.FareEnd.{FareEnd}
use Rattle.fare_ends.specs.declared.ends.FareEnds.{FareEnds}
use Rattle.fare_ends.specs.declared.ends.KeptEnd.{KeptEnd}
use Rattle.fare_ends.specs.Reaches.{end_from, end_to}
use Rattle.fare_ends.specs.Rules.{AreKnownRules, RuleStands}
use Rattle.fare_ends.specs.Rungs.{AreRungs}
use Rattle.fare_groups.specs.declared.group.FareGroup.{FareGroup}
use Rattle.fare_groups.specs.Grouping.{AreGroups}
use Rattle.fare_law.specs.Book.{Book}
use Rattle.fare_law.specs.Lists.{Each, IsIn, IsPrefix}
use Rattle.fare_law.specs.Sheets.{Sheet, SheetOf}

-- what stands from one place up to another
abbrev pub between : {A : Type 0} → List A → ℕ → ℕ → List A
between xs from to = take (to - from) (drop from xs)

-- from one place up to another there are items
pub record IsRange {A : Type 0} (xs : List A) (from to : ℕ) : Type 0 where
  pub in_turn : from ≤ to
  pub within : to ≤ length xs

-- A group of an end has the key of a group of a sheet, is filed this way, has the rungs of its fares, and the number of its rule.
pub record IsEndGroup (known : FareEnds) (reverse : Bool) (group : FareGroup) (g : EndGroup) : Type 0 where
  pub key : g.key ≡ group.key
  pub way : g.reverse ≡ reverse
  pub range : IsRange known.rungs.items g.from g.to
  pub rungs : AreRungs group.fares (between known.rungs.items g.from g.to)
  pub rule : RuleStands known.rules.of.items group.key.carrier group.key.number g.rule

-- the sheet that is filed between the places of a key this way, with its groups
pub record IsSheetOfEnd (b : Book) (key : EndKey) (reverse : Bool) (sheet : Sheet) (groups : List FareGroup) : Type 0 where
  pub sheet_is : SheetOf b (end_from reverse key.from key.to) (end_to reverse key.from key.to) sheet
  pub groups_are : AreGroups sheet.rows groups

-- A group of an end is one of the carrier's of the sheet that is filed its way.
pub record IsOneOfEnd (b : Book) (key : EndKey) (known : FareEnds) (g : EndGroup) : Type 0 where
  pub sheet : Sheet
  pub groups : List FareGroup
  pub sheet_is : IsSheetOfEnd b key g.reverse sheet groups
  pub group : FareGroup
  pub within : IsIn group groups
  pub carrier : group.key.carrier ≡ key.carrier
  pub is : IsEndGroup known g.reverse group g

-- the carrier's groups of the sheet that is filed this way are among those of an end
pub record HasSheet (b : Book) (key : EndKey) (known : FareEnds) (reverse : Bool) (groups : List EndGroup) : Type 0 where
  pub sheet : Sheet
  pub of_sheet : List FareGroup
  pub sheet_is : IsSheetOfEnd b key reverse sheet of_sheet
  pub all : (group : FareGroup) → IsIn group of_sheet → group.key.carrier ≡ key.carrier → (g : EndGroup) × IsIn g groups × IsEndGroup known reverse group g

-- the carrier's groups that stand from one place of a market up to another are among those of an end
abbrev pub HasGroupsUpTo : FareEnds → EndWay → List FareGroup → ℕ → ℕ → List EndGroup → Type 0
HasGroupsUpTo known way groups from to found = (i : ℕ) (group : FareGroup) → from ≤ i → i < to → slice_get groups i ≡ Some group → group.key.carrier ≡ way.key.carrier → (g : EndGroup) × IsIn g found × IsEndGroup known way.reverse group g

-- No fare is filed this way, or the carrier's groups are among those of the end.
abbrev pub HasWay : Book → EndKey → FareEnds → Bool → List EndGroup → Type 0
HasWay b key known reverse groups = NoFare b (end_from reverse key.from key.to) (end_to reverse key.from key.to) ⊎ HasSheet b key known reverse groups

-- The end has each group of the carrier that is filed between the places, both ways, and no other.
pub record IsFareEnd (b : Book) (key : EndKey) (known : FareEnds) (e : FareEnd) : Type 0 where
  pub range : IsRange known.groups.items e.from e.to
  pub each : Each (IsOneOfEnd b key known) (between known.groups.items e.from e.to)
  pub ways : (reverse : Bool) → HasWay b key known reverse (between known.groups.items e.from e.to)

-- Each end that is known is that of its key, and each rule is the live one of its carrier and number.
pub record AreFareEnds (b : Book) (known : FareEnds) : Type 0 where
  pub ends : Each (λ (k : KeptEnd). IsFareEnd b k.key known k.end) known.ends.items
  pub rules : AreKnownRules b known.rules.of.items

-- what was known stands where it stood
pub record KnowsMore (old new : FareEnds) : Type 0 where
  pub groups : IsPrefix old.groups.items new.groups.items
  pub rungs : IsPrefix old.rungs.items new.rungs.items
  pub rules : IsPrefix old.rules.of.items new.rules.of.items

-- and no end was added
pub record KeepsEnds (old new : FareEnds) : Type 0 where
  pub more : KnowsMore old new
  pub ends : new.ends.items ≡ old.ends.items
