-- Paths that end where a fare is filed, by classes.
use Rattle.std.specs.Prelude.{◌≡◌, ◌≤◌, ℕ, false, List, Option, None, Some, slice_get, length}
use Rattle.component_table.specs.declared.begun.Origin.{Origin}
use Rattle.component_table.specs.declared.landed.LandedClass.{LandedClass}
use Rattle.component_table.specs.declared.landed.LandedSought.{LandedSought}
use Rattle.component_table.specs.declared.landed.Landing.{Landing}
use Rattle.component_table.specs.Begun.{AreLandings, LandedPaths, key_to}
use Rattle.fare_ends.specs.declared.ends.EndGroup.{EndGroup}
use Rattle.fare_ends.specs.declared.ends.FareEnds.{FareEnds}
use Rattle.fare_ends.specs.declared.rule_numbers.KnownRule.{KnownRule}
use Rattle.fare_ends.specs.Ends.{IsOneOfEnd, IsRange, between}
use Rattle.fare_ends.specs.Rules.{IsFreeRightly}
use Rattle.fare_ends.specs.Rungs.{AreRungs}
use Rattle.fare_groups.specs.declared.group.GroupedFare.{GroupedFare}
use Rattle.fare_groups.specs.Groups.{Permits, extra_of}
use Rattle.fare_law.specs.declared.flights.Flight.{Flight}
use Rattle.fare_law.specs.Lists.{Each, IsIn}
use Rattle.fare_law.specs.Parts.{Numbers}
use Rattle.fare_law.specs.RuleLimits.{IsRule}
use Rattle.flight_paths.specs.declared.positions.Path.{Path}
use Rattle.joint_paths.specs.declared.rule_charges.RuleCharges.{RuleCharges}
use Rattle.joint_paths.specs.Costs.{CostsNoLess}
use Rattle.joint_paths.specs.Said.{AreSaid}
use Rattle.outlines.specs.declared.outline.Outline.{Outline}
use Rattle.fare_ends.specs.Floors.{OpenPath}
use Rattle.fare_ends.specs.Legs.{AreAmong}

-- the landings end and lead alike
pub record AreAlike (paths : List Path) (one other : Landing) : Type 0 where
  pub last : one.last ≡ other.last
  pub place : one.place ≡ other.place
  pub after : (p r : Path) → slice_get paths one.path ≡ Some p → slice_get paths other.path ≡ Some r → p.after ≡ r.after

-- A class of landings: they end and lead like the first one, and no class of seats that is open on one is left out.
pub record IsLandedClass (o : Origin) (fares : FareEnds) (c : LandedClass) : Type 0 where
  pub landings : AreLandings o fares c.paths.now c.landings.now
  pub first : Landing
  pub stands : slice_get c.landings.now 0 ≡ Some first
  pub alike : Each (AreAlike c.paths.now first) c.landings.now
  pub classes : (l : Landing) → IsIn l c.landings.now → AreAmong l.classes c.classes

-- a rule within its limits, of the carrier of the origin's first flight
pub record IsOriginRule (o : Origin) (r : KnownRule) : Type 0 where
  pub free : IsFreeRightly r
  pub limits : IsRule r.rule
  pub carrier : r.carrier ≡ o.first.now.carrier

-- A group of the first flight's carrier, with its rungs and its rule.
pub record IsLandedGroup (o : Origin) (fares : FareEnds) (g : EndGroup) : Type 0 where
  pub range : IsRange fares.rungs.items g.from g.to
  pub of : List GroupedFare
  pub rungs : AreRungs of (between fares.rungs.items g.from g.to)
  pub rule : KnownRule
  pub stands : slice_get fares.rules.of.items g.rule ≡ Some rule
  pub own : IsOriginRule o rule

-- a group of the end of a class
abbrev pub IsGroupOfClass : Origin → FareEnds → LandedClass → EndGroup → Type 0
IsGroupOfClass o fares c g = (l : Landing) → slice_get c.landings.now 0 ≡ Some l → IsOneOfEnd o.case.now.book.now (key_to o l.place) fares g

-- the path of one of some landings, with the classes of seats that are open on it
pub record IsLandedOf (o : Origin) (paths : List Path) (landings : List Landing) (p : OpenPath) : Type 0 where
  pub landing : Landing
  pub within : IsIn landing landings
  pub path : Path
  pub stands : slice_get paths landing.path ≡ Some path
  pub numbers : Numbers o.case.now.book.now path.flights p.flights
  pub classes : p.classes ≡ landing.classes

-- a rule says of flights that it doesn't permit them, or adds these charges
abbrev pub SaysOfFlights : KnownRule → List Flight → Option ℕ → Type 0
SaysOfFlights rule fs None = Permits rule.rule rule.carrier fs → ⊥
SaysOfFlights rule fs (Some charges) = Permits rule.rule rule.carrier fs × (charges ≡ extra_of rule.rule fs) × (charges ≤ 35000000)

-- and of a landing
abbrev pub SaysOfLanded : Origin → KnownRule → List Path → Landing → Option ℕ → Type 0
SaysOfLanded o rule paths l said = (path : Path) → slice_get paths l.path ≡ Some path → (fs : List Flight) → Numbers o.case.now.book.now path.flights fs → SaysOfFlights rule fs said

-- the rule of a number says this of the landing at a place
abbrev pub SaysOfLandings : Origin → List KnownRule → LandedClass → ℕ → ℕ → Option ℕ → Type 0
SaysOfLandings o rules c number at said = (rule : KnownRule) → slice_get rules number ≡ Some rule → (l : Landing) → slice_get c.landings.now at ≡ Some l → SaysOfLanded o rule c.paths.now l said

-- What is sought: a group's rungs and rule, and a floor of all paths of the class.
pub record IsLandedSought (o : Origin) (c : LandedClass) (s : LandedSought) : Type 0 where
  pub landings : (fares : FareEnds) × AreLandings o fares c.paths.now c.landings.now
  pub fares : List GroupedFare
  pub rungs : AreRungs fares s.rungs.now
  pub rules : List KnownRule
  pub stands : slice_get rules s.number ≡ Some s.rule.now
  pub own : IsOriginRule o s.rule.now
  pub floor : CostsNoLess s.rule.now s.rungs.now (IsLandedOf o c.paths.now c.landings.now) s.floor

-- What is said of the landings is what the rule of what is sought says, unless it tests nothing.
abbrev pub IsSaidOfRule : Origin → LandedClass → LandedSought → RuleCharges → Type 0
IsSaidOfRule o c s charges = s.rule.now.is_free ≡ false → (charges.rule ≡ Some s.number) × ((rules : List KnownRule) → slice_get rules s.number ≡ Some s.rule.now → AreSaid (SaysOfLandings o rules c) (length c.landings.now) charges)

-- the outline of a group's components on the paths of a class
pub record IsOutlineOfClass (o : Origin) (g : EndGroup) (c : LandedClass) (outline : Outline) : Type 0 where
  pub after : (l : Landing) → slice_get c.landings.now 0 ≡ Some l → (path : Path) → slice_get c.paths.now l.path ≡ Some path → outline.after ≡ path.after
  pub ends : (l : Landing) → slice_get c.landings.now 0 ≡ Some l → (outline.end ≡ l.place) × (outline.last ≡ l.last)
  pub first : outline.first ≡ o.first.now.day
  pub carrier : outline.carrier ≡ g.key.carrier
  pub number : outline.number ≡ g.key.number
  pub kind : outline.kind ≡ g.key.kind
  pub reverse : outline.reverse ≡ g.reverse

-- the outline is one of a group's
pub record IsOfGroup (g : EndGroup) (outline : Outline) : Type 0 where
  pub carrier : outline.carrier ≡ g.key.carrier
  pub number : outline.number ≡ g.key.number
  pub kind : outline.kind ≡ g.key.kind
  pub reverse : outline.reverse ≡ g.reverse

-- the flights are those of a landing, and the outline is a group's
abbrev pub GroupLanded : List Path → List Landing → EndGroup → Outline → List ℕ → Type 0
GroupLanded paths landings g o ns = LandedPaths paths landings o ns × IsOfGroup g o
