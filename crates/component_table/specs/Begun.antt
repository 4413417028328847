-- What begins at a position with one flight.
use Rattle.std.specs.Prelude.{◌≡◌, ◌⊎◌, ◌<◌, ℕ, suc, Bool, List, [], ◌++◌, length, slice_get, Some}
use Rattle.component_table.specs.declared.begun.Begun.{Begun}
use Rattle.component_table.specs.declared.begun.Known.{Known}
use Rattle.component_table.specs.declared.begun.Origin.{Origin}
use Rattle.component_table.specs.declared.landed.Landing.{Landing}
use Rattle.component_table.specs.Tables.{HasThose}
use Rattle.fare_ends.specs.declared.ends.EndKey.{EndKey}
use Rattle.fare_ends.specs.declared.ends.FareEnds.{FareEnds}
use Rattle.fare_ends.specs.Ends.{AreFareEnds, HasWay, IsFareEnd, KnowsMore}
use Rattle.fare_law.specs.declared.flights.Flight.{Flight}
use Rattle.fare_law.specs.declared.names.Place.{Place}
use Rattle.fare_law.specs.declared.requests.Request.{Request}
use Rattle.fare_law.specs.Book.{Book, flight_at}
use Rattle.fare_law.specs.Lists.{Each, IsIn, IsPrefix, OnLast}
use Rattle.fare_law.specs.Parts.{Numbers}
use Rattle.flight_paths.specs.declared.positions.Path.{Path}
use Rattle.flight_paths.specs.declared.positions.Position.{Position}
use Rattle.flight_paths.specs.Heads.{Crosses, Follows, IsHead}
use Rattle.joint_paths.specs.declared.crossing_heads.CrossingHead.{CrossingHead}
use Rattle.joint_paths.specs.declared.tail_classes.NumberedPath.{NumberedPath}
use Rattle.joint_paths.specs.Heads.{IsCrossingHead}
use Rattle.joint_paths.specs.Tails.{IsOpen}
use Rattle.outline_tables.specs.Numbers.{AreRuled}
use Rattle.outlines.specs.declared.outline.Outline.{Outline}
use Rattle.fare_ends.specs.Legs.{HasLegs}

-- A position that takes one flight of the book alone, in a slice of the request.
pub record TakesOne (b : Book) (q : Request) (at : Position) : Type 0 where
  pub slice : at.slice < length q.slices
  pub one : at.hi ≡ suc at.lo
  pub first : Flight
  pub stands : flight_at b at.lo ≡ Some first

-- the same, with its flight
pub record IsOrigin (o : Origin) : Type 0 where
  pub slice : o.at.now.slice < length o.case.now.request.now.slices
  pub one : o.at.now.hi ≡ suc o.at.now.lo
  pub first : flight_at o.case.now.book.now o.at.now.lo ≡ Some o.first.now

-- The fares of ends are the book's, and the rule of each outline is the live one.
pub record IsKnown (b : Book) (known : Known) : Type 0 where
  pub fares : AreFareEnds b known.fares
  pub outlines : AreRuled b known.outlines.of.items

-- what was known stays known
pub record StaysKnown (old new : Known) : Type 0 where
  pub fares : KnowsMore old.fares new.fares
  pub outlines : IsPrefix old.outlines.of.items new.outlines.of.items

-- the fares of the first flight's carrier between the origin and a place are asked for by this
abbrev pub key_to : Origin → Place → EndKey
key_to o place = record { from = o.at.now.place; to = place; carrier = o.first.now.carrier }

-- A head of the origin by its place among paths, with what is known of it: the classes of seats that are open in all of its flights, where it ends and on which day the last one departs, and the fares of the first one's carrier for its end.
pub record IsLanding (o : Origin) (fares : FareEnds) (path : Path) (l : Landing) : Type 0 where
  pub head : (fs : List Flight) × IsHead o.case.now.book.now o.case.now.request.now.slices o.at.now path.flights fs path.after
  pub legs : (fs : List Flight) → Numbers o.case.now.book.now path.flights fs → HasLegs o.case.now.book.now o.case.now.request.now fs l.classes
  pub ends : (fs : List Flight) → Numbers o.case.now.book.now path.flights fs → OnLast (λ f. (f.to ≡ l.place) × (f.day ≡ l.last)) fs
  pub end : IsFareEnd o.case.now.book.now (key_to o l.place) fares l.end

-- each of these landings is that of its path
abbrev pub AreLandings : Origin → FareEnds → List Path → List Landing → Type 0
AreLandings o fares paths landings = Each (λ (l : Landing). (path : Path) × (slice_get paths l.path ≡ Some path) × IsLanding o fares path l) landings

-- the flights are those of one of these landings
abbrev pub LandedPaths : List Path → List Landing → Outline → List ℕ → Type 0
LandedPaths paths landings o ns = (l : Landing) × IsIn l landings × (path : Path) × (slice_get paths l.path ≡ Some path) × (path.flights ≡ ns)

-- the carrier of the first flight has no fare for the end of a path
abbrev pub LacksFares : Origin → FareEnds → Path → Type 0
LacksFares o fares path = (fs : List Flight) → Numbers o.case.now.book.now path.flights fs → OnLast (λ last. (reverse : Bool) → HasWay o.case.now.book.now (key_to o last.to) fares reverse []) fs

-- A head of the origin is the landing of its number, or no class of seats is open on it, or there is no fare for its end.
abbrev pub IsGathered : Origin → FareEnds → List Landing → ℕ → Path → Type 0
IsGathered o fares landings number path = ((l : Landing) × IsIn l landings × (l.path ≡ number)) ⊎ ((IsOpen o.case.now.book.now o.case.now.request.now path → ⊥) ⊎ LacksFares o fares path)

-- a head that crosses, on which some class of seats is open and that a tail may follow, is gathered
abbrev pub IsCrossingGathered : Book → Request → Position → List CrossingHead → Path → Type 0
IsCrossingGathered b q at heads path = IsOpen b q path → (tail : Path) → Follows b q.slices at path tail → (h : CrossingHead) × IsIn h heads × IsCrossingHead b q at path h

-- Each head of the position that some tail may follow is gathered, unless no class of seats is open on it; and each that is gathered is one that crosses.
pub record AreCrossingHeads (b : Book) (q : Request) (at : Position) (heads : List CrossingHead) : Type 0 where
  pub each : Each (λ (h : CrossingHead). (path : Path) × IsCrossingHead b q at path h) heads
  pub all : (path : Path) (fs : List Flight) → IsHead b q.slices at path.flights fs path.after → IsCrossingGathered b q at heads path

-- The flights are a head of the position.
abbrev pub HeadPaths : Book → Request → Position → Outline → List ℕ → Type 0
HeadPaths b q at o ns = (fs : List Flight) × IsHead b q.slices at ns fs o.after

-- The flights cross into the next slice.
abbrev pub CrossingPaths : Book → Request → Position → Outline → List ℕ → Type 0
CrossingPaths b q at o ns = (fs : List Flight) × Crosses b q.slices at ns fs o.after

-- The landing of a head was added, if it ends where there is a fare and some class of seats is open on it.
pub record AddsLanding (o : Origin) (fares : FareEnds) (p : NumberedPath) (old new : List Landing) : Type 0 where
  pub more : List Landing
  pub joined : new ≡ old ++ more
  pub each : Each (λ (l : Landing). (l.path ≡ p.number) × IsLanding o fares p.path.now l) more
  pub gathered : IsGathered o fares more p.number p.path.now

-- A head was added to those that cross, if a tail may follow it and some class of seats is open on it.
pub record AddsCrossing (b : Book) (q : Request) (at : Position) (path : Path) (old new : List CrossingHead) : Type 0 where
  pub more : List CrossingHead
  pub joined : new ≡ old ++ more
  pub each : Each (IsCrossingHead b q at path) more
  pub all : IsCrossingGathered b q at more path

-- A head was added: to the landings, if it ends where there is a fare, and to the heads that cross, if a tail may follow it.
pub record AddsHead (o : Origin) (known : Known) (p : NumberedPath) (old new : Begun) : Type 0 where
  pub landed : AddsLanding o known.fares p old.landings.items new.landings.items
  pub crossed : AddsCrossing o.case.now.book.now o.case.now.request.now o.at.now p.path.now old.heads.items new.heads.items

-- each of these paths is a head of the origin
abbrev pub AreHeadsOf : Origin → List Path → Type 0
AreHeadsOf o paths = Each (λ (path : Path). (fs : List Flight) × IsHead o.case.now.book.now o.case.now.request.now.slices o.at.now path.flights fs path.after) paths

-- So many heads were added: these are the landings, and behind the heads that were gathered before stand those that cross.
pub record AddsHeads (o : Origin) (fares : FareEnds) (paths : List Path) (count : ℕ) (landings : List Landing) (old new : List CrossingHead) : Type 0 where
  pub landed : AreLandings o fares paths landings
  pub gathered : (n : ℕ) (path : Path) → n < count → slice_get paths n ≡ Some path → IsGathered o fares landings n path
  pub more : List CrossingHead
  pub joined : new ≡ old ++ more
  pub each : Each (λ (h : CrossingHead). (path : Path) × IsCrossingHead o.case.now.book.now o.case.now.request.now o.at.now path h) more
  pub all : (n : ℕ) (path : Path) → n < count → slice_get paths n ≡ Some path → IsCrossingGathered o.case.now.book.now o.case.now.request.now o.at.now more path

-- What begins at the position was added: the outlines of its heads were found, and behind the heads that were gathered before stand those that cross.
pub record AddsBegun (b : Book) (q : Request) (at : Position) (known : Known) (old new : Begun) : Type 0 where
  pub found : HasThose b q at (HeadPaths b q at) known.outlines.of.items new.found.items
  pub more : List CrossingHead
  pub heads : new.heads.items ≡ old.heads.items ++ more
  pub crossing : AreCrossingHeads b q at more
