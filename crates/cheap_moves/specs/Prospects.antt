-- The groups of fares with which moves on a path may be within a limit.
use Rattle.std.specs.Prelude.{◌≡◌, ℕ, ◌+◌, ◌*◌, ◌≤◌, Bool, cond, List, Option}
use Rattle.cheap_moves.specs.declared.component.Flown.{Flown}
use Rattle.cheap_moves.specs.declared.prospects.Prospect.{Prospect}
use Rattle.cheap_moves.specs.declared.prospects.Prospects.{Prospects}
use Rattle.cheap_moves.specs.Making.{IsGroupMove}
use Rattle.cheap_moves.specs.Within.{CountsWithin}
use Rattle.fare_ends.specs.declared.markets.Market.{Market}
use Rattle.fare_groups.specs.declared.group.FareGroup.{FareGroup}
use Rattle.fare_groups.specs.Grouping.{kind_number}
use Rattle.fare_law.specs.declared.requests.Request.{Request}
use Rattle.fare_law.specs.declared.tickets.Piece.{Piece}
use Rattle.fare_law.specs.Book.{Book}
use Rattle.fare_law.specs.Lists.{AllDifferent, IsIn}
use Rattle.flight_paths.specs.declared.positions.Path.{Path}
use Rattle.outlines.specs.declared.outline.Outline.{Outline}
use Rattle.residual_keys.specs.declared.residual.Chosen.{Chosen}
use Rattle.residual_keys.specs.Residuals.{State}
use Rattle.residual_keys.specs.Steps.{IsChosen}

-- the group of the fares of an outline's components
abbrev pub prospect_of : Outline → Prospect
prospect_of o = record { key = record { carrier = o.carrier; number = o.number; kind = o.kind }; reverse = o.reverse }

-- the group of a piece's fare
abbrev pub prospect_as : Piece → Prospect
prospect_as p = record { key = record { carrier = p.fare.key.carrier; number = p.fare.rule; kind = p.fare.kind }; reverse = p.reverse }

-- a number by which groups are put in order
abbrev pub code_of : Prospect → ℕ
code_of p = p.key.number * 8 + kind_number p.key.kind * 2 + cond p.reverse 1 0

-- No group stands here twice, and none has a greater code than is noted.
pub record AreOnce (ps : Prospects) : Type 0 where
  pub once : AllDifferent ps.groups
  pub below : (p : Prospect) → IsIn p ps.groups → code_of p ≤ ps.greatest

-- The group stands there then, once where the old ones stood once, and these stay.
pub record IsPut (x : Prospect) (old new : Prospects) : Type 0 where
  pub once : AreOnce old → AreOnce new
  pub stay : (y : Prospect) → IsIn y old.groups → IsIn y new.groups
  pub has : IsIn x new.groups

-- No group stands here twice, and each move on the path that is within the limit has a fare of one of them.
pub record HasProspects (b : Book) (q : Request) (r : State) (bound : State → Option ℕ) (limit : Option ℕ) (path : Path) (prospects : List Prospect) : Type 0 where
  pub once : AllDifferent prospects
  pub all : (c : Chosen) (k : IsChosen b q r c) → CountsWithin bound limit c → c.mv.flights ≡ path.flights → IsIn (prospect_as k.piece) prospects

-- A move on a flown path with a fare of this group of a market that is filed this way, within the limit.
pub record IsProspectMove (q : Request) (r : State) (bound : State → Option ℕ) (limit : Option ℕ) (flown : Flown) (reverse : Bool) (m : Market) (x : Prospect) (c : Chosen) : Type 0 where
  pub way : x.reverse ≡ reverse
  pub group : FareGroup
  pub within : IsIn group m.groups
  pub key : group.key ≡ x.key
  pub is : IsGroupMove q r bound limit flown reverse m group c
