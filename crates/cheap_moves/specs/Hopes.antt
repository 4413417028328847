-- The beginnings, ends and classes of the paths on which a move may be within a limit, and the groups of its fare.
use Rattle.std.specs.Prelude.{◌≡◌, ℕ, Bool, true, false, List, [], Option, None, Some, IfSome, unwrap_or}
use Rattle.cheap_moves.specs.declared.hopes.Hopes.{Hopes}
use Rattle.cheap_moves.specs.declared.hopes.PathClass.{PathClass}
use Rattle.cheap_moves.specs.declared.hopes.PathStart.{PathStart}
use Rattle.cheap_moves.specs.declared.leads.Lead.{Lead}
use Rattle.cheap_moves.specs.declared.prospects.Prospect.{Prospect}
use Rattle.cheap_moves.specs.declared.prospects.Prospects.{Prospects}
use Rattle.cheap_moves.specs.Prospects.{AreOnce, prospect_as, prospect_of}
use Rattle.cheap_moves.specs.Within.{CountsWithin, IsWithin}
use Rattle.fare_law.specs.declared.flights.Flight.{Flight}
use Rattle.fare_law.specs.declared.names.Place.{Place}
use Rattle.fare_law.specs.declared.requests.Request.{Request}
use Rattle.fare_law.specs.Book.{Book}
use Rattle.fare_law.specs.Lists.{IsIn, OnFirst, OnLast}
use Rattle.flight_paths.specs.declared.positions.Position.{Position}
use Rattle.flight_paths.specs.Heads.{EndWanted}
use Rattle.indexmap.specs.IndexMap.{IndexMap, get}
use Rattle.outlines.specs.declared.outline.Outline.{Outline}
use Rattle.residual_keys.specs.declared.residual.Chosen.{Chosen}
use Rattle.residual_keys.specs.Residuals.{State}
use Rattle.residual_keys.specs.Steps.{IsChosen}

-- whether a key is marked
abbrev pub marked : {K S : Type 0} → (K → K → Bool) → IndexMap K Bool S → K → Bool
marked eq marks key = unwrap_or (get eq marks key) false

-- A path over these flights, which leads to this position, is of the class.
pub record IsClass (x : PathClass) (after : Option Position) (fs : List Flight) : Type 0 where
  pub after_is : x.after ≡ after
  pub begins : OnFirst (λ f. (x.first ≡ f.day) × (x.carrier ≡ f.carrier)) fs
  pub ends : OnLast (λ f. (x.end ≡ f.to) × (x.last ≡ f.day)) fs

-- the class of the paths that an outline's components may have
abbrev pub class_of : Outline → PathClass
class_of o = record { after = o.after; end = o.end; first = o.first; last = o.last; carrier = o.carrier }

-- how the paths begin that an outline's components may have
abbrev pub start_of : Outline → PathStart
start_of o = record { day = o.first; carrier = o.carrier }

-- how a path begins with a flight
abbrev pub begins_with : Flight → PathStart
begins_with f = record { day = f.day; carrier = f.carrier }

-- the groups of a class
abbrev pub listed : Option Prospects → List Prospect
listed None = []
listed (Some ps) = ps.groups

abbrev pub groups_of : {K S : Type 0} → (K → K → Bool) → IndexMap K Prospects S → K → List Prospect
groups_of eq classes x = listed (get eq classes x)

-- each class has its groups once
abbrev pub AreAllOnce : {K S : Type 0} → (K → K → Bool) → IndexMap K Prospects S → Type 0
AreAllOnce {K} eq classes = (x : K) → IfSome (get eq classes x) AreOnce

-- A group stands among those of a class then, and those of all classes stay, each once where they stood once.
pub record GroupAdded {K S : Type 0} (eq : K → K → Bool) (x : K) (p : Prospect) (old new : IndexMap K Prospects S) : Type 0 where
  pub once : AreAllOnce eq old → AreAllOnce eq new
  pub stay : (y : K) (g : Prospect) → IsIn g (groups_of eq old y) → IsIn g (groups_of eq new y)
  pub has : IsIn p (groups_of eq new x)

-- The beginnings and the ends of the leads within a limit are marked, and their groups stand at their classes, each once.
pub record HasHopes (same_start : PathStart → PathStart → Bool) (same_place : Place → Place → Bool) (same_class : PathClass → PathClass → Bool) (limit : Option ℕ) (leads : List Lead) (h : Hopes) : Type 0 where
  pub of_starts : (l : Lead) → IsIn l leads → IsWithin limit l.total → marked same_start h.starts (start_of l.outline) ≡ true
  pub of_ends : (l : Lead) → IsIn l leads → IsWithin limit l.total → marked same_place h.ends l.outline.end ≡ true
  pub of_classes : (l : Lead) → IsIn l leads → IsWithin limit l.total → IsIn (prospect_of l.outline) (groups_of same_class h.classes (class_of l.outline))
  pub once : AreAllOnce same_class h.classes

-- A lead's beginning and end were marked and its group was put at its class, where it is within the limit.
pub record HopeAdded (same_start : PathStart → PathStart → Bool) (same_place : Place → Place → Bool) (same_class : PathClass → PathClass → Bool) (limit : Option ℕ) (l : Lead) (old new : Hopes) : Type 0 where
  pub starts_stay : (s : PathStart) → marked same_start old.starts s ≡ true → marked same_start new.starts s ≡ true
  pub ends_stay : (p : Place) → marked same_place old.ends p ≡ true → marked same_place new.ends p ≡ true
  pub groups_stay : (x : PathClass) (g : Prospect) → IsIn g (groups_of same_class old.classes x) → IsIn g (groups_of same_class new.classes x)
  pub once : AreAllOnce same_class old.classes → AreAllOnce same_class new.classes
  pub has_start : IsWithin limit l.total → marked same_start new.starts (start_of l.outline) ≡ true
  pub has_end : IsWithin limit l.total → marked same_place new.ends l.outline.end ≡ true
  pub has_group : IsWithin limit l.total → IsIn (prospect_of l.outline) (groups_of same_class new.classes (class_of l.outline))

-- The beginning and the end of each move within the limit are marked, and the group of its fare stands at its class, each once.
pub record AreHopes (same_start : PathStart → PathStart → Bool) (same_place : Place → Place → Bool) (same_class : PathClass → PathClass → Bool) (b : Book) (q : Request) (r : State) (bound : State → Option ℕ) (limit : Option ℕ) (h : Hopes) : Type 0 where
  pub of_starts : (c : Chosen) (k : IsChosen b q r c) → CountsWithin bound limit c → OnFirst (λ f. marked same_start h.starts (begins_with f) ≡ true) k.flights
  pub of_ends : (c : Chosen) (k : IsChosen b q r c) → CountsWithin bound limit c → EndWanted (marked same_place h.ends) k.flights
  pub of_classes : (c : Chosen) (k : IsChosen b q r c) → CountsWithin bound limit c → (x : PathClass) → IsClass x k.after k.flights → IsIn (prospect_as k.piece) (groups_of same_class h.classes x)
  pub once : AreAllOnce same_class h.classes
