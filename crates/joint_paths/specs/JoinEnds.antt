-- Where the tails of a slice end for which a place has fares.
use Rattle.std.specs.Prelude.{◌≡◌, ◌⊎◌, Bool, List, [], ◌∷◌, ◌++◌}
use Rattle.fare_ends.specs.declared.ends.EndKey.{EndKey}
use Rattle.fare_ends.specs.declared.ends.FareEnds.{FareEnds}
use Rattle.fare_ends.specs.Ends.{HasWay, IsFareEnd, IsRange, between}
use Rattle.fare_ends.specs.Reaches.{HasNoFares}
use Rattle.fare_law.specs.declared.names.Place.{Place}
use Rattle.fare_law.specs.Book.{Book}
use Rattle.fare_law.specs.Lists.{Each, IsIn}
use Rattle.joint_paths.specs.declared.join_ends.CarrierJoins.{CarrierJoins}
use Rattle.joint_paths.specs.declared.join_ends.JoinEnd.{JoinEnd}
use Rattle.joint_paths.specs.declared.join_ends.JoinEnds.{JoinEnds}
use Rattle.joint_paths.specs.declared.join_ends.JoinKey.{JoinKey}
use Rattle.joint_paths.specs.declared.join_ends.JoinRange.{JoinRange}
use Rattle.joint_paths.specs.declared.join_ends.PlaceJoins.{PlaceJoins}
use Rattle.joint_paths.specs.declared.tail_classes.TailEnd.{TailEnd}

-- the fares of a carrier between the place of a key and another are asked for by this
abbrev pub asked_for : JoinKey → Place → EndKey
asked_for key to = record { from = key.place; to = to; carrier = key.carrier }

-- no fare of the carrier is filed between the place of a key and another, either way
abbrev pub LacksFares : Book → FareEnds → JoinKey → Place → Type 0
LacksFares b fares key to = (reverse : Bool) → HasWay b (asked_for key to) fares reverse []

-- an end of tails for which the carrier of a key has fares
pub record IsJoinEnd (b : Book) (fares : FareEnds) (ends : List TailEnd) (key : JoinKey) (j : JoinEnd) : Type 0 where
  pub of : TailEnd
  pub within : IsIn of ends
  pub from : j.from ≡ of.from
  pub to : j.to ≡ of.to
  pub is : IsFareEnd b (asked_for key of.place) fares j.end

-- an end stands among these, or the carrier of the key has no fare for it
abbrev pub IsJoinedOrLacks : Book → FareEnds → JoinKey → List JoinEnd → TailEnd → Type 0
IsJoinedOrLacks b fares key joins e = ((j : JoinEnd) × IsIn j joins × (j.from ≡ e.from) × (j.to ≡ e.to)) ⊎ LacksFares b fares key e.place

-- Of the ends of tails those stand there for which the carrier of a key has fares.
pub record AreFareJoins (b : Book) (fares : FareEnds) (ends : List TailEnd) (key : JoinKey) (r : JoinRange) (joins : List JoinEnd) : Type 0 where
  pub range : IsRange joins r.from r.to
  pub each : Each (IsJoinEnd b fares ends key) (between joins r.from r.to)
  pub all : Each (IsJoinedOrLacks b fares key (between joins r.from r.to)) ends

-- those for which a place has fares
pub record ArePlaceEnds (b : Book) (ends : List TailEnd) (place : Place) (r : JoinRange) (found : List TailEnd) : Type 0 where
  pub range : IsRange found r.from r.to
  pub each : Each (λ e. IsIn e ends) (between found r.from r.to)
  pub all : Each (λ (e : TailEnd). IsIn e (between found r.from r.to) ⊎ HasNoFares b place e.place) ends

abbrev pub ArePlacesKept : Book → List TailEnd → JoinEnds → Type 0
ArePlacesKept b ends known = Each (λ (p : PlaceJoins). ArePlaceEnds b ends p.place p.range known.place_ends.items) known.kept_places.items

-- What is known of ends is so.
pub record AreJoinEnds (b : Book) (fares : FareEnds) (ends : List TailEnd) (known : JoinEnds) : Type 0 where
  pub places : ArePlacesKept b ends known
  pub joins : Each (λ (k : CarrierJoins). AreFareJoins b fares ends k.key k.range known.ends.items) known.kept.items

-- an end was added, if the carrier of a key has fares for it
pub record AddsJoin (b : Book) (fares : FareEnds) (key : JoinKey) (e : TailEnd) (old new : List JoinEnd) : Type 0 where
  pub more : List JoinEnd
  pub joined : new ≡ old ++ more
  pub each : Each (λ (j : JoinEnd). (j.from ≡ e.from) × (j.to ≡ e.to) × IsFareEnd b (asked_for key e.place) fares j.end) more
  pub has : IsJoinedOrLacks b fares key more e

-- those of some ends were added for which the carrier of a key has fares
pub record AddsJoins (b : Book) (fares : FareEnds) (key : JoinKey) (ends : List TailEnd) (old new : List JoinEnd) : Type 0 where
  pub more : List JoinEnd
  pub joined : new ≡ old ++ more
  pub each : Each (IsJoinEnd b fares ends key) more
  pub all : Each (IsJoinedOrLacks b fares key more) ends

-- an end was added, or no fare is filed for it
abbrev pub AddsPlaceEnd : Book → Place → TailEnd → List TailEnd → List TailEnd → Type 0
AddsPlaceEnd b place e old new = (new ≡ old ++ e ∷ []) ⊎ ((new ≡ old) × HasNoFares b place e.place)

-- those ends were added for which a place has fares
pub record AddsPlaceEnds (b : Book) (ends : List TailEnd) (place : Place) (old new : List TailEnd) : Type 0 where
  pub more : List TailEnd
  pub joined : new ≡ old ++ more
  pub each : Each (λ e. IsIn e ends) more
  pub all : Each (λ (e : TailEnd). IsIn e more ⊎ HasNoFares b place e.place) ends
