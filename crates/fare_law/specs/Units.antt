-- One unit: its kind and the rules that bind its fares together.
use Rattle.std.specs.Prelude.{◌≡◌, ◌≢◌, ◌⊎◌, ℤ, true, false, pos, ◌≤◌, ◌+ℤ◌, ◌≤ℤ◌, List, length, Contains, IfSome}
use Rattle.std.specs.Bool.{OnTrue}
use Rattle.fare_law.specs.declared.fares.FareKind.{FareKind}
use Rattle.fare_law.specs.declared.fares.FareKind.TheVariants.{O, R, S}
use Rattle.fare_law.specs.declared.rules.Partners.{Partners}
use Rattle.fare_law.specs.declared.rules.Partners.TheVariants.{Any, SameCarrier, SameRule}
use Rattle.fare_law.specs.declared.tickets.Piece.{Piece}
use Rattle.fare_law.specs.declared.rules.Rule.{Rule}
use Rattle.fare_law.specs.declared.rules.UnitKind.{UnitKind}
use Rattle.fare_law.specs.declared.rules.UnitKind.TheVariants.{OneWay, RoundTrip, OpenJaw, Circle}
use Rattle.fare_law.specs.Days.{InSomeRange, first_sunday_after}
use Rattle.fare_law.specs.Lists.{Each, EachPair, OnFirst, OnLast, LastDiffers}

abbrev pub Forward : Piece → Type 0
Forward p = p.reverse ≡ false

abbrev pub Reverse : Piece → Type 0
Reverse p = p.reverse ≡ true

-- each begins where the one before ended
abbrev pub Follows : Piece → Piece → Type 0
Follows p q = q.begin ≡ p.end

-- The table of units: these components, in order, are a unit of this kind.
abbrev pub IsUnit : UnitKind → List Piece → Type 0
IsUnit OneWay ps = (length ps ≡ 1) × OnFirst Forward ps
IsUnit RoundTrip ps = (length ps ≡ 2) × LastDiffers Forward Reverse ps × EachPair (λ p q. (q.begin ≡ p.end) × (q.end ≡ p.begin)) ps
IsUnit OpenJaw ps = (length ps ≡ 2) × LastDiffers Forward Reverse ps
    × EachPair (λ p q. ((q.begin ≡ p.end) × (q.end ≢ p.begin)) ⊎ ((q.begin ≢ p.end) × (q.end ≡ p.begin))) ps
IsUnit Circle ps = (3 ≤ length ps) × (length ps ≤ 4) × LastDiffers Forward Reverse ps × EachPair Follows ps
    × OnFirst (λ a. OnLast (λ z. z.end ≡ a.begin) ps) ps

-- where a fare of this kind may stand
abbrev pub MayStand : FareKind → UnitKind → Type 0
MayStand O kind = Unit {0}
MayStand R kind = kind ≢ OneWay
MayStand S kind = kind ≡ OneWay

-- category 3
abbrev pub SeasonHolds : Rule → ℤ → Type 0
SeasonHolds r first = IfSome r.cat3 (InSomeRange first)

-- category 5
abbrev pub AdvanceHolds : Rule → ℤ → ℤ → Type 0
AdvanceHolds r sale first = IfSome r.cat5 (λ n. (sale +ℤ pos n) ≤ℤ first)

-- category 14
abbrev pub TravelHolds : Rule → ℤ → Type 0
TravelHolds r first = IfSome r.cat14 (λ c. IfSome c.ranges (InSomeRange first))

abbrev pub EndsBy : Rule → ℤ → Type 0
EndsBy r last = IfSome r.cat14 (λ c. IfSome c.by (λ day. last ≤ℤ day))

-- category 6
abbrev pub MinStayHolds : Rule → ℤ → ℤ → Type 0
MinStayHolds r first back = IfSome r.cat6 (λ c. ((first +ℤ pos c.days) ≤ℤ back) × OnTrue c.sunday (first_sunday_after first ≤ℤ back))

-- category 7
abbrev pub MaxStayHolds : Rule → ℤ → ℤ → Type 0
MaxStayHolds r first back = IfSome r.cat7 (λ n. back ≤ℤ (first +ℤ pos n))

-- category 10, on the kind
abbrev pub KindHolds : Rule → UnitKind → Type 0
KindHolds r kind = IfSome r.cat10 (λ c. Contains c.kinds kind)

abbrev pub SameAs : Partners → Piece → Piece → Type 0
SameAs Any p q = Unit {0}
SameAs SameCarrier p q = q.fare.key.carrier ≡ p.fare.key.carrier
SameAs SameRule p q = (q.fare.key.carrier ≡ p.fare.key.carrier) × (q.fare.rule ≡ p.fare.rule)

-- category 10, on the fares of the unit
abbrev pub PartnersHold : List Piece → Piece → Type 0
PartnersHold ps p = IfSome p.rule.cat10 (λ c. Each (SameAs c.partners p) ps)

-- What binds one fare of the unit: the kind, the first day, the day of return and the last day are the unit's.
pub record FareHolds (kind : UnitKind) (first back last : ℤ) (ps : List Piece) (p : Piece) : Type 0 where
  pub stands : MayStand p.fare.kind kind
  pub season : SeasonHolds p.rule first
  pub advance : AdvanceHolds p.rule p.sale first
  pub travel : TravelHolds p.rule first
  pub by : EndsBy p.rule last
  pub min_stay : kind ≢ OneWay → MinStayHolds p.rule first back
  pub max_stay : kind ≢ OneWay → MaxStayHolds p.rule first back
  pub kind_allowed : KindHolds p.rule kind
  pub partners : PartnersHold ps p

-- These components, in order, are a lawful unit.
abbrev pub UnitLawful : List Piece → Type 0
UnitLawful ps =
    (kind : UnitKind) × IsUnit kind ps
    × OnFirst (λ a. OnLast (λ z. Each (FareHolds kind a.first_day z.first_day z.last_day ps) ps) ps) ps
