-- Stretches of a ticket: what the rules of units read of its parts.
use Rattle.std.specs.Prelude.{◌≡◌, ◌≢◌, ◌&&◌, ℤ, not, Bool, cond, List, [], ◌∷◌, All, IfSome, MatchOption, Option, Some, None}
use Rattle.fare_law.specs.declared.rules.UnitKind.{UnitKind}
use Rattle.fare_law.specs.declared.rules.UnitKind.TheVariants.{OneWay, RoundTrip, OpenJaw, Circle}
use Rattle.fare_law.specs.declared.rules.Partners.{Partners}
use Rattle.fare_law.specs.declared.rules.Partners.TheVariants.{Any, SameCarrier, SameRule}
use Rattle.fare_law.specs.declared.sheets.SheetRow.{SheetRow}
use Rattle.fare_law.specs.Book.{same_place}
use Rattle.fare_law.specs.Parts.{Part}
use Rattle.fare_law.specs.Units.{MayStand, SeasonHolds, AdvanceHolds, TravelHolds, EndsBy, MinStayHolds, MaxStayHolds, KindHolds}
use Rattle.ticket_whole.specs.declared.demand.UnitDemand.{UnitDemand}
use Rattle.ticket_whole.specs.declared.demand.UnitDemand.TheVariants.{Shape, FareKind, FirstDay, TravelDates, Stay, Combination}
use Rattle.ticket_whole.specs.declared.stretch.Stretch.{Stretch}
use Rattle.ticket_whole.specs.declared.units.UnitFacts.{UnitFacts}

abbrev pub stretch_of : Part → Stretch
stretch_of part = record {
  begin = part.piece.begin;
  end = part.piece.end;
  reverse = part.piece.reverse;
  first_day = part.piece.first_day;
  last_day = part.piece.last_day;
  carrier = part.piece.fare.key.carrier;
  rule = part.piece.fare.rule;
  unit = part.unit;
}

-- whether the one begins where the other ended
abbrev pub follows : Stretch → Stretch → Bool
follows a b = same_place b.begin a.end

abbrev pub only_if : Bool → UnitKind → Option UnitKind
only_if holds kind = cond holds (Some kind) None

-- the kind of two that meet at the far end, at the near end, at both or at none
abbrev pub kind_of_ends : Bool → Bool → Option UnitKind
kind_of_ends far near = cond far (cond near (Some RoundTrip) (Some OpenJaw)) (only_if near OpenJaw)

abbrev pub kind_of_one : Stretch → Option UnitKind
kind_of_one a = only_if (not a.reverse) OneWay

abbrev pub kind_of_two : Stretch → Stretch → Option UnitKind
kind_of_two a b = cond (not a.reverse && b.reverse) (kind_of_ends (follows a b) (follows b a)) None

abbrev pub kind_of_three : Stretch → Stretch → Stretch → Option UnitKind
kind_of_three a b c = only_if (not a.reverse && (not b.reverse && (c.reverse && (follows a b && (follows b c && follows c a))))) Circle

abbrev pub kind_of_four : Stretch → Stretch → Stretch → Stretch → Option UnitKind
kind_of_four a b c d = only_if (not a.reverse && (not b.reverse && (not c.reverse && (d.reverse && (follows a b && (follows b c && (follows c d && follows d a))))))) Circle

abbrev pub facts_from : Option UnitKind → Stretch → Stretch → Option UnitFacts
facts_from None first last = None
facts_from (Some kind) first last = Some (record { kind = kind; first_day = first.first_day; return_day = last.first_day; last_day = last.last_day })

-- the kind and the days of the unit that these are, in order
abbrev pub facts_of : List Stretch → Option UnitFacts
facts_of [] = None
facts_of (a ∷ []) = facts_from (kind_of_one a) a a
facts_of (a ∷ b ∷ []) = facts_from (kind_of_two a b) a b
facts_of (a ∷ b ∷ c ∷ []) = facts_from (kind_of_three a b c) a c
facts_of (a ∷ b ∷ c ∷ d ∷ []) = facts_from (kind_of_four a b c d) a d
facts_of (a ∷ b ∷ c ∷ d ∷ e ∷ more) = None

-- the fare of a stretch is a partner of the row's fare
abbrev pub IsPartner : Partners → SheetRow → Stretch → Type 0
IsPartner Any row s = Unit {0}
IsPartner SameCarrier row s = s.carrier ≡ row.fare.key.carrier
IsPartner SameRule row s = (s.carrier ≡ row.fare.key.carrier) × (s.rule ≡ row.fare.rule)

-- what a fare meets in a unit of these stretches, by the unit's kind and days
abbrev pub FactsMeet : ℤ → SheetRow → List Stretch → UnitFacts → UnitDemand → Type 0
FactsMeet sale row unit facts Shape = Unit {0}
FactsMeet sale row unit facts FareKind = MayStand row.fare.kind facts.kind
FactsMeet sale row unit facts FirstDay = SeasonHolds row.rule facts.first_day × AdvanceHolds row.rule sale facts.first_day
FactsMeet sale row unit facts TravelDates = TravelHolds row.rule facts.first_day × EndsBy row.rule facts.last_day
FactsMeet sale row unit facts Stay = facts.kind ≢ OneWay → MinStayHolds row.rule facts.first_day facts.return_day × MaxStayHolds row.rule facts.first_day facts.return_day
FactsMeet sale row unit facts Combination = KindHolds row.rule facts.kind × IfSome row.rule.cat10 (λ c. All (IsPartner c.partners row) unit)

-- what a fare meets in a unit of these stretches; where that has no kind, all but that it has one
abbrev pub StretchesMeet : ℤ → SheetRow → List Stretch → UnitDemand → Type 0
StretchesMeet sale row unit demand = MatchOption (facts_of unit) (demand ≢ Shape) (λ facts. FactsMeet sale row unit facts demand)
