-- A unit is lawful exactly where each of its parts meets the demands on it in its unit.
use Rattle.std.proofs.Common.{◌≡◌, ◌≢◌, ℕ, ℤ, List, refl, sym, subst}
use Rattle.fare_law.specs.declared.rules.UnitKind.{UnitKind}
use Rattle.fare_law.specs.declared.rules.UnitKind.TheVariants.{OneWay}
use Rattle.fare_law.specs.declared.tickets.Piece.{Piece}
use Rattle.fare_law.specs.Lawful.{unit_of}
use Rattle.fare_law.specs.Parts.{Part}
use Rattle.fare_law.specs.Lists.{Each, IsIn}
use Rattle.fare_law.specs.Units.{IsUnit, UnitLawful, FareHolds, MayStand, SeasonHolds, AdvanceHolds, TravelHolds, EndsBy, MinStayHolds, MaxStayHolds, KindHolds, PartnersHold}
use Rattle.ticket_whole.specs.declared.demand.UnitDemand.{UnitDemand}
use Rattle.ticket_whole.specs.declared.demand.UnitDemand.TheVariants.{Shape, FareKind, FirstDay, TravelDates, Stay, Combination}
use Rattle.ticket_whole.specs.Breaches.{InUnit, PartMeets}
use Rattle.ticket_whole.proofs.UnitEnds.{no_empty_unit, in_unit_of, each_unit_of, AtEnds, to_ends, from_ends, ends_to, ends_both, ends_each}
use Rattle.law_lemmas.proofs.EachOne.{each_in}
use Rattle.ticket_whole.proofs.OneKind.{kind_once}

-- what binds a piece of a unit of this kind, by the unit's ends
abbrev Binds : UnitKind → List Piece → Piece → Piece → Piece → Type 0
Binds kind ps p a z = FareHolds kind a.first_day z.first_day z.last_day ps p

-- in a lawful unit of this kind each piece is bound by the unit's ends
bound : (ps : List Piece) (p : Piece) (kind : UnitKind) → UnitLawful ps → IsIn p ps → IsUnit kind ps → AtEnds (Binds kind ps p) ps
bound ps p kind u i is =
    let ends = to_ends (λ a z. Each (FareHolds u.0 a.first_day z.first_day z.last_day ps) ps) ps u.2 in
    subst (λ k. AtEnds (Binds k ps p) ps) (kind_once u.0 kind ps u.1 is)
    (ends_to _ _ ps (λ a z h. each_in (FareHolds u.0 a.first_day z.first_day z.last_day ps) ps p h i) ends)

-- what is part of what binds a piece holds in the unit
in_bound : (parts : List Part) (part : Part) (P : UnitKind → ℤ → ℤ → ℤ → Type 0) → UnitLawful (unit_of part.unit parts) → IsIn part parts
    → ((kind : UnitKind) (first back last : ℤ) → FareHolds kind first back last (unit_of part.unit parts) part.piece → P kind first back last) → InUnit parts part P
in_bound parts part P u i to kind is =
    let ps = unit_of part.unit parts in
    from_ends (λ a z. P kind a.first_day z.first_day z.last_day) ps
    (ends_to (Binds kind ps part.piece) _ ps (λ a z h. to kind a.first_day z.first_day z.last_day h) (bound ps part.piece kind u (in_unit_of part.unit parts part i refl) is))

-- a part of a lawful unit meets each demand on it in its unit
pub lawful_unit : (parts : List Part) (part : Part) → UnitLawful (unit_of part.unit parts) → IsIn part parts → (d : UnitDemand) → PartMeets parts d part
lawful_unit parts part u i Shape = (u.0, u.1)
lawful_unit parts part u i FareKind = in_bound parts part _ u i (λ kind first back last h. h.stands)
lawful_unit parts part u i FirstDay = in_bound parts part _ u i (λ kind first back last h. (h.season, h.advance))
lawful_unit parts part u i TravelDates = in_bound parts part _ u i (λ kind first back last h. (h.travel, h.by))
lawful_unit parts part u i Stay = in_bound parts part _ u i (λ kind first back last h n. (h.min_stay n, h.max_stay n))
lawful_unit parts part u i Combination = in_bound parts part _ u i (λ kind first back last h. (h.kind_allowed, h.partners))

module _ (parts : List Part) (part : Part) (meets : (d : UnitDemand) → PartMeets parts d part) (kind : UnitKind) (is : IsUnit kind (unit_of part.unit parts)) where
  abbrev unit : List Piece
  unit = unit_of part.unit parts

  abbrev Stands : Piece → Piece → Type 0
  Stands a z = MayStand part.piece.fare.kind kind

  abbrev Begins : Piece → Piece → Type 0
  Begins a z = SeasonHolds part.piece.rule a.first_day × AdvanceHolds part.piece.rule part.piece.sale a.first_day

  abbrev Travels : Piece → Piece → Type 0
  Travels a z = TravelHolds part.piece.rule a.first_day × EndsBy part.piece.rule z.last_day

  abbrev Stays : Piece → Piece → Type 0
  Stays a z = kind ≢ OneWay → MinStayHolds part.piece.rule a.first_day z.first_day × MaxStayHolds part.piece.rule a.first_day z.first_day

  abbrev Joins : Piece → Piece → Type 0
  Joins a z = KindHolds part.piece.rule kind × PartnersHold unit part.piece

  all_five : AtEnds (λ a z. Stands a z × (Begins a z × (Travels a z × (Stays a z × Joins a z)))) unit
  all_five =
      ends_both Stands (λ a z. Begins a z × (Travels a z × (Stays a z × Joins a z))) unit (to_ends Stands unit (meets FareKind kind is))
      (ends_both Begins (λ a z. Travels a z × (Stays a z × Joins a z)) unit (to_ends Begins unit (meets FirstDay kind is))
      (ends_both Travels (λ a z. Stays a z × Joins a z) unit (to_ends Travels unit (meets TravelDates kind is))
      (ends_both Stays Joins unit (to_ends Stays unit (meets Stay kind is)) (to_ends Joins unit (meets Combination kind is)))))

  -- a part that meets the demands on it in its unit is bound by the unit's ends
  binds : AtEnds (Binds kind unit part.piece) unit
  binds =
      ends_to (λ a z. Stands a z × (Begins a z × (Travels a z × (Stays a z × Joins a z)))) (Binds kind unit part.piece) unit
      (λ a z h. record {
        stands = h.0;
        season = h.1.0.0;
        advance = h.1.0.1;
        travel = h.1.1.0.0;
        by = h.1.1.0.1;
        min_stay = λ n. (h.1.1.1.0 n).0;
        max_stay = λ n. (h.1.1.1.0 n).1;
        kind_allowed = h.1.1.1.1.0;
        partners = h.1.1.1.1.1;
      }) all_five

binds_in : (parts : List Part) (kind : UnitKind) (u : ℕ) → IsUnit kind (unit_of u parts) → (part : Part) → part.unit ≡ u → ((d : UnitDemand) → PartMeets parts d part) → AtEnds (Binds kind (unit_of u parts) part.piece) (unit_of u parts)
binds_in parts kind u is part e meets =
    subst (λ v. AtEnds (Binds kind (unit_of v parts) part.piece) (unit_of v parts)) e
    (binds parts part meets kind (subst (λ v. IsUnit kind (unit_of v parts)) (sym e) is))

-- the unit of a part is lawful where each part of the ticket meets the demands on it in its unit
pub unit_lawful : (parts : List Part) → Each (λ part. (d : UnitDemand) → PartMeets parts d part) parts → (part : Part) → IsIn part parts → UnitLawful (unit_of part.unit parts)
unit_lawful parts meets part i =
    let shape = each_in (λ (p : Part). (d : UnitDemand) → PartMeets parts d p) parts part meets i Shape in
    let ps = unit_of part.unit parts in (
      shape.0,
      shape.1,
      from_ends (λ a z. Each (FareHolds shape.0 a.first_day z.first_day z.last_day ps) ps) ps
          (ends_each (λ a z p. FareHolds shape.0 a.first_day z.first_day z.last_day ps p) ps ps
          (λ e. no_empty_unit shape.0 (subst (λ qs. IsUnit shape.0 qs) e shape.1))
          (each_unit_of (λ p. AtEnds (λ a z. FareHolds shape.0 a.first_day z.first_day z.last_day ps p) ps) part.unit parts
          (λ other j same. binds_in parts shape.0 part.unit shape.1 other same (each_in (λ (p : Part). (d : UnitDemand) → PartMeets parts d p) parts other meets j)))),
    )
