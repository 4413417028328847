-- A unit reads of a piece what another fare of its carrier, rule number and kind leaves as it is. Given on to the crates above.
use Rattle.std.proofs.Common.{◌≡◌, ℤ, Option, Some, None, IfNone, IfSome, sym, subst}
use Rattle.fare_law.specs.declared.fares.Fare.{Fare}
use Rattle.fare_law.specs.declared.rules.UnitKind.{UnitKind}
use Rattle.fare_law.specs.declared.tickets.Piece.{Piece}
use Rattle.open_unit.specs.declared.units.OpenUnit.{OpenUnit}
use Rattle.open_unit.specs.OpenUnits.{DaysHold, MayAlone, MayClose, MayGoOn, MayOpen}
use Rattle.open_unit.specs.Ranges.{PieceInRanges}
use Rattle.open_unit.specs.Readings.{as_read}

-- a piece with another fare of its carrier, rule number and kind
abbrev pub dressed : Piece → Fare → Piece
dressed p f = record {
  begin = p.begin;
  end = p.end;
  fare = record {
    key = record { carrier = p.fare.key.carrier; from = f.key.from; to = f.key.to; basis = f.key.basis };
    class = f.class;
    kind = p.fare.kind;
    amount = f.amount;
    rule = p.fare.rule;
  };
  rule = p.rule;
  reverse = p.reverse;
  first_day = p.first_day;
  last_day = p.last_day;
  sale = p.sale;
}

module _ (p : Piece) (f : Fare) where
  days : (first : ℤ) → DaysHold first p → DaysHold first (dressed p f)
  days first h = record { season = h.season; advance = h.advance; travel = h.travel }

  pub alone : MayAlone p → MayAlone (dressed p f)
  alone h = record { forward = h.forward; stands = h.stands; kind = h.kind; days = days p.first_day h.days; by = h.by }

  pub opens : MayOpen p → MayOpen (dressed p f)
  opens h = record { forward = h.forward; stands = h.stands; kind = h.kind; days = days p.first_day h.days }

  pub goes_on : (u : OpenUnit) → MayGoOn u p → MayGoOn u (dressed p f)
  goes_on u h = record { forward = h.forward; stands = h.stands; count = h.count; follows = h.follows; kind = h.kind; days = days u.first_day h.days; partners = h.partners }

  pub closes : (u : OpenUnit) (kind : UnitKind) → MayClose u p kind → MayClose u (dressed p f) kind
  closes u kind h = record {
    reverse = h.reverse;
    stands = h.stands;
    makes = h.makes;
    kind_allowed = h.kind_allowed;
    days = days u.first_day h.days;
    least = h.least;
    greatest = h.greatest;
    by = h.by;
    partners = h.partners;
  }

  in_ranges : PieceInRanges p → PieceInRanges (dressed p f)
  in_ranges h = record { first_day = h.first_day; last_day = h.last_day; sale = h.sale; rule = h.rule }

-- so a component has a role by what a unit reads exactly where it has it by its piece
module _ (p read : Piece) (is : read ≡ as_read p) where
  pub read_alone : (MayAlone read → MayAlone p) × (MayAlone p → MayAlone read)
  read_alone = (λ h. alone (as_read p) p.fare (subst MayAlone is h), λ h. subst MayAlone (sym is) (alone p (as_read p).fare h))

  pub read_opens : (MayOpen read → MayOpen p) × (MayOpen p → MayOpen read)
  read_opens = (λ h. opens (as_read p) p.fare (subst MayOpen is h), λ h. subst MayOpen (sym is) (opens p (as_read p).fare h))

  pub read_goes_on : (u : OpenUnit) → (MayGoOn u read → MayGoOn u p) × (MayGoOn u p → MayGoOn u read)
  read_goes_on u = (λ h. goes_on (as_read p) p.fare u (subst (MayGoOn u) is h), λ h. subst (MayGoOn u) (sym is) (goes_on p (as_read p).fare u h))

  read_closes : (u : OpenUnit) (kind : UnitKind) → (MayClose u read kind → MayClose u p kind) × (MayClose u p kind → MayClose u read kind)
  read_closes u kind = (λ h. closes (as_read p) p.fare u kind (subst (λ x. MayClose u x kind) is h), λ h. subst (λ x. MayClose u x kind) (sym is) (closes p (as_read p).fare u kind h))

  pub read_kind : (u : OpenUnit) (made : Option UnitKind) → IfSome made (MayClose u read) → IfSome made (MayClose u p)
  read_kind u None h = tt
  read_kind u (Some kind) h = (read_closes u kind).0 h

  pub read_no_kind : (u : OpenUnit) (made : Option UnitKind) → IfNone made ((kind : UnitKind) → MayClose u read kind → ⊥) → IfNone made ((kind : UnitKind) → MayClose u p kind → ⊥)
  read_no_kind u None h = λ kind m. h kind ((read_closes u kind).1 m)
  read_no_kind u (Some kind) h = tt

  pub read_in_ranges : PieceInRanges p → PieceInRanges read
  read_in_ranges h = subst PieceInRanges (sym is) (in_ranges p (as_read p).fare h)
