-- What opens a unit of a list, or goes on in one, leaves the unit in its ranges.
use Rattle.std.proofs.Common.{ℤ, pos, refl, arith}
use Rattle.std.proofs.lemmas.Nat.{and_le_l}
use Rattle.fare_law.specs.declared.names.Place.{Place}
use Rattle.fare_law.specs.declared.tickets.Piece.{Piece}
use Rattle.fare_law.specs.Days.{IsCalendarDay}
use Rattle.open_unit.specs.declared.units.OpenUnit.{OpenUnit}
use Rattle.open_unit.specs.OpenUnits.{MayGoOn, demand_so_far, gone_on, opened}
use Rattle.open_unit.specs.Ranges.{PieceInRanges, UnitInRanges}
use Rattle.open_unit.proofs.RoleLemmas.{gone_on_in_ranges}
use Rattle.outlines.specs.declared.outline.Entry.{Entry}
use Rattle.outlines.specs.Marks.{written}
use Rattle.outlines.specs.Outcomes.{EntryWithin}
use Rattle.fare_rules.specs.Demands.{demand_of, kinds_of}
use Rattle.fare_rules.specs.Ranges.{DemandInRange, IsDayWithin}
use Rattle.fare_rules.proofs.RangeLemmas.{fields_within, met_within, rule_stays}
use Rattle.residual_keys.proofs.NamesKept.{day_within}

pub piece_within : (begin : Place) (sale : ℤ) (e : Entry) → IsCalendarDay sale → EntryWithin e → PieceInRanges (written begin sale e)
piece_within begin sale e s h = record { first_day = h.first; last_day = h.last; sale = day_within sale s; rule = rule_stays e.rule h.rule }

demand_within : (p : Piece) (day : ℤ) → PieceInRanges p → IsDayWithin (pos 99000) day → DemandInRange (demand_of p.rule day)
demand_within p day h d = fields_within p.rule day _ _ _ _ _ refl refl refl refl refl d h.rule

opened_within : (p : Piece) → PieceInRanges p → UnitInRanges (opened p)
opened_within p h =
    let d = demand_within p p.first_day h h.first_day in
    record {
      first = h.first_day;
      least = d.least;
      greatest = d.greatest;
      by = d.by;
      count = (omega arith, omega arith);
      kinds = omega (arith, and_le_l (kinds_of p.rule.cat10) 14, d.kinds);
      partner = d.partner;
      marks = (λ e. absurd (cc), λ e. absurd (cc));
    }

gone_on_within : (u : OpenUnit) (p : Piece) → UnitInRanges u → PieceInRanges p → MayGoOn u p → UnitInRanges (gone_on u p)
gone_on_within u p h k may =
    let so_far : DemandInRange (demand_so_far u) = record { least = h.least; greatest = h.greatest; by = h.by; kinds = h.kinds; partner = h.partner } in
    gone_on_in_ranges u p _ (record { demand = refl; carrier = refl; rule = refl }) h (met_within (demand_so_far u) (demand_of p.rule u.first_day) so_far (demand_within p u.first_day k h.first)) may.count
