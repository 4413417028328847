-- The role "goes on" from what the fares of a unit with one more component allow. Given on to the crates above.
use Rattle.std.proofs.Common.{◌≡◌, ◌≢◌, ◌⊎◌, ℕ, true, false, cond, ◌+◌, sym, ap, ◌∙◌, subst, arith}
use Rattle.fare_law.specs.declared.names.Carrier.{Carrier}
use Rattle.fare_law.specs.declared.tickets.Piece.{Piece}
use Rattle.fare_law.specs.declared.rules.UnitKind.{UnitKind}
use Rattle.fare_law.specs.declared.rules.UnitKind.TheVariants.{Circle}
use Rattle.fare_law.specs.Book.{same_carrier}
use Rattle.fare_law.specs.Units.{Forward, MayStand}
use Rattle.fare_rules.specs.Demands.{has_kind}
use Rattle.fare_rules.specs.Ranges.{DemandInRange}
use Rattle.open_unit.specs.declared.joined.JoinedFares.{JoinedFares}
use Rattle.open_unit.specs.declared.marks.CarrierMark.{CarrierMark}
use Rattle.open_unit.specs.declared.marks.CarrierMark.TheVariants.{NotYet, One, Mixed}
use Rattle.open_unit.specs.declared.marks.RuleMark.{RuleMark}
use Rattle.open_unit.specs.declared.marks.RuleMark.TheVariants.{Mixed as MixedRules}
use Rattle.open_unit.specs.declared.units.OpenUnit.{OpenUnit}
use Rattle.open_unit.specs.OpenUnits.{DaysHold, PartnerHolds, MayGoOn, carrier_with, rule_with, demand_with, carriers_with, rules_with}
use Rattle.open_unit.specs.Ranges.{UnitInRanges}

-- these are the fares of the unit and of the component
pub record AreJoined (u : OpenUnit) (p : Piece) (f : JoinedFares) : Type 0 where
  pub demand : f.demand ≡ demand_with u p
  pub carrier : f.carrier ≡ carriers_with u p
  pub rule : f.rule ≡ rules_with u p

abbrev pub Allow : JoinedFares → UnitKind → Type 0
Allow f kind = (has_kind f.demand.kinds kind ≡ true) × PartnerHolds f.demand.partner f.carrier f.rule

-- the fares of the unit and of the component, in the words of the roles
abbrev joined : OpenUnit → Piece → JoinedFares
joined u p = record { demand = demand_with u p; carrier = carriers_with u p; rule = rules_with u p }

are_one : (u : OpenUnit) (p : Piece) (f : JoinedFares) → AreJoined u p f → f ≡ joined u p
are_one u p f e = λ i. record { demand = e.demand i; carrier = e.carrier i; rule = e.rule i }

pub may_go_on : (u : OpenUnit) (p : Piece) (f : JoinedFares) → AreJoined u p f
    → Forward p × ((u.count ≡ 1) ⊎ (u.count ≡ 2)) × (p.begin ≡ u.end) → MayStand p.fare.kind Circle × DaysHold u.first_day p → Allow f Circle → MayGoOn u p
may_go_on u p f e follows fits allow =
    let a : Allow (joined u p) Circle = subst (λ (x : JoinedFares). Allow x Circle) (are_one u p f e) allow in
    record { forward = follows.0; stands = fits.0; count = follows.1; follows = follows.2; kind = a.0; days = fits.1; partners = a.1 }

pub going_on_allows : (u : OpenUnit) (p : Piece) (f : JoinedFares) → AreJoined u p f → MayGoOn u p → Allow f Circle
going_on_allows u p f e m = subst (λ (x : JoinedFares). Allow x Circle) (sym (are_one u p f e)) (m.kind, m.partners)

-- a fare was there
pub not_not_yet : (mark : CarrierMark) (c : Carrier) → carrier_with mark c ≢ NotYet
not_not_yet NotYet c e = cc
not_not_yet (One d) c e = elim (same_carrier d c) as (λ b. cond b (One d) Mixed ≡ NotYet → ⊥) [ true ↦ λ h. cc | false ↦ λ h. cc ] e
not_not_yet Mixed c e = cc

mixed_rules : (carriers : CarrierMark) (rule : RuleMark) (n : ℕ) → carriers ≡ Mixed → rule_with carriers rule n ≡ MixedRules
mixed_rules carriers rule n e = ap (λ m. rule_with m rule n) e

pub gone_on_in_ranges : (u : OpenUnit) (p : Piece) (f : JoinedFares) → AreJoined u p f → UnitInRanges u → DemandInRange f.demand → (u.count ≡ 1) ⊎ (u.count ≡ 2)
    → UnitInRanges (record u { end = p.end; count = u.count + 1; least = f.demand.min_return; greatest = f.demand.max_return; by = f.demand.by; kinds = 8; partner = f.demand.partner; carrier = f.carrier; rule = f.rule })
gone_on_in_ranges u p f e h d count = record {
  first = h.first;
  least = d.least;
  greatest = d.greatest;
  by = d.by;
  count = (omega arith, grind (arith, count));
  kinds = omega arith;
  partner = d.partner;
  marks = (λ m. not_not_yet u.carrier p.fare.key.carrier (sym e.carrier ∙ m), λ m. e.rule ∙ mixed_rules (carriers_with u p) u.rule p.fare.rule (sym e.carrier ∙ m));
}
