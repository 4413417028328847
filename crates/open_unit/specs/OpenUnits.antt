-- What is kept of a unit that is open, and the parts that a component may have in it.
use Rattle.std.specs.Prelude.{◌≡◌, ◌≢◌, ◌⊎◌, ℕ, ℤ, true, ◌==◌, max, ◌+◌, ◌≤◌, cond, bit_and}
use Rattle.fare_law.specs.declared.names.Carrier.{Carrier}
use Rattle.fare_law.specs.declared.tickets.Piece.{Piece}
use Rattle.fare_law.specs.declared.rules.UnitKind.{UnitKind}
use Rattle.fare_law.specs.declared.rules.UnitKind.TheVariants.{OneWay, RoundTrip, OpenJaw, Circle}
use Rattle.fare_law.specs.Book.{same_carrier}
use Rattle.fare_rules.specs.declared.demand.UnitDemand.{UnitDemand}
use Rattle.fare_rules.specs.Demands.{AtLeast, AtMost, later_of, earlier_of, least_stay, greatest_stay, by_day, has_kind, kinds_of, partner_of, demand_of, met}
use Rattle.fare_law.specs.Units.{Forward, Reverse, MayStand, SeasonHolds, AdvanceHolds, TravelHolds}
use Rattle.unit_labels.specs.UnitRuns.{Steps}
use Rattle.open_unit.specs.declared.marks.CarrierMark.{CarrierMark}
use Rattle.open_unit.specs.declared.marks.CarrierMark.TheVariants.{NotYet, One, Mixed}
use Rattle.open_unit.specs.declared.units.OpenUnit.{OpenUnit}
use Rattle.open_unit.specs.declared.marks.RuleMark.{RuleMark}
use Rattle.open_unit.specs.declared.marks.RuleMark.TheVariants.{One as OneRule, Mixed as MixedRules}

abbrev pub carrier_with : CarrierMark → Carrier → CarrierMark
carrier_with NotYet c = One c
carrier_with (One d) c = cond (same_carrier d c) (One d) Mixed
carrier_with Mixed c = Mixed

-- the rule of fares that have these carriers, where one with this rule number comes to them
abbrev pub rule_with : CarrierMark → RuleMark → ℕ → RuleMark
rule_with NotYet mark n = MixedRules
rule_with Mixed mark n = MixedRules
rule_with (One c) MixedRules n = MixedRules
rule_with (One c) (OneRule m) n = cond (m == n) (OneRule m) MixedRules

abbrev pub OneCarrierMark : CarrierMark → Type 0
OneCarrierMark mark = (c : Carrier) × (mark ≡ One c)

abbrev pub OneRuleMark : RuleMark → Type 0
OneRuleMark mark = (n : ℕ) × (mark ≡ OneRule n)

-- the demand on partners holds of fares with these marks
abbrev pub PartnerHolds : ℕ → CarrierMark → RuleMark → Type 0
PartnerHolds demand carrier rule = (1 ≤ demand → OneCarrierMark carrier) × (2 ≤ demand → OneRuleMark rule)

-- the tests of a fare's days that need the first day of its unit alone
pub record DaysHold (first : ℤ) (p : Piece) : Type 0 where
  pub season : SeasonHolds p.rule first
  pub advance : AdvanceHolds p.rule p.sale first
  pub travel : TravelHolds p.rule first

pub record MayAlone (p : Piece) : Type 0 where
  pub forward : Forward p
  pub stands : MayStand p.fare.kind OneWay
  pub kind : has_kind (kinds_of p.rule.cat10) OneWay ≡ true
  pub days : DaysHold p.first_day p
  pub by : AtMost (by_day p.rule.cat14) p.last_day

abbrev pub opened : Piece → OpenUnit
opened p = record {
  origin = p.begin;
  end = p.end;
  count = 1;
  first_day = p.first_day;
  least = least_stay p.rule.cat6 p.first_day;
  greatest = greatest_stay p.rule.cat7 p.first_day;
  by = by_day p.rule.cat14;
  kinds = bit_and (kinds_of p.rule.cat10) 14;
  partner = partner_of p.rule.cat10;
  carrier = One p.fare.key.carrier;
  rule = OneRule p.fare.rule;
}

pub record MayOpen (p : Piece) : Type 0 where
  pub forward : Forward p
  pub stands : MayStand p.fare.kind RoundTrip
  pub kind : bit_and (kinds_of p.rule.cat10) 14 ≢ 0
  pub days : DaysHold p.first_day p

-- what the fares of an open unit ask of it so far
abbrev pub demand_so_far : OpenUnit → UnitDemand
demand_so_far u = record { min_return = u.least; max_return = u.greatest; by = u.by; kinds = u.kinds; partner = u.partner }

-- the demand in which an open unit and the fare of one more component meet
abbrev pub demand_with : OpenUnit → Piece → UnitDemand
demand_with u p = met (demand_so_far u) (demand_of p.rule u.first_day)

abbrev pub partner_with : OpenUnit → Piece → ℕ
partner_with u p = max u.partner (partner_of p.rule.cat10)

abbrev pub carriers_with : OpenUnit → Piece → CarrierMark
carriers_with u p = carrier_with u.carrier p.fare.key.carrier

abbrev pub rules_with : OpenUnit → Piece → RuleMark
rules_with u p = rule_with (carriers_with u p) u.rule p.fare.rule

abbrev pub gone_on : OpenUnit → Piece → OpenUnit
gone_on u p = record {
  origin = u.origin;
  end = p.end;
  count = u.count + 1;
  first_day = u.first_day;
  least = later_of u.least (least_stay p.rule.cat6 u.first_day);
  greatest = earlier_of u.greatest (greatest_stay p.rule.cat7 u.first_day);
  by = earlier_of u.by (by_day p.rule.cat14);
  kinds = 8;
  partner = partner_with u p;
  carrier = carriers_with u p;
  rule = rules_with u p;
}

pub record MayGoOn (u : OpenUnit) (p : Piece) : Type 0 where
  pub forward : Forward p
  pub stands : MayStand p.fare.kind Circle
  pub count : (u.count ≡ 1) ⊎ (u.count ≡ 2)
  pub follows : p.begin ≡ u.end
  pub kind : has_kind (bit_and u.kinds (kinds_of p.rule.cat10)) Circle ≡ true
  pub days : DaysHold u.first_day p
  pub partners : PartnerHolds (partner_with u p) (carriers_with u p) (rules_with u p)

-- the open unit and this last component make a unit of this kind
abbrev pub Makes : OpenUnit → Piece → UnitKind → Type 0
Makes u p OneWay = ⊥
Makes u p RoundTrip = (u.count ≡ 1) × (p.begin ≡ u.end) × (p.end ≡ u.origin)
Makes u p OpenJaw = (u.count ≡ 1) × (((p.begin ≡ u.end) × (p.end ≢ u.origin)) ⊎ ((p.begin ≢ u.end) × (p.end ≡ u.origin)))
Makes u p Circle = ((u.count ≡ 2) ⊎ (u.count ≡ 3)) × (p.begin ≡ u.end) × (p.end ≡ u.origin)

pub record MayClose (u : OpenUnit) (p : Piece) (kind : UnitKind) : Type 0 where
  pub reverse : Reverse p
  pub stands : MayStand p.fare.kind RoundTrip
  pub makes : Makes u p kind
  pub kind_allowed : has_kind (bit_and u.kinds (kinds_of p.rule.cat10)) kind ≡ true
  pub days : DaysHold u.first_day p
  pub least : AtLeast (later_of u.least (least_stay p.rule.cat6 u.first_day)) p.first_day
  pub greatest : AtMost (earlier_of u.greatest (greatest_stay p.rule.cat7 u.first_day)) p.first_day
  pub by : AtMost (earlier_of u.by (by_day p.rule.cat14)) p.last_day
  pub partners : PartnerHolds (partner_with u p) (carriers_with u p) (rules_with u p)

-- the steps of units, for the machine of open units
abbrev pub unit_steps : Steps Piece OpenUnit
unit_steps = record {
  MayAlone = MayAlone;
  MayOpen = MayOpen;
  opened = opened;
  MayGoOn = MayGoOn;
  gone_on = gone_on;
  MayClose = λ u p. (kind : UnitKind) × MayClose u p kind;
}
