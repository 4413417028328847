-- When a unit meets a demand, and what the rule of one of its fares asks of it.
use Rattle.std.specs.Prelude.{◌≡◌, ◌≢◌, ◌↔◌, ℕ, ℤ, true, ◌≤◌, List}
use Rattle.fare_law.specs.declared.names.Carrier.{Carrier}
use Rattle.fare_law.specs.declared.rules.UnitKind.{UnitKind}
use Rattle.fare_law.specs.declared.rules.UnitKind.TheVariants.{OneWay}
use Rattle.fare_law.specs.declared.tickets.Piece.{Piece}
use Rattle.fare_law.specs.Lists.{Each, IsIn}
use Rattle.fare_law.specs.Units.{EndsBy, MinStayHolds, MaxStayHolds, KindHolds, PartnersHold}
use Rattle.fare_rules.specs.declared.demand.UnitDemand.{UnitDemand}
use Rattle.fare_rules.specs.Demands.{AtMost, MayReturn, has_kind, demand_of}

-- every fare of these components has this carrier
abbrev pub HaveCarrier : Carrier → List Piece → Type 0
HaveCarrier c ps = Each (λ p. p.fare.key.carrier ≡ c) ps

-- every fare of these components has this carrier and this rule number
abbrev pub HaveRule : Carrier → ℕ → List Piece → Type 0
HaveRule c n ps = Each (λ p. (p.fare.key.carrier ≡ c) × (p.fare.rule ≡ n)) ps

-- A unit of this kind and these components meets the demand. It returns and ends on these days; a one way has no return.
pub record Meets (d : UnitDemand) (kind : UnitKind) (back last : ℤ) (ps : List Piece) : Type 0 where
  pub kind_allowed : has_kind d.kinds kind ≡ true
  pub returns : kind ≢ OneWay → MayReturn d back
  pub by : AtMost d.by last
  pub one_carrier : 1 ≤ d.partner → (c : Carrier) × HaveCarrier c ps
  pub one_rule : 2 ≤ d.partner → (c : Carrier) × (n : ℕ) × HaveRule c n ps

-- exactly the units that meet both demands meet this one
abbrev pub MeetsBoth : UnitDemand → UnitDemand → UnitDemand → Type 0
MeetsBoth both d e =
    (kind : UnitKind) (back last : ℤ) (ps : List Piece)
    → Meets both kind back last ps ↔ (Meets d kind back last ps × Meets e kind back last ps)

-- what categories 6, 7 and 10 and the last day of category 14 of one fare ask of its unit
pub record UnitRulesHold (kind : UnitKind) (first back last : ℤ) (ps : List Piece) (p : Piece) : Type 0 where
  pub min_stay : kind ≢ OneWay → MinStayHolds p.rule first back
  pub max_stay : kind ≢ OneWay → MaxStayHolds p.rule first back
  pub kind_allowed : KindHolds p.rule kind
  pub partners : PartnersHold ps p
  pub by : EndsBy p.rule last

-- A unit meets the demand of the rule of one of its fares exactly where these categories of that rule hold.
abbrev pub DemandsAreRules : Type 0
DemandsAreRules =
    (kind : UnitKind) (first back last : ℤ) (ps : List Piece) (p : Piece) → IsIn p ps
    → Meets (demand_of p.rule first) kind back last ps ↔ UnitRulesHold kind first back last ps p
