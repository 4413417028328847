-- A unit is accepted component by component exactly where it is lawful as a whole.
use Rattle.std.proofs.Common.{◌≡◌, ◌≢◌, ℤ, ◌+◌, ◌≤◌, ◌⊎◌, true, List, [], ◌∷◌, length, refl, subst, arith, bit_and}
use Rattle.fare_law.specs.declared.fares.FareKind.{FareKind}
use Rattle.fare_law.specs.declared.fares.FareKind.TheVariants.{O, R, S}
use Rattle.fare_law.specs.declared.tickets.Piece.{Piece}
use Rattle.fare_law.specs.declared.names.Place.{Place}
use Rattle.fare_law.specs.declared.rules.UnitKind.{UnitKind}
use Rattle.fare_law.specs.declared.rules.UnitKind.TheVariants.{OneWay, RoundTrip, OpenJaw, Circle}
use Rattle.fare_law.specs.Lists.{Each, EachPair, OnFirst, OnLast, LastDiffers}
use Rattle.fare_law.specs.Units.{Forward, Reverse, Follows, IsUnit, MayStand, EndsBy, MinStayHolds, MaxStayHolds, KindHolds, PartnersHold, FareHolds, UnitLawful}
use Rattle.open_unit.specs.declared.units.OpenUnit.{OpenUnit}
use Rattle.fare_rules.specs.Demands.{AtLeast, AtMost, has_kind, kinds_of}
use Rattle.open_unit.specs.OpenUnits.{DaysHold, MayOpen, opened, MayGoOn, gone_on, Makes, MayClose, PartnerHolds, partner_with, carriers_with, rules_with, unit_steps}
use Rattle.unit_labels.specs.UnitRuns.{Completes, Accepted}
use Rattle.fare_rules.proofs.DayLemmas.{later_holds, later_parts, earlier_holds, earlier_parts, stay_holds, stay_parts, most_holds, most_parts, by_holds, by_parts}
use Rattle.fare_rules.proofs.KindLemmas.{common_holds, common_parts, kind_from, kind_to}
use Rattle.residual_keys.proofs.FareFacts.{fourteen, some_kind}
use Rattle.residual_keys.proofs.Marks.{end_carrier, end_rule, end_demand, partners_before, partners_marks, marks_partners}
use Rattle.law_lemmas.proofs.Ends.{on_last}
use Rattle.open_unit.proofs.RoleLemmas.{not_not_yet}

-- each begins where the one before ended, the first at a place
abbrev ChainFrom : Place → List Piece → Type 0
ChainFrom e [] = Unit {0}
ChainFrom e (p ∷ ps) = (p.begin ≡ e) × ChainFrom p.end ps

-- with the open unit these components make a unit of this kind
abbrev ShapeFrom : OpenUnit → UnitKind → List Piece → Type 0
ShapeFrom u OneWay ps = ⊥
ShapeFrom u RoundTrip ps = (u.count ≡ 1) × (length ps ≡ 1) × OnFirst (λ p. (p.begin ≡ u.end) × (p.end ≡ u.origin)) ps
ShapeFrom u OpenJaw ps = (u.count ≡ 1) × (length ps ≡ 1) × OnFirst (λ p. ((p.begin ≡ u.end) × (p.end ≢ u.origin)) ⊎ ((p.begin ≢ u.end) × (p.end ≡ u.origin))) ps
ShapeFrom u Circle ps = (3 ≤ u.count + length ps) × (u.count + length ps ≤ 4) × ChainFrom u.end ps × OnLast (λ z. z.end ≡ u.origin) ps

record FareEnds (kind : UnitKind) (first back last : ℤ) (p : Piece) : Type 0 where
  stands : MayStand p.fare.kind kind
  days : DaysHold first p
  by : EndsBy p.rule last
  min_stay : MinStayHolds p.rule first back
  max_stay : MaxStayHolds p.rule first back
  allowed : KindHolds p.rule kind

record Ends (u : OpenUnit) (kind : UnitKind) (back last : ℤ) (ps : List Piece) : Type 0 where
  shape : ShapeFrom u kind ps
  directions : LastDiffers Forward Reverse ps
  fares : Each (FareEnds kind u.first_day back last) ps
  allowed : has_kind u.kinds kind ≡ true
  least : AtLeast u.least back
  greatest : AtMost u.greatest back
  by : AtMost u.by last
  partners : PartnerHolds (end_demand u.partner ps) (end_carrier u.carrier ps) (end_rule u.carrier u.rule ps)

-- fares of kind O and R stand in every unit of several components
stands_several : (k l : UnitKind) (f : FareKind) → l ≢ OneWay → k ≢ OneWay → MayStand f k → MayStand f l
stands_several k l O a b h = tt
stands_several k l R a b h = a
stands_several k l S a b h = absurd (b h)

-- the fare of a component that goes on, and of the last
fare_ends : (u : OpenUnit) (p : Piece) (kind : UnitKind) (back last : ℤ) → MayStand p.fare.kind kind → DaysHold u.first_day p → KindHolds p.rule kind
    → MinStayHolds p.rule u.first_day back → MaxStayHolds p.rule u.first_day back → EndsBy p.rule last → FareEnds kind u.first_day back last p
fare_ends u p kind back last a b c d e f = record { stands = a; days = b; by = f; min_stay = d; max_stay = e; allowed = c }

several : (kind : UnitKind) (u : OpenUnit) (p : Piece) → Makes u p kind → kind ≢ OneWay
several OneWay u p h e = h
several RoundTrip u p h e = cc
several OpenJaw u p h e = cc
several Circle u p h e = cc

closes_shape : (u : OpenUnit) (p : Piece) (kind : UnitKind) → Makes u p kind → ShapeFrom u kind (p ∷ [])
closes_shape u p OneWay h = h
closes_shape u p RoundTrip h = (h.0, refl, (h.1, h.2))
closes_shape u p OpenJaw h = (h.0, refl, h.1)
closes_shape u p Circle h = (grind (arith, h.0), grind (arith, h.0), (h.1, tt), h.2)

shape_closes : (u : OpenUnit) (p : Piece) (kind : UnitKind) → ShapeFrom u kind (p ∷ []) → Makes u p kind
shape_closes u p OneWay h = h
shape_closes u p RoundTrip h = (h.0, h.2.0, h.2.1)
shape_closes u p OpenJaw h = (h.0, h.2)
shape_closes u p Circle h = (grind (arith, h.0, h.1), h.2.0, h.3)

closes_ends : (u : OpenUnit) (p : Piece) (kind : UnitKind) → MayClose u p kind → Ends u kind p.first_day p.last_day (p ∷ [])
closes_ends u p kind m =
    let l = later_parts u.least _ p.first_day m.least in
    let g = earlier_parts u.greatest _ p.first_day m.greatest in
    let b = earlier_parts u.by _ p.last_day m.by in
    let k = common_parts u.kinds (kinds_of p.rule.cat10) kind m.kind_allowed in
    let s = several kind u p m.makes in
    record {
      shape = closes_shape u p kind m.makes;
      directions = m.reverse;
      fares = (
        fare_ends u p kind p.first_day p.last_day (stands_several RoundTrip kind p.fare.kind s (λ e. cc) m.stands) m.days (kind_from p.rule.cat10 kind k.1)
            (stay_parts p.rule.cat6 u.first_day p.first_day l.1) (most_parts p.rule.cat7 u.first_day p.first_day g.1) (by_parts p.rule.cat14 p.last_day b.1),
        tt,
      );
      allowed = k.0;
      least = l.0;
      greatest = g.0;
      by = b.0;
      partners = m.partners;
    }

circle_alone : (kind : UnitKind) → has_kind 8 kind ≡ true → kind ≡ Circle
circle_alone OneWay h = cc
circle_alone RoundTrip h = cc
circle_alone OpenJaw h = cc
circle_alone Circle h = refl

-- what holds from the unit with one component more holds from the unit
ends_before : (u : OpenUnit) (p q : Piece) (qs : List Piece) (back last : ℤ) → MayGoOn u p → Ends (gone_on u p) Circle back last (q ∷ qs) → Ends u Circle back last (p ∷ q ∷ qs)
ends_before u p q qs back last m e =
    let l = later_parts u.least _ back e.least in
    let g = earlier_parts u.greatest _ back e.greatest in
    let b = earlier_parts u.by _ last e.by in
    let k = common_parts u.kinds (kinds_of p.rule.cat10) Circle m.kind in
    record {
      shape = (omega (arith, e.shape.0), omega (arith, e.shape.1), (m.follows, e.shape.2), e.shape.3);
      directions = (m.forward, e.directions);
      fares = (
        fare_ends u p Circle back last m.stands m.days (kind_from p.rule.cat10 Circle k.1)
            (stay_parts p.rule.cat6 u.first_day back l.1) (most_parts p.rule.cat7 u.first_day back g.1) (by_parts p.rule.cat14 last b.1),
        e.fares,
      );
      allowed = k.0;
      least = l.0;
      greatest = g.0;
      by = b.0;
      partners = e.partners;
    }

ends_after : (u : OpenUnit) (p q : Piece) (qs : List Piece) (back last : ℤ) → Ends u Circle back last (p ∷ q ∷ qs) → Ends (gone_on u p) Circle back last (q ∷ qs)
ends_after u p q qs back last e = record {
  shape = (omega (arith, e.shape.0), omega (arith, e.shape.1), e.shape.2.1, e.shape.3);
  directions = e.directions.1;
  fares = e.fares.1;
  allowed = refl;
  least = later_holds u.least _ back e.least (stay_holds p.rule.cat6 u.first_day back e.fares.0.min_stay);
  greatest = earlier_holds u.greatest _ back e.greatest (most_holds p.rule.cat7 u.first_day back e.fares.0.max_stay);
  by = earlier_holds u.by _ last e.by (by_holds p.rule.cat14 last e.fares.0.by);
  partners = e.partners;
}

ends_go_on : (u : OpenUnit) (p q : Piece) (qs : List Piece) (back last : ℤ) → 1 ≤ u.count → Ends u Circle back last (p ∷ q ∷ qs) → MayGoOn u p
ends_go_on u p q qs back last one e = record {
  forward = e.directions.0;
  stands = e.fares.0.stands;
  count = grind (arith, e.shape.1, one);
  follows = e.shape.2.0;
  kind = common_holds u.kinds (kinds_of p.rule.cat10) Circle e.allowed (kind_to p.rule.cat10 Circle e.fares.0.allowed);
  days = e.fares.0.days;
  partners = partners_before (partner_with u p) (carriers_with u p) (rules_with u p) (q ∷ qs) (not_not_yet u.carrier p.fare.key.carrier) e.partners;
}

ends_close : (u : OpenUnit) (p : Piece) (kind : UnitKind) → Ends u kind p.first_day p.last_day (p ∷ []) → MayClose u p kind
ends_close u p kind e =
    let f = e.fares.0 in
    let m = shape_closes u p kind e.shape in
    record {
      reverse = e.directions;
      stands = stands_several kind RoundTrip p.fare.kind (λ x. cc) (several kind u p m) f.stands;
      makes = m;
      kind_allowed = common_holds u.kinds (kinds_of p.rule.cat10) kind e.allowed (kind_to p.rule.cat10 kind f.allowed);
      days = f.days;
      least = later_holds u.least _ p.first_day e.least (stay_holds p.rule.cat6 u.first_day p.first_day f.min_stay);
      greatest = earlier_holds u.greatest _ p.first_day e.greatest (most_holds p.rule.cat7 u.first_day p.first_day f.max_stay);
      by = earlier_holds u.by _ p.last_day e.by (by_holds p.rule.cat14 p.last_day f.by);
      partners = e.partners;
    }

only_circle : (u : OpenUnit) (kind : UnitKind) (p q : Piece) (qs : List Piece) → ShapeFrom u kind (p ∷ q ∷ qs) → kind ≡ Circle
only_circle u OneWay p q qs h = absurd h
only_circle u RoundTrip p q qs h = absurd (omega (arith, h.1))
only_circle u OpenJaw p q qs h = absurd (omega (arith, h.1))
only_circle u Circle p q qs h = refl

completes_ends : (u : OpenUnit) (ps : List Piece) → Completes unit_steps u ps → (kind : UnitKind) × OnLast (λ z. Ends u kind z.first_day z.last_day ps) ps
completes_ends u [] c = absurd c
completes_ends u (p ∷ []) c = (c.0, closes_ends u p c.0 c.1)
completes_ends u (p ∷ q ∷ qs) c =
    let r = completes_ends (gone_on u p) (q ∷ qs) c.1 in (
      Circle,
      on_last (λ z. Ends (gone_on u p) r.0 z.first_day z.last_day (q ∷ qs)) (λ z. Ends u Circle z.first_day z.last_day (p ∷ q ∷ qs))
          (λ z e. ends_before u p q qs z.first_day z.last_day c.0 (subst (λ k. Ends (gone_on u p) k z.first_day z.last_day (q ∷ qs)) (circle_alone r.0 e.allowed) e)) (q ∷ qs) r.1,
    )

ends_completes : (u : OpenUnit) (ps : List Piece) (kind : UnitKind) → 1 ≤ u.count → OnLast (λ z. Ends u kind z.first_day z.last_day ps) ps → Completes unit_steps u ps
ends_completes u [] kind one e = absurd e
ends_completes u (p ∷ []) kind one e = (kind, ends_close u p kind e)
ends_completes u (p ∷ q ∷ qs) kind one e =
    let circle = on_last (λ z. Ends u kind z.first_day z.last_day (p ∷ q ∷ qs)) (λ z. Ends u Circle z.first_day z.last_day (p ∷ q ∷ qs))
    (λ z h. subst (λ k. Ends u k z.first_day z.last_day (p ∷ q ∷ qs)) (only_circle u kind p q qs h.shape) h) (q ∷ qs) e in (
      at_last (q ∷ qs) (λ z. Ends u Circle z.first_day z.last_day (p ∷ q ∷ qs)) (MayGoOn u p) (λ z h. ends_go_on u p q qs z.first_day z.last_day one h) circle,
      ends_completes (gone_on u p) (q ∷ qs) Circle (omega arith)
          (on_last (λ z. Ends u Circle z.first_day z.last_day (p ∷ q ∷ qs)) (λ z. Ends (gone_on u p) Circle z.first_day z.last_day (q ∷ qs)) (λ z h. ends_after u p q qs z.first_day z.last_day h) (q ∷ qs) circle),
    )
  where
    at_last : {X : Type 0} (xs : List X) (P : X → Type 0) (Q : Type 0) → ((x : X) → P x → Q) → OnLast P xs → Q
    at_last [] P Q f h = absurd h
    at_last (x ∷ []) P Q f h = f x h
    at_last (x ∷ y ∷ ys) P Q f h = at_last (y ∷ ys) P Q f h

-- a chain, from a component or from the place where it ends
chain_pairs : (a : Piece) (ps : List Piece) → ChainFrom a.end ps → EachPair Follows (a ∷ ps)
chain_pairs a [] h = tt
chain_pairs a (p ∷ ps) h = (h.0, chain_pairs p ps h.1)

pairs_chain : (a : Piece) (ps : List Piece) → EachPair Follows (a ∷ ps) → ChainFrom a.end ps
pairs_chain a [] h = tt
pairs_chain a (p ∷ ps) h = (h.0, pairs_chain p ps h.1)

unit_shape : (a p : Piece) (ps : List Piece) (kind : UnitKind) → Forward a → LastDiffers Forward Reverse (p ∷ ps) → ShapeFrom (opened a) kind (p ∷ ps) → IsUnit kind (a ∷ p ∷ ps)
unit_shape a p ps OneWay f d h = absurd h
unit_shape a p [] RoundTrip f d h = (refl, (f, d), (h.2, tt))
unit_shape a p (q ∷ qs) RoundTrip f d h = absurd (omega (arith, h.1))
unit_shape a p [] OpenJaw f d h = (refl, (f, d), (h.2, tt))
unit_shape a p (q ∷ qs) OpenJaw f d h = absurd (omega (arith, h.1))
unit_shape a p ps Circle f d h = (omega (arith, h.0), omega (arith, h.1), (f, d), chain_pairs a (p ∷ ps) h.2, h.3)

shape_unit : (a p : Piece) (ps : List Piece) (kind : UnitKind) → IsUnit kind (a ∷ p ∷ ps) → ShapeFrom (opened a) kind (p ∷ ps) × Forward a × LastDiffers Forward Reverse (p ∷ ps)
shape_unit a p ps OneWay h = absurd (omega (arith, h.0))
shape_unit a p [] RoundTrip h = ((refl, refl, h.2.0), h.1.0, h.1.1)
shape_unit a p (q ∷ qs) RoundTrip h = absurd (omega (arith, h.0))
shape_unit a p [] OpenJaw h = ((refl, refl, h.2.0), h.1.0, h.1.1)
shape_unit a p (q ∷ qs) OpenJaw h = absurd (omega (arith, h.0))
shape_unit a p ps Circle h = ((omega (arith, h.0), omega (arith, h.1), pairs_chain a (p ∷ ps) h.3, h.4), h.2.0, h.2.1)

-- the fares of a lawful unit, without their partners
fares_from : (kind : UnitKind) (first back last : ℤ) (all ps : List Piece) → kind ≢ OneWay → Each (FareHolds kind first back last all) ps → Each (FareEnds kind first back last) ps × Each (PartnersHold all) ps
fares_from kind first back last all [] several h = (tt, tt)
fares_from kind first back last all (p ∷ ps) several h =
    let r = fares_from kind first back last all ps several h.1 in
    let f = h.0 in (
      (record { stands = f.stands; days = record { season = f.season; advance = f.advance; travel = f.travel }; by = f.by; min_stay = f.min_stay several; max_stay = f.max_stay several; allowed = f.kind_allowed }, r.0),
      (f.partners, r.1),
    )

fares_to : (kind : UnitKind) (first back last : ℤ) (all ps : List Piece) → Each (FareEnds kind first back last) ps → Each (PartnersHold all) ps → Each (FareHolds kind first back last all) ps
fares_to kind first back last all [] h k = tt
fares_to kind first back last all (p ∷ ps) h k =
    let f = h.0 in (
      record { stands = f.stands; season = f.days.season; advance = f.days.advance; travel = f.days.travel; by = f.by; min_stay = λ s. f.min_stay; max_stay = λ s. f.max_stay; kind_allowed = f.allowed; partners = k.0 },
      fares_to kind first back last all ps h.1 k.1,
    )

not_one_way : (u : OpenUnit) (ps : List Piece) (kind : UnitKind) → ShapeFrom u kind ps → kind ≢ OneWay
not_one_way u ps OneWay h e = h
not_one_way u ps RoundTrip h e = cc
not_one_way u ps OpenJaw h e = cc
not_one_way u ps Circle h e = cc

several_kind : (a p : Piece) (ps : List Piece) (kind : UnitKind) → IsUnit kind (a ∷ p ∷ ps) → kind ≢ OneWay
several_kind a p ps kind h = not_one_way (opened a) (p ∷ ps) kind (shape_unit a p ps kind h).0

-- the first fare of an accepted unit
first_fare : (a : Piece) (ps : List Piece) (kind : UnitKind) (back last : ℤ) → MayOpen a → Ends (opened a) kind back last ps → FareEnds kind a.first_day back last a
first_fare a ps kind back last m e =
    let s = not_one_way (opened a) ps kind e.shape in
    record {
      stands = stands_several RoundTrip kind a.fare.kind s (λ x. cc) m.stands;
      days = m.days;
      by = by_parts a.rule.cat14 last e.by;
      min_stay = stay_parts a.rule.cat6 a.first_day back e.least;
      max_stay = most_parts a.rule.cat7 a.first_day back e.greatest;
      allowed = kind_from a.rule.cat10 kind (common_parts (kinds_of a.rule.cat10) 14 kind e.allowed).0;
    }

-- Accepted units are lawful.
pub accepted_lawful : (ps : List Piece) → Accepted unit_steps ps → UnitLawful ps
accepted_lawful [] a = absurd a
accepted_lawful (p ∷ []) a = (
  OneWay,
  (refl, a.forward),
  (
    record {
      stands = a.stands;
      season = a.days.season;
      advance = a.days.advance;
      travel = a.days.travel;
      by = by_parts p.rule.cat14 p.last_day a.by;
      min_stay = λ s. absurd (s refl);
      max_stay = λ s. absurd (s refl);
      kind_allowed = kind_from p.rule.cat10 OneWay a.kind;
      partners = (marks_partners p [] (λ x. (p.fare.key.carrier, refl), λ x. (p.fare.rule, refl))).0;
    },
    tt,
  ),
)
accepted_lawful (p ∷ q ∷ qs) a =
    let r = completes_ends (opened p) (q ∷ qs) a.1 in (
      r.0,
      whole (q ∷ qs) (λ z. Ends (opened p) r.0 z.first_day z.last_day (q ∷ qs)) (λ z e. unit_shape p q qs r.0 a.0.forward e.directions e.shape) r.1,
      on_last (λ z. Ends (opened p) r.0 z.first_day z.last_day (q ∷ qs)) (λ z. Each (FareHolds r.0 p.first_day z.first_day z.last_day (p ∷ q ∷ qs)) (p ∷ q ∷ qs))
          (λ z e. fares_to r.0 p.first_day z.first_day z.last_day (p ∷ q ∷ qs) (p ∷ q ∷ qs) (first_fare p (q ∷ qs) r.0 z.first_day z.last_day a.0 e, e.fares) (marks_partners p (q ∷ qs) e.partners))
          (q ∷ qs) r.1,
    )
  where
    whole : {X Q : Type 0} (xs : List X) (P : X → Type 0) → ((x : X) → P x → Q) → OnLast P xs → Q
    whole [] P f h = absurd h
    whole (x ∷ []) P f h = f x h
    whole (x ∷ y ∷ ys) P f h = whole (y ∷ ys) P f h

-- Lawful units are accepted.
pub lawful_accepted : (ps : List Piece) → UnitLawful ps → Accepted unit_steps ps
lawful_accepted [] (kind, shape, fares) = absurd fares
lawful_accepted (p ∷ []) (OneWay, shape, fares) =
    let f = fares.0 in
    record {
      forward = shape.1;
      stands = f.stands;
      kind = kind_to p.rule.cat10 OneWay f.kind_allowed;
      days = record { season = f.season; advance = f.advance; travel = f.travel };
      by = by_holds p.rule.cat14 p.last_day f.by;
    }
lawful_accepted (p ∷ []) (RoundTrip, shape, fares) = absurd (omega (arith, shape.0))
lawful_accepted (p ∷ []) (OpenJaw, shape, fares) = absurd (omega (arith, shape.0))
lawful_accepted (p ∷ []) (Circle, shape, fares) = absurd (omega (arith, shape.0))
lawful_accepted (p ∷ q ∷ qs) (kind, shape, fares) =
    let s = shape_unit p q qs kind shape in
    let many = not_one_way (opened p) (q ∷ qs) kind s.0 in
    let all = on_last (λ z. Each (FareHolds kind p.first_day z.first_day z.last_day (p ∷ q ∷ qs)) (p ∷ q ∷ qs)) (λ z. FareEnds kind p.first_day z.first_day z.last_day p × Ends (opened p) kind z.first_day z.last_day (q ∷ qs))
    (λ z h. let r = fares_from kind p.first_day z.first_day z.last_day (p ∷ q ∷ qs) (p ∷ q ∷ qs) many h in (
      r.0.0,
      record {
        shape = s.0;
        directions = s.2;
        fares = r.0.1;
        allowed = common_holds (kinds_of p.rule.cat10) 14 kind (kind_to p.rule.cat10 kind r.0.0.allowed) (fourteen kind many);
        least = stay_holds p.rule.cat6 p.first_day z.first_day r.0.0.min_stay;
        greatest = most_holds p.rule.cat7 p.first_day z.first_day r.0.0.max_stay;
        by = by_holds p.rule.cat14 z.last_day r.0.0.by;
        partners = partners_marks p (q ∷ qs) r.1;
      },
    ))
    (q ∷ qs) fares in (
      whole (q ∷ qs) (λ z. FareEnds kind p.first_day z.first_day z.last_day p × Ends (opened p) kind z.first_day z.last_day (q ∷ qs)) (λ z h. record {
        forward = s.1;
        stands = stands_several kind RoundTrip p.fare.kind (λ x. cc) many h.0.stands;
        kind = some_kind (bit_and (kinds_of p.rule.cat10) 14) kind h.1.allowed;
        days = h.0.days;
      }) all,
      ends_completes (opened p) (q ∷ qs) kind (omega arith)
          (on_last (λ z. FareEnds kind p.first_day z.first_day z.last_day p × Ends (opened p) kind z.first_day z.last_day (q ∷ qs)) (λ z. Ends (opened p) kind z.first_day z.last_day (q ∷ qs)) (λ z h. h.1) (q ∷ qs) all),
    )
  where
    whole : {X Q : Type 0} (xs : List X) (P : X → Type 0) → ((x : X) → P x → Q) → OnLast P xs → Q
    whole [] P f h = absurd h
    whole (x ∷ []) P f h = f x h
    whole (x ∷ y ∷ ys) P f h = whole (y ∷ ys) P f h
