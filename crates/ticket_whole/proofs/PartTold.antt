-- What a part meets in its unit, told from stretches.
use Rattle.std.proofs.Common.{◌≡◌, ◌≢◌, ◌↔◌, ◌==◌, zero, suc, ℕ, ℤ, List, [], ◌∷◌, Option, Some, None, IfSome, MatchOption, option_map, option_and_then, filter, map, refl, sym, subst, arith}
use Rattle.std.specs.List.{All}
use Rattle.std.proofs.lemmas.List.Elements.{All-nil, All-cons}
use Rattle.fare_law.specs.declared.flights.Flight.{Flight}
use Rattle.fare_law.specs.declared.rules.CombineRule.{CombineRule}
use Rattle.fare_law.specs.declared.rules.Partners.{Partners}
use Rattle.fare_law.specs.declared.rules.Partners.TheVariants.{Any, SameCarrier, SameRule}
use Rattle.fare_law.specs.declared.rules.UnitKind.{UnitKind}
use Rattle.fare_law.specs.declared.rules.UnitKind.TheVariants.{OneWay}
use Rattle.fare_law.specs.declared.sheets.SheetRow.{SheetRow}
use Rattle.fare_law.specs.declared.tickets.Component.{Component}
use Rattle.fare_law.specs.declared.tickets.Piece.{Piece}
use Rattle.fare_law.specs.Book.{Book}
use Rattle.fare_law.specs.Lawful.{unit_of}
use Rattle.fare_law.specs.Parts.{Part}
use Rattle.fare_law.specs.Lists.{Each, OnFirst, OnLast}
use Rattle.fare_law.specs.Units.{SameAs, MayStand, SeasonHolds, AdvanceHolds, TravelHolds, EndsBy, MinStayHolds, MaxStayHolds, KindHolds, PartnersHold}
use Rattle.ticket_whole.specs.declared.demand.UnitDemand.{UnitDemand}
use Rattle.ticket_whole.specs.declared.demand.UnitDemand.TheVariants.{Shape, FareKind, FirstDay, TravelDates, Stay, Combination}
use Rattle.ticket_whole.specs.declared.stretch.Stretch.{Stretch}
use Rattle.ticket_whole.specs.declared.units.UnitFacts.{UnitFacts}
use Rattle.ticket_whole.specs.Breaches.{InUnit, PartMeets}
use Rattle.ticket_whole.specs.Known.{known_flights, ends_of, live_row, part_of, part_over}
use Rattle.ticket_whole.specs.Stretches.{stretch_of, facts_from, facts_of, kind_of_one, kind_of_two, kind_of_three, kind_of_four, IsPartner, FactsMeet, StretchesMeet}
use Rattle.ticket_whole.proofs.KnownGathering.{filter_mapped}
use Rattle.ticket_whole.proofs.KindTable.{AreFacts, FactsTold, facts_told}
use Rattle.ticket_whole.proofs.OneKind.{kind_once}

first_from : (P : ℤ → Type 0) (o : Option UnitKind) (a z : Stretch) (f : UnitFacts) → facts_from o a z ≡ Some f → P a.first_day → P f.first_day
first_from P None a z f e p = absurd (cc)
first_from P (Some k) a z f e p = subst P (days e) p
  where
    days : facts_from (Some k) a z ≡ Some f → a.first_day ≡ f.first_day
    days e = cc

pub facts_first : (P : ℤ → Type 0) (ss : List Stretch) (f : UnitFacts) → facts_of ss ≡ Some f → Each (λ s. P s.first_day) ss → P f.first_day
facts_first P [] f e h = absurd (cc)
facts_first P (a ∷ []) f e h = first_from P (kind_of_one a) a a f e h.0
facts_first P (a ∷ b ∷ []) f e h = first_from P (kind_of_two a b) a b f e h.0
facts_first P (a ∷ b ∷ c ∷ []) f e h = first_from P (kind_of_three a b c) a c f e h.0
facts_first P (a ∷ b ∷ c ∷ d ∷ []) f e h = first_from P (kind_of_four a b c d) a d f e h.0
facts_first P (a ∷ b ∷ c ∷ d ∷ x ∷ ss) f e h = absurd (cc)

abbrev final : Piece → List Piece → Piece
final x [] = x
final x (y ∷ xs) = final y xs

on_final : (P : Piece → Type 0) (x : Piece) (xs : List Piece) → OnLast P (x ∷ xs) → P (final x xs)
on_final P x [] h = h
on_final P x (y ∷ xs) h = on_final P y xs h

final_on : (P : Piece → Type 0) (x : Piece) (xs : List Piece) → P (final x xs) → OnLast P (x ∷ xs)
final_on P x [] h = h
final_on P x (y ∷ xs) h = final_on P y xs h

three : (Q : ℤ → ℤ → ℤ → Type 0) (a b c x y z : ℤ) → a ≡ x → b ≡ y → c ≡ z → Q a b c → Q x y z
three Q a b c x y z e f g h = subst (λ w. Q x y w) g (subst (λ w. Q x w c) f (subst (λ w. Q w b c) e h))

to_ends : (Q : ℤ → ℤ → ℤ → Type 0) (f b l : ℤ) (ps : List Piece) → OnFirst (λ a. OnLast (λ z. (f ≡ a.first_day) × (b ≡ z.first_day) × (l ≡ z.last_day)) ps) ps → Q f b l → OnFirst (λ a. OnLast (λ z. Q a.first_day z.first_day z.last_day) ps) ps
to_ends Q f b l [] d h = absurd d
to_ends Q f b l (x ∷ ps) d h =
    let e = on_final (λ z. (f ≡ x.first_day) × (b ≡ z.first_day) × (l ≡ z.last_day)) x ps d in
    final_on (λ z. Q x.first_day z.first_day z.last_day) x ps (three Q f b l x.first_day (final x ps).first_day (final x ps).last_day e.0 e.1 e.2 h)

from_ends : (Q : ℤ → ℤ → ℤ → Type 0) (f b l : ℤ) (ps : List Piece) → OnFirst (λ a. OnLast (λ z. (f ≡ a.first_day) × (b ≡ z.first_day) × (l ≡ z.last_day)) ps) ps → OnFirst (λ a. OnLast (λ z. Q a.first_day z.first_day z.last_day) ps) ps → Q f b l
from_ends Q f b l [] d h = absurd d
from_ends Q f b l (x ∷ ps) d h =
    let e = on_final (λ z. (f ≡ x.first_day) × (b ≡ z.first_day) × (l ≡ z.last_day)) x ps d in
    three Q x.first_day (final x ps).first_day (final x ps).last_day f b l (sym e.0) (sym e.1) (sym e.2) (on_final (λ z. Q x.first_day z.first_day z.last_day) x ps h)

-- in a unit of this kind and these days, what holds of its kind and days holds of these
pub in_unit : (parts : List Part) (part : Part) (f : UnitFacts) (P : UnitKind → ℤ → ℤ → ℤ → Type 0) → AreFacts (unit_of part.unit parts) f → P f.kind f.first_day f.return_day f.last_day ↔ InUnit parts part P
in_unit parts part f P t = (
  λ h k u. to_ends (P k) f.first_day f.return_day f.last_day (unit_of part.unit parts) t.days (subst (λ x. P x f.first_day f.return_day f.last_day) (kind_once f.kind k (unit_of part.unit parts) t.kind u) h),
  λ h. from_ends (P f.kind) f.first_day f.return_day f.last_day (unit_of part.unit parts) t.days (h f.kind t.kind),
)

abbrev pub row_of : Part → SheetRow
row_of part = record { fare = part.piece.fare; rule = part.piece.rule }

partner_same : (p : Partners) (part other : Part) → IsPartner p (row_of part) (stretch_of other) ↔ SameAs p part.piece other.piece
partner_same Any part other = (λ h. h, λ h. h)
partner_same SameCarrier part other = (λ h. h, λ h. h)
partner_same SameRule part other = (λ h. h, λ h. h)

partners_to : (p : Partners) (part : Part) (us : List Part) → All (IsPartner p (row_of part)) (map stretch_of us) → Each (SameAs p part.piece) (map (λ u. u.piece) us)
partners_to p part [] h = tt
partners_to p part (u ∷ us) h = ((partner_same p part u).0 (h zero (stretch_of u) (omega arith)), partners_to p part us (λ k d lt. h (suc k) d (omega (arith, lt))))

partners_from : (p : Partners) (part : Part) (us : List Part) → Each (SameAs p part.piece) (map (λ u. u.piece) us) → All (IsPartner p (row_of part)) (map stretch_of us)
partners_from p part [] h = All-nil (IsPartner p (row_of part))
partners_from p part (u ∷ us) h = All-cons (IsPartner p (row_of part)) (stretch_of u) (map stretch_of us) ((partner_same p part u).1 h.0) (partners_from p part us h.1)

combined : (o : Option CombineRule) (part : Part) (us : List Part) → IfSome o (λ c. All (IsPartner c.partners (row_of part)) (map stretch_of us)) ↔ IfSome o (λ c. Each (SameAs c.partners part.piece) (map (λ u. u.piece) us))
combined None part us = (λ h. h, λ h. h)
combined (Some c) part us = (partners_to c.partners part us, partners_from c.partners part us)

-- each demand on a part in its unit, from the kind and the days of the unit's stretches
told_by : (parts : List Part) (part : Part) (d : UnitDemand) (o : Option UnitFacts) → FactsTold o (unit_of part.unit parts)
    → MatchOption o (d ≢ Shape) (λ f. FactsMeet part.piece.sale (row_of part) (map stretch_of (filter (λ p. p.unit == part.unit) parts)) f d) ↔ PartMeets parts d part
told_by parts part Shape None t = (λ h. absurd (h refl), λ h. absurd (t h.0 h.1))
told_by parts part FareKind None t = (λ _ k u. absurd (t k u), λ _ e. absurd (cc))
told_by parts part FirstDay None t = (λ _ k u. absurd (t k u), λ _ e. absurd (cc))
told_by parts part TravelDates None t = (λ _ k u. absurd (t k u), λ _ e. absurd (cc))
told_by parts part Stay None t = (λ _ k u. absurd (t k u), λ _ e. absurd (cc))
told_by parts part Combination None t = (λ _ k u. absurd (t k u), λ _ e. absurd (cc))
told_by parts part Shape (Some f) t = (λ _. (f.kind, t.kind), λ _. tt)
told_by parts part FareKind (Some f) t = in_unit parts part f (λ kind first back last. MayStand part.piece.fare.kind kind) t
told_by parts part FirstDay (Some f) t = in_unit parts part f (λ kind first back last. SeasonHolds part.piece.rule first × AdvanceHolds part.piece.rule part.piece.sale first) t
told_by parts part TravelDates (Some f) t = in_unit parts part f (λ kind first back last. TravelHolds part.piece.rule first × EndsBy part.piece.rule last) t
told_by parts part Stay (Some f) t = in_unit parts part f (λ kind first back last. kind ≢ OneWay → MinStayHolds part.piece.rule first back × MaxStayHolds part.piece.rule first back) t
told_by parts part Combination (Some f) t =
    let unit = in_unit parts part f (λ kind first back last. KindHolds part.piece.rule kind × PartnersHold (unit_of part.unit parts) part.piece) t in
    let same = combined part.piece.rule.cat10 part (filter (λ p. p.unit == part.unit) parts) in
    (λ h. unit.0 (h.0, same.0 h.1), λ h. let k = unit.1 h in (k.0, same.1 k.1))

-- the kind and the days of the unit of a label, from the stretches of the ticket
pub unit_told : (parts : List Part) (label : ℕ) → FactsTold (facts_of (filter (λ s. s.unit == label) (map stretch_of parts))) (unit_of label parts)
unit_told parts label =
    subst (λ (ss : List Stretch). FactsTold (facts_of ss) (unit_of label parts)) (sym (filter_mapped stretch_of (λ (s : Stretch). s.unit == label) parts)) (facts_told (filter (λ p. p.unit == label) parts))

-- a part meets a demand in its unit exactly where the stretches of the ticket say so
pub part_told : (parts : List Part) (part : Part) (d : UnitDemand) → StretchesMeet part.piece.sale (row_of part) (filter (λ s. s.unit == part.unit) (map stretch_of parts)) d ↔ PartMeets parts d part
part_told parts part d =
    subst (λ (ss : List Stretch). StretchesMeet part.piece.sale (row_of part) ss d ↔ PartMeets parts d part) (sym (filter_mapped stretch_of (λ (s : Stretch). s.unit == part.unit) parts))
    (told_by parts part d _ (facts_told (filter (λ p. p.unit == part.unit) parts)))

-- what stretches say of a row is what holds of the part that a component is, where they agree on each part
pub on_part : (sale : ℤ) (label : ℕ) (fs : List Flight) (row : Option SheetRow) (ends : Option (Flight × Flight)) (Says Holds : Part → Type 0) → ((part : Part) → part.unit ≡ label → part.piece.sale ≡ sale → Says part ↔ Holds part)
    → IfSome (option_and_then (λ r. option_map (part_over sale label r fs) ends) row) Says ↔ IfSome (option_and_then (λ r. option_map (part_over sale label r fs) ends) row) Holds
on_part sale label fs None ends Says Holds same = (λ h. h, λ h. h)
on_part sale label fs (Some r) None Says Holds same = (λ h. h, λ h. h)
on_part sale label fs (Some r) (Some e) Says Holds same = same (part_over sale label r fs e) refl refl

-- a component meets a demand in its unit exactly where the stretches of the ticket say so
pub component_told : (b : Book) (sale : ℤ) (c : Component) (parts : List Part) (d : UnitDemand)
    → IfSome (part_of b sale c) (λ part. StretchesMeet sale (row_of part) (filter (λ s. s.unit == c.unit) (map stretch_of parts)) d) ↔ IfSome (part_of b sale c) (PartMeets parts d)
component_told b sale c parts d =
    on_part sale c.unit (known_flights b c.flights) (live_row b c.fare) (ends_of (known_flights b c.flights)) (λ part. StretchesMeet sale (row_of part) (filter (λ s. s.unit == c.unit) (map stretch_of parts)) d) (PartMeets parts d)
    (λ part u e. subst (λ label. StretchesMeet sale (row_of part) (filter (λ (s : Stretch). s.unit == label) (map stretch_of parts)) d ↔ PartMeets parts d part) u
    (subst (λ z. StretchesMeet z (row_of part) (filter (λ (s : Stretch). s.unit == part.unit) (map stretch_of parts)) d ↔ PartMeets parts d part) e (part_told parts part d)))
