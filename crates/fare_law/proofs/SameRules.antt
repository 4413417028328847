-- Tests of rules tell whether they are equal. Given on to the crates above.
use Rattle.std.proofs.Common.{◌≡◌, Decides, refl, ap}
use Rattle.std.specs.Cmp.Lexicographic.{pointwise_decides, bytes_decides}
use Rattle.std.proofs.lemmas.Bool.Decides.{Decides-like, Decides-and, Decides-eqb, Decides-int_eq}
use Rattle.fare_law.specs.contracts.rules.CombineRulePartialEq.TheImpl as combine
use Rattle.fare_law.specs.contracts.rules.DayRangePartialEq.TheImpl as days
use Rattle.fare_law.specs.contracts.rules.DayTimePartialEq.TheImpl as times
use Rattle.fare_law.specs.contracts.rules.EndOnEndPartialEq.TheImpl as ends
use Rattle.fare_law.specs.contracts.rules.FlightRangePartialEq.TheImpl as numbers
use Rattle.fare_law.specs.contracts.rules.FlightRulePartialEq.TheImpl as named
use Rattle.fare_law.specs.contracts.rules.MinStayPartialEq.TheImpl as stay
use Rattle.fare_law.specs.contracts.rules.PartnersPartialEq.TheImpl as partners
use Rattle.fare_law.specs.contracts.rules.RulePartialEq.TheImpl as rule
use Rattle.fare_law.specs.contracts.rules.StopRulePartialEq.TheImpl as stops
use Rattle.fare_law.specs.contracts.rules.SurchargePartialEq.TheImpl as surcharge
use Rattle.fare_law.specs.contracts.rules.TransferRulePartialEq.TheImpl as transfers
use Rattle.fare_law.specs.contracts.rules.TravelRulePartialEq.TheImpl as travel
use Rattle.fare_law.specs.contracts.rules.UnitKindPartialEq.TheImpl as kind
use Rattle.fare_law.specs.declared.rules.CombineRule.{CombineRule}
use Rattle.fare_law.specs.declared.rules.DayRange.{DayRange}
use Rattle.fare_law.specs.declared.rules.DayTime.{DayTime}
use Rattle.fare_law.specs.declared.rules.EndOnEnd.{EndOnEnd}
use Rattle.fare_law.specs.declared.rules.EndOnEnd.TheVariants.{Free, SameCarrier as AllSame, Never}
use Rattle.fare_law.specs.declared.rules.FlightRange.{FlightRange}
use Rattle.fare_law.specs.declared.rules.FlightRule.{FlightRule}
use Rattle.fare_law.specs.declared.rules.MinStay.{MinStay}
use Rattle.fare_law.specs.declared.rules.Partners.{Partners}
use Rattle.fare_law.specs.declared.rules.Partners.TheVariants.{Any, SameCarrier, SameRule}
use Rattle.fare_law.specs.declared.rules.Rule.{Rule}
use Rattle.fare_law.specs.declared.rules.StopRule.{StopRule}
use Rattle.fare_law.specs.declared.rules.Surcharge.{Surcharge}
use Rattle.fare_law.specs.declared.rules.TransferRule.{TransferRule}
use Rattle.fare_law.specs.declared.rules.TravelRule.{TravelRule}
use Rattle.fare_law.specs.declared.rules.UnitKind.{UnitKind}
use Rattle.fare_law.specs.declared.rules.UnitKind.TheVariants.{OneWay, RoundTrip, OpenJaw, Circle}
use Rattle.fare_law.proofs.SameNames.{carriers_tell, places_tell}
use Rattle.fare_law.proofs.SameValues.{bools_tell, options_tell}

times_tell : (a b : DayTime) → Decides (times.ghosts.eq a b) (a ≡ b)
times_tell a b =
    Decides-like _ (λ e. whole e.0 e.1.0 e.1.1) (λ e. (ap (λ x. x.days) e, (ap (λ x. x.from) e, ap (λ x. x.to) e)))
    (Decides-and _ _ (bytes_decides a.days b.days) (Decides-and _ _ (Decides-eqb a.from b.from) (Decides-eqb a.to b.to)))
  where
    whole : a.days ≡ b.days → a.from ≡ b.from → a.to ≡ b.to → a ≡ b
    whole d f t = λ i. record { days = d i; from = f i; to = t i }

days_tell : (a b : DayRange) → Decides (days.ghosts.eq a b) (a ≡ b)
days_tell a b =
    Decides-like _ (λ e. whole e.0 e.1) (λ e. (ap (λ x. x.first) e, ap (λ x. x.last) e)) (Decides-and _ _ (Decides-int_eq a.first b.first) (Decides-int_eq a.last b.last))
  where
    whole : a.first ≡ b.first → a.last ≡ b.last → a ≡ b
    whole f l = λ i. record { first = f i; last = l i }

numbers_tell : (a b : FlightRange) → Decides (numbers.ghosts.eq a b) (a ≡ b)
numbers_tell a b =
    Decides-like _ (λ e. whole e.0 e.1.0 e.1.1) (λ e. (ap (λ x. x.carrier) e, (ap (λ x. x.low) e, ap (λ x. x.high) e)))
    (Decides-and _ _ (carriers_tell a.carrier b.carrier) (Decides-and _ _ (Decides-eqb a.low b.low) (Decides-eqb a.high b.high)))
  where
    whole : a.carrier ≡ b.carrier → a.low ≡ b.low → a.high ≡ b.high → a ≡ b
    whole c l h = λ i. record { carrier = c i; low = l i; high = h i }

named_tell : (a b : FlightRule) → Decides (named.ghosts.eq a b) (a ≡ b)
named_tell a b =
    Decides-like _ (λ e. whole e.0 e.1) (λ e. (ap (λ x. x.allow) e, ap (λ x. x.flights) e)) (Decides-and _ _ (bools_tell a.allow b.allow) (pointwise_decides numbers_tell a.flights b.flights))
  where
    whole : a.allow ≡ b.allow → a.flights ≡ b.flights → a ≡ b
    whole w f = λ i. record { allow = w i; flights = f i }

stay_tells : (a b : MinStay) → Decides (stay.ghosts.eq a b) (a ≡ b)
stay_tells a b =
    Decides-like _ (λ e. whole e.0 e.1) (λ e. (ap (λ x. x.days) e, ap (λ x. x.sunday) e)) (Decides-and _ _ (Decides-eqb a.days b.days) (bools_tell a.sunday b.sunday))
  where
    whole : a.days ≡ b.days → a.sunday ≡ b.sunday → a ≡ b
    whole d s = λ i. record { days = d i; sunday = s i }

stops_tell : (a b : StopRule) → Decides (stops.ghosts.eq a b) (a ≡ b)
stops_tell a b =
    Decides-like _ (λ e. whole e.0 e.1.0 e.1.1) (λ e. (ap (λ x. x.max) e, (ap (λ x. x.charge) e, ap (λ x. x.places) e)))
    (Decides-and _ _ (Decides-eqb a.max b.max) (Decides-and _ _ (Decides-eqb a.charge b.charge) (options_tell (pointwise_decides places_tell) a.places b.places)))
  where
    whole : a.max ≡ b.max → a.charge ≡ b.charge → a.places ≡ b.places → a ≡ b
    whole m c p = λ i. record { max = m i; charge = c i; places = p i }

transfers_tell : (a b : TransferRule) → Decides (transfers.ghosts.eq a b) (a ≡ b)
transfers_tell a b =
    Decides-like _ (λ e. whole e.0 e.1) (λ e. (ap (λ x. x.max) e, ap (λ x. x.online) e)) (Decides-and _ _ (Decides-eqb a.max b.max) (bools_tell a.online b.online))
  where
    whole : a.max ≡ b.max → a.online ≡ b.online → a ≡ b
    whole m o = λ i. record { max = m i; online = o i }

kinds_tell : (a b : UnitKind) → Decides (kind.ghosts.eq a b) (a ≡ b)
kinds_tell OneWay OneWay = (λ _. refl, λ _. refl)
kinds_tell RoundTrip RoundTrip = (λ _. refl, λ _. refl)
kinds_tell OpenJaw OpenJaw = (λ _. refl, λ _. refl)
kinds_tell Circle Circle = (λ _. refl, λ _. refl)
kinds_tell a b = (λ h. absurd (cc h), λ h. absurd (cc h))

partners_tell : (a b : Partners) → Decides (partners.ghosts.eq a b) (a ≡ b)
partners_tell Any Any = (λ _. refl, λ _. refl)
partners_tell SameCarrier SameCarrier = (λ _. refl, λ _. refl)
partners_tell SameRule SameRule = (λ _. refl, λ _. refl)
partners_tell a b = (λ h. absurd (cc h), λ h. absurd (cc h))

ends_tell : (a b : EndOnEnd) → Decides (ends.ghosts.eq a b) (a ≡ b)
ends_tell Free Free = (λ _. refl, λ _. refl)
ends_tell AllSame AllSame = (λ _. refl, λ _. refl)
ends_tell Never Never = (λ _. refl, λ _. refl)
ends_tell a b = (λ h. absurd (cc h), λ h. absurd (cc h))

combine_tells : (a b : CombineRule) → Decides (combine.ghosts.eq a b) (a ≡ b)
combine_tells a b =
    Decides-like _ (λ e. whole e.0 e.1.0 e.1.1) (λ e. (ap (λ x. x.kinds) e, (ap (λ x. x.partners) e, ap (λ x. x.end_on_end) e)))
    (Decides-and _ _ (pointwise_decides kinds_tell a.kinds b.kinds) (Decides-and _ _ (partners_tell a.partners b.partners) (ends_tell a.end_on_end b.end_on_end)))
  where
    whole : a.kinds ≡ b.kinds → a.partners ≡ b.partners → a.end_on_end ≡ b.end_on_end → a ≡ b
    whole k p e = λ i. record { kinds = k i; partners = p i; end_on_end = e i }

surcharges_tell : (a b : Surcharge) → Decides (surcharge.ghosts.eq a b) (a ≡ b)
surcharges_tell a b =
    Decides-like _ (λ e. whole e.0 e.1.0 e.1.1.0 e.1.1.1.0 e.1.1.1.1.0 e.1.1.1.1.1)
    (λ e. (ap (λ x. x.carrier) e, (ap (λ x. x.low) e, (ap (λ x. x.high) e, (ap (λ x. x.first) e, (ap (λ x. x.last) e, ap (λ x. x.amount) e))))))
    (Decides-and _ _ (carriers_tell a.carrier b.carrier) (Decides-and _ _ (Decides-eqb a.low b.low) (Decides-and _ _ (Decides-eqb a.high b.high)
    (Decides-and _ _ (Decides-int_eq a.first b.first) (Decides-and _ _ (Decides-int_eq a.last b.last) (Decides-eqb a.amount b.amount))))))
  where
    whole : a.carrier ≡ b.carrier → a.low ≡ b.low → a.high ≡ b.high → a.first ≡ b.first → a.last ≡ b.last → a.amount ≡ b.amount → a ≡ b
    whole c l h f t n = λ i. record { carrier = c i; low = l i; high = h i; first = f i; last = t i; amount = n i }

travel_tells : (a b : TravelRule) → Decides (travel.ghosts.eq a b) (a ≡ b)
travel_tells a b =
    Decides-like _ (λ e. whole e.0 e.1) (λ e. (ap (λ x. x.ranges) e, ap (λ x. x.by) e))
    (Decides-and _ _ (options_tell (pointwise_decides days_tell) a.ranges b.ranges) (options_tell Decides-int_eq a.by b.by))
  where
    whole : a.ranges ≡ b.ranges → a.by ≡ b.by → a ≡ b
    whole r d = λ i. record { ranges = r i; by = d i }

pub rules_tell : (a b : Rule) → Decides (rule.ghosts.eq a b) (a ≡ b)
rules_tell a b =
    Decides-like _ (λ e. whole e.0 e.1.0 e.1.1.0 e.1.1.1.0 e.1.1.1.1.0 e.1.1.1.1.1.0 e.1.1.1.1.1.1.0 e.1.1.1.1.1.1.1.0 e.1.1.1.1.1.1.1.1.0 e.1.1.1.1.1.1.1.1.1.0 e.1.1.1.1.1.1.1.1.1.1)
    (λ e. (ap (λ x. x.cat2) e, (ap (λ x. x.cat3) e, (ap (λ x. x.cat4) e, (ap (λ x. x.cat5) e, (ap (λ x. x.cat6) e, (ap (λ x. x.cat7) e, (ap (λ x. x.cat8) e, (ap (λ x. x.cat9) e, (ap (λ x. x.cat10) e, (ap (λ x. x.cat12) e, ap (λ x. x.cat14) e)))))))))))
    (Decides-and _ _ (options_tell times_tell a.cat2 b.cat2) (Decides-and _ _ (options_tell (pointwise_decides days_tell) a.cat3 b.cat3) (Decides-and _ _ (options_tell named_tell a.cat4 b.cat4)
    (Decides-and _ _ (options_tell Decides-eqb a.cat5 b.cat5) (Decides-and _ _ (options_tell stay_tells a.cat6 b.cat6) (Decides-and _ _ (options_tell Decides-eqb a.cat7 b.cat7)
    (Decides-and _ _ (options_tell stops_tell a.cat8 b.cat8) (Decides-and _ _ (options_tell transfers_tell a.cat9 b.cat9) (Decides-and _ _ (options_tell combine_tells a.cat10 b.cat10)
    (Decides-and _ _ (options_tell (pointwise_decides surcharges_tell) a.cat12 b.cat12) (options_tell travel_tells a.cat14 b.cat14)))))))))))
  where
    whole : a.cat2 ≡ b.cat2 → a.cat3 ≡ b.cat3 → a.cat4 ≡ b.cat4 → a.cat5 ≡ b.cat5 → a.cat6 ≡ b.cat6 → a.cat7 ≡ b.cat7 → a.cat8 ≡ b.cat8 → a.cat9 ≡ b.cat9 → a.cat10 ≡ b.cat10 → a.cat12 ≡ b.cat12 → a.cat14 ≡ b.cat14 → a ≡ b
    whole c d e f g h j k l m n = λ i. record { cat2 = c i; cat3 = d i; cat4 = e i; cat5 = f i; cat6 = g i; cat7 = h i; cat8 = j i; cat9 = k i; cat10 = l i; cat12 = m i; cat14 = n i }
