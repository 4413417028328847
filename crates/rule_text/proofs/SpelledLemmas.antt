-- What is written for a rule within its limits is read again as that rule. Given on to the crates above.
use Rattle.std.proofs.Common.{◌≡◌, ◌+◌, ℕ, ℤ, List, [], ◌∷◌, Option, Some, None, Result, refl, arith}
use Rattle.std.specs.Option.{IfSome}
use Rattle.serde_json.specs.Data.{Data, Items, Members, no_items, item, object}
use Rattle.fare_law.specs.Days.{IsCalendarDay}
use Rattle.fare_law.specs.Limits.{IsPlace}
use Rattle.fare_law.specs.Lists.{Each}
use Rattle.fare_law.specs.RuleLimits.{IsAnyKind, IsCombineRule, IsDayRange, IsDayTime, IsDays, IsFlightRange, IsFlightRule, IsListOf, IsMinStay, IsRule, IsStopRule, IsSurcharge, IsTransferRule, IsTravelRule, IsWeekday}
use Rattle.fare_law.specs.declared.rules.CombineRule.{CombineRule}
use Rattle.fare_law.specs.declared.rules.DayRange.{DayRange}
use Rattle.fare_law.specs.declared.rules.DayTime.{DayTime}
use Rattle.fare_law.specs.declared.rules.EndOnEnd.{EndOnEnd}
use Rattle.fare_law.specs.declared.rules.EndOnEnd.TheVariants.{Free, SameCarrier as OneCarrier, Never}
use Rattle.fare_law.specs.declared.rules.FlightRule.{FlightRule}
use Rattle.fare_law.specs.declared.rules.Partners.{Partners}
use Rattle.fare_law.specs.declared.rules.Partners.TheVariants.{Any, SameCarrier, SameRule}
use Rattle.fare_law.specs.declared.rules.Rule.{Rule}
use Rattle.fare_law.specs.declared.rules.StopRule.{StopRule}
use Rattle.fare_law.specs.declared.rules.Surcharge.{Surcharge}
use Rattle.fare_law.specs.declared.rules.TravelRule.{TravelRule}
use Rattle.fare_law.specs.declared.rules.UnitKind.{UnitKind}
use Rattle.fare_law.specs.declared.rules.UnitKind.TheVariants.{OneWay, RoundTrip, OpenJaw, Circle}
use Rattle.rule_text.specs.declared.fault.RuleFault.{RuleFault}
use Rattle.rule_text.specs.Again.{Spells}
use Rattle.rule_text.specs.Members.{list_of}
use Rattle.rule_text.specs.Parts.{date_of, day_range_of, days_of, flight_range_of, place_form, weekday_of}
use Rattle.rule_text.specs.Rules.{combine_rule_of, day_time_of, end_on_end_spelled, flight_rule_of, min_stay_of, partners_spelled, rule_of, stop_rule_of, surcharge_of, transfer_rule_of, travel_rule_of, unit_kind_of, unit_kind_spelled}
use Rattle.rule_text.specs.Written.{WritesCombineRule, WritesDate, WritesDayRange, WritesDayTime, WritesEach, WritesFlightRange, WritesFlightRule, WritesIf, WritesKind, WritesList, WritesMinStay, WritesNumber, WritesPlace, WritesRule, WritesStopRule, WritesSurcharge, WritesTransferRule, WritesTravelRule, end_on_end_text, kind_text, partners_text}
use Rattle.rule_text.proofs.AgainLemmas.{SpellsEach, combine_rule_again, date_again, day_range_again, day_time_again, days_again, flight_range_again, flight_rule_again, list_again, min_stay_again, place_again, surcharge_again, transfer_rule_again, unit_kind_again, weekday_again}
use Rattle.rule_text.proofs.MemberLemmas.{SpellsIf}
use Rattle.rule_text.proofs.RuleLemmas.{rule_again, stop_rule_again, travel_rule_again}
use Rattle.rule_text.proofs.TextLemmas.{minute_again}

module _ {A : Type 0} (levels : ℕ) (form : Data → Result A RuleFault) (Writes : A → Data → Type 0) (Holds : A → Type 0) (spells : (x : A) (d : Data) → Writes x d → Holds x → Spells levels form x d) where
  spells_each : (xs : List A) (ds : Items) → WritesEach Writes xs ds → Each Holds xs → SpellsEach levels form xs ds
  spells_each [] no_items w h = tt
  spells_each [] (item d ds) w h = absurd w
  spells_each (x ∷ xs) no_items w h = absurd w
  spells_each (x ∷ xs) (item d ds) w h = (spells x d w.0 h.0, spells_each xs ds w.1 h.1)

  spells_list : (most : ℕ) (xs : List A) (d : Data) → WritesList Writes xs d → IsListOf most Holds xs → Spells (levels + 1) (list_of most form) xs d
  spells_list most xs d w h = list_again levels most form Holds xs w.items d w.written (spells_each xs w.items w.each h.each) h

  spells_if : (part : Option A) (o : Option Data) → WritesIf Writes part o → IfSome part Holds → SpellsIf levels form part o
  spells_if None None w h = tt
  spells_if None (Some d) w h = absurd w
  spells_if (Some x) None w h = absurd w
  spells_if (Some x) (Some d) w h = spells x d w h

-- single values

spells_date : (day : ℤ) (d : Data) → WritesDate day d → IsCalendarDay day → Spells 0 date_of day d
spells_date day d w h = date_again w.text day d w.written w.day_is

kind_again : (kind : UnitKind) → unit_kind_spelled (kind_text kind) ≡ Some kind
kind_again OneWay = refl
kind_again RoundTrip = refl
kind_again OpenJaw = refl
kind_again Circle = refl

spells_kind : (kind : UnitKind) (d : Data) → WritesKind kind d → IsAnyKind kind → Spells 0 unit_kind_of kind d
spells_kind kind d w h = unit_kind_again kind (kind_text kind) d w (kind_again kind)

partners_again : (p : Partners) → partners_spelled (partners_text p) ≡ Some p
partners_again Any = refl
partners_again SameCarrier = refl
partners_again SameRule = refl

end_again : (e : EndOnEnd) → end_on_end_spelled (end_on_end_text e) ≡ Some e
end_again Free = refl
end_again OneCarrier = refl
end_again Never = refl

-- ranges and categories

spells_day_range : (r : DayRange) (d : Data) → WritesDayRange r d → IsDayRange r → Spells 1 day_range_of r d
spells_day_range r d w h = day_range_again r w.first w.last d w.written w.first_is w.last_is h

spells_day_time : (t : DayTime) (d : Data) → WritesDayTime t d → IsDayTime t → Spells 2 day_time_of t d
spells_day_time t d w h =
    day_time_again t w.days d _ _ w.written (spells_list 0 weekday_of WritesNumber IsWeekday weekday_again 7 t.days w.days w.days_are h.days)
    (minute_again t.from (let a = h.in_turn in let b = h.to in omega arith)) (minute_again t.to h.to) h

spells_flight_rule : (r : FlightRule) (d : Data) → WritesFlightRule r d → IsFlightRule r → Spells 3 flight_rule_of r d
spells_flight_rule r d w h = flight_rule_again r w.flights d w.written (spells_list 1 flight_range_of WritesFlightRange IsFlightRange flight_range_again 16 r.flights w.flights w.flights_are h)

spells_stop_rule : (r : StopRule) (d : Data) → WritesStopRule r d → IsStopRule r → Spells 2 stop_rule_of r d
spells_stop_rule r d w h =
    stop_rule_again r w.places d w.written
    (spells_if 1 (list_of 16 place_form) (WritesList WritesPlace) (IsListOf 16 IsPlace) (spells_list 0 place_form WritesPlace IsPlace place_again 16) r.places w.places w.places_are h.places) h

spells_combine_rule : (r : CombineRule) (d : Data) → WritesCombineRule r d → IsCombineRule r → Spells 2 combine_rule_of r d
spells_combine_rule r d w h =
    combine_rule_again r w.kinds d _ _ w.written (spells_list 0 unit_kind_of WritesKind IsAnyKind spells_kind 4 r.kinds w.kinds w.kinds_are (record { count = h.kinds; each = any_kinds r.kinds }))
    (partners_again r.partners) (end_again r.end_on_end) h
  where
    any_kinds : (kinds : List UnitKind) → Each IsAnyKind kinds
    any_kinds [] = tt
    any_kinds (k ∷ ks) = (tt, any_kinds ks)

spells_surcharge : (s : Surcharge) (d : Data) → WritesSurcharge s d → IsSurcharge s → Spells 1 surcharge_of s d
spells_surcharge s d w h = surcharge_again s w.first w.last d w.written w.first_is w.last_is h

spells_travel_rule : (r : TravelRule) (d : Data) → WritesTravelRule r d → IsTravelRule r → Spells 3 travel_rule_of r d
spells_travel_rule r d w h =
    travel_rule_again r w.ranges w.by d w.written
    (spells_if 2 (list_of 8 day_range_of) (WritesList WritesDayRange) (IsListOf 8 IsDayRange) (spells_list 1 day_range_of WritesDayRange IsDayRange spells_day_range 8) r.ranges w.ranges w.ranges_are h.ranges)
    (spells_if 0 date_of WritesDate IsCalendarDay spells_date r.by w.by w.by_is h.by)

pub rule_spelled : (r : Rule) (ms : Members) → WritesRule r ms → IsRule r → Spells 4 rule_of r (object ms)
rule_spelled r ms w h =
    rule_again r w.data10 w.data12 w.data14 w.data2 w.data3 w.data4 w.data5 w.data6 w.data7 w.data8 w.data9 ms w.written
    (spells_if 2 day_time_of WritesDayTime IsDayTime spells_day_time r.cat2 w.data2 w.cat2 h.cat2)
    (spells_if 2 (list_of 8 day_range_of) (WritesList WritesDayRange) (IsListOf 8 IsDayRange) (spells_list 1 day_range_of WritesDayRange IsDayRange spells_day_range 8) r.cat3 w.data3 w.cat3 h.cat3)
    (spells_if 3 flight_rule_of WritesFlightRule IsFlightRule spells_flight_rule r.cat4 w.data4 w.cat4 h.cat4)
    (spells_if 0 days_of WritesNumber IsDays days_again r.cat5 w.data5 w.cat5 h.cat5)
    (spells_if 1 min_stay_of WritesMinStay IsMinStay min_stay_again r.cat6 w.data6 w.cat6 h.cat6)
    (spells_if 0 days_of WritesNumber IsDays days_again r.cat7 w.data7 w.cat7 h.cat7)
    (spells_if 2 stop_rule_of WritesStopRule IsStopRule spells_stop_rule r.cat8 w.data8 w.cat8 h.cat8)
    (spells_if 1 transfer_rule_of WritesTransferRule IsTransferRule transfer_rule_again r.cat9 w.data9 w.cat9 h.cat9)
    (spells_if 2 combine_rule_of WritesCombineRule IsCombineRule spells_combine_rule r.cat10 w.data10 w.cat10 h.cat10)
    (spells_if 2 (list_of 8 surcharge_of) (WritesList WritesSurcharge) (IsListOf 8 IsSurcharge) (spells_list 1 surcharge_of WritesSurcharge IsSurcharge spells_surcharge 8) r.cat12 w.data12 w.cat12 h.cat12)
    (spells_if 3 travel_rule_of WritesTravelRule IsTravelRule spells_travel_rule r.cat14 w.data14 w.cat14 h.cat14)
