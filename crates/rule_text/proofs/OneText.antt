-- A rule has one value.
use Rattle.std.proofs.Common.{◌≡◌, List, [], ◌∷◌, Option, Some, None, refl, ap, ap₂, sym, ◌∙◌}
use Rattle.serde_json.specs.Data.{Data, Items, Members, no_items, item, array, string}
use Rattle.fare_law.specs.declared.rules.Rule.{Rule}
use Rattle.market_time.proofs.TextLemmas.{day_spelled_once}
use Rattle.rule_text.specs.Written.{WritesCombineRule, WritesDate, WritesDayRange, WritesDayTime, WritesEach, WritesFlightRange, WritesFlightRule, WritesIf, WritesKind, WritesList, WritesMinStay, WritesNumber, WritesPlace, WritesRule, WritesStopRule, WritesSurcharge, WritesTransferRule, WritesTravelRule}

-- whoever has two values has the same twice
abbrev IsOne : {A : Type 0} → (A → Data → Type 0) → Type 0
IsOne {A} Writes = (x : A) (d e : Data) → Writes x d → Writes x e → d ≡ e

module _ {A : Type 0} (Writes : A → Data → Type 0) (one : IsOne Writes) where
  one_each : (xs : List A) (ds es : Items) → WritesEach Writes xs ds → WritesEach Writes xs es → ds ≡ es
  one_each [] no_items no_items w v = refl
  one_each [] no_items (item e es) w v = absurd v
  one_each [] (item d ds) es w v = absurd w
  one_each (x ∷ xs) no_items es w v = absurd w
  one_each (x ∷ xs) (item d ds) no_items w v = absurd v
  one_each (x ∷ xs) (item d ds) (item e es) w v = ap₂ item (one x d e w.0 v.0) (one_each xs ds es w.1 v.1)

  one_list : IsOne (WritesList Writes)
  one_list xs d e w v = w.written ∙ ap array (one_each xs w.items v.items w.each v.each) ∙ sym v.written

  one_if : (part : Option A) (o p : Option Data) → WritesIf Writes part o → WritesIf Writes part p → o ≡ p
  one_if None None None w v = refl
  one_if None None (Some e) w v = absurd v
  one_if None (Some d) p w v = absurd w
  one_if (Some x) None p w v = absurd w
  one_if (Some x) (Some d) None w v = absurd v
  one_if (Some x) (Some d) (Some e) w v = ap Some (one x d e w v)

one_date : IsOne WritesDate
one_date day d e w v = w.written ∙ ap string (day_spelled_once w.text v.text day w.day_is v.day_is) ∙ sym v.written

one_day_range : IsOne WritesDayRange
one_day_range r d e w v =
    let f : w.first ≡ v.first = day_spelled_once w.first v.first r.first w.first_is v.first_is in
    let l : w.last ≡ v.last = day_spelled_once w.last v.last r.last w.last_is v.last_is in
    w.written ∙ rw (f, l) (sym v.written)

one_number : IsOne WritesNumber
one_number n d e w v = w ∙ sym v

one_day_time : IsOne WritesDayTime
one_day_time t d e w v =
    let days : w.days ≡ v.days = one_list WritesNumber one_number t.days w.days v.days w.days_are v.days_are in
    w.written ∙ rw days (sym v.written)

one_flight_range : IsOne WritesFlightRange
one_flight_range r d e w v = w ∙ sym v

one_flight_rule : IsOne WritesFlightRule
one_flight_rule r d e w v =
    let flights : w.flights ≡ v.flights = one_list WritesFlightRange one_flight_range r.flights w.flights v.flights w.flights_are v.flights_are in
    w.written ∙ rw flights (sym v.written)

one_min_stay : IsOne WritesMinStay
one_min_stay r d e w v = w ∙ sym v

one_place : IsOne WritesPlace
one_place p d e w v = w ∙ sym v

one_stop_rule : IsOne WritesStopRule
one_stop_rule r d e w v =
    let places : w.places ≡ v.places = one_if (WritesList WritesPlace) (one_list WritesPlace one_place) r.places w.places v.places w.places_are v.places_are in
    w.written ∙ rw places (sym v.written)

one_transfer_rule : IsOne WritesTransferRule
one_transfer_rule r d e w v = w ∙ sym v

one_kind : IsOne WritesKind
one_kind k d e w v = w ∙ sym v

one_combine_rule : IsOne WritesCombineRule
one_combine_rule r d e w v =
    let kinds : w.kinds ≡ v.kinds = one_list WritesKind one_kind r.kinds w.kinds v.kinds w.kinds_are v.kinds_are in
    w.written ∙ rw kinds (sym v.written)

one_surcharge : IsOne WritesSurcharge
one_surcharge s d e w v =
    let f : w.first ≡ v.first = day_spelled_once w.first v.first s.first w.first_is v.first_is in
    let l : w.last ≡ v.last = day_spelled_once w.last v.last s.last w.last_is v.last_is in
    w.written ∙ rw (f, l) (sym v.written)

one_travel_rule : IsOne WritesTravelRule
one_travel_rule r d e w v =
    let by : w.by ≡ v.by = one_if WritesDate one_date r.by w.by v.by w.by_is v.by_is in
    let ranges : w.ranges ≡ v.ranges = one_if (WritesList WritesDayRange) (one_list WritesDayRange one_day_range) r.ranges w.ranges v.ranges w.ranges_are v.ranges_are in
    w.written ∙ rw (by, ranges) (sym v.written)

pub one_rule : (r : Rule) (ms ns : Members) → WritesRule r ms → WritesRule r ns → ms ≡ ns
one_rule r ms ns w v =
    let e10 : w.data10 ≡ v.data10 = one_if WritesCombineRule one_combine_rule r.cat10 w.data10 v.data10 w.cat10 v.cat10 in
    let e12 : w.data12 ≡ v.data12 = one_if (WritesList WritesSurcharge) (one_list WritesSurcharge one_surcharge) r.cat12 w.data12 v.data12 w.cat12 v.cat12 in
    let e14 : w.data14 ≡ v.data14 = one_if WritesTravelRule one_travel_rule r.cat14 w.data14 v.data14 w.cat14 v.cat14 in
    let e2 : w.data2 ≡ v.data2 = one_if WritesDayTime one_day_time r.cat2 w.data2 v.data2 w.cat2 v.cat2 in
    let e3 : w.data3 ≡ v.data3 = one_if (WritesList WritesDayRange) (one_list WritesDayRange one_day_range) r.cat3 w.data3 v.data3 w.cat3 v.cat3 in
    let e4 : w.data4 ≡ v.data4 = one_if WritesFlightRule one_flight_rule r.cat4 w.data4 v.data4 w.cat4 v.cat4 in
    let e5 : w.data5 ≡ v.data5 = one_if WritesNumber one_number r.cat5 w.data5 v.data5 w.cat5 v.cat5 in
    let e6 : w.data6 ≡ v.data6 = one_if WritesMinStay one_min_stay r.cat6 w.data6 v.data6 w.cat6 v.cat6 in
    let e7 : w.data7 ≡ v.data7 = one_if WritesNumber one_number r.cat7 w.data7 v.data7 w.cat7 v.cat7 in
    let e8 : w.data8 ≡ v.data8 = one_if WritesStopRule one_stop_rule r.cat8 w.data8 v.data8 w.cat8 v.cat8 in
    let e9 : w.data9 ≡ v.data9 = one_if WritesTransferRule one_transfer_rule r.cat9 w.data9 v.data9 w.cat9 v.cat9 in
    w.written ∙ rw (e10, e12, e14, e2, e3, e4, e5, e6, e7, e8, e9) (sym v.written)
