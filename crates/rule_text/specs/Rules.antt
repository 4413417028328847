-- The rule that an object spells, or its first fault.
use Rattle.std.specs.Prelude.{ℕ, List, [], ◌∷◌, ◌&&◌, bytes_eq, nat_le, int_le, if◌then◌else◌, Option, Some, None, option_and_then, Result, Ok, Err, ok_or, codes}
use Rattle.serde_json.specs.Data.{Data}
use Rattle.serde_json.specs.Find.{as_str}
use Rattle.json_form.specs.Members.{between_at, carrier_at, date_at, text_at}
use Rattle.fare_law.specs.RuleLimits.{rank_of_kind}
use Rattle.fare_law.specs.declared.rules.CombineRule.{CombineRule}
use Rattle.fare_law.specs.declared.rules.DayRange.{DayRange}
use Rattle.fare_law.specs.declared.rules.DayTime.{DayTime}
use Rattle.fare_law.specs.declared.rules.EndOnEnd.{EndOnEnd}
use Rattle.fare_law.specs.declared.rules.EndOnEnd.TheVariants.{Free, SameCarrier as OneCarrier, Never}
use Rattle.fare_law.specs.declared.rules.FlightRule.{FlightRule}
use Rattle.fare_law.specs.declared.rules.MinStay.{MinStay}
use Rattle.fare_law.specs.declared.rules.Partners.{Partners}
use Rattle.fare_law.specs.declared.rules.Partners.TheVariants.{Any, SameCarrier, SameRule}
use Rattle.fare_law.specs.declared.rules.Rule.{Rule}
use Rattle.fare_law.specs.declared.rules.StopRule.{StopRule}
use Rattle.fare_law.specs.declared.rules.Surcharge.{Surcharge}
use Rattle.fare_law.specs.declared.rules.TransferRule.{TransferRule}
use Rattle.fare_law.specs.declared.rules.TravelRule.{TravelRule}
use Rattle.fare_law.specs.declared.rules.UnitKind.{UnitKind}
use Rattle.fare_law.specs.declared.rules.UnitKind.TheVariants.{OneWay, RoundTrip, OpenJaw, Circle}
use Rattle.rule_text.specs.declared.fault.RuleFault.{RuleFault}
use Rattle.rule_text.specs.declared.fault.RuleFault.TheVariants.{Range}
use Rattle.rule_text.specs.Members.{◌>>=◌, with_members, part_at, optional_at, list_of}
use Rattle.rule_text.specs.Parts.{days_of, date_of, weekday_of, truth_at, minute_at, place_form, day_range_of, flight_range_of, ascend}

-- category 2
abbrev pub day_time_of : Data → Result DayTime RuleFault
day_time_of d = do
  _ ← with_members (codes "days" ∷ codes "from" ∷ codes "to" ∷ []) [] d
  days ← part_at (list_of 7 weekday_of) (codes "days") d
  from ← ok_or (minute_at (codes "from") d) Range
  to ← ok_or (minute_at (codes "to") d) Range
  if ascend (λ day. day) days && nat_le from to then Ok (record { days = days; from = from; to = to }) else Err Range

-- category 4
abbrev pub flight_rule_of : Data → Result FlightRule RuleFault
flight_rule_of d = do
  _ ← with_members (codes "allow" ∷ codes "flights" ∷ []) [] d
  allow ← ok_or (truth_at (codes "allow") d) Range
  flights ← part_at (list_of 16 flight_range_of) (codes "flights") d
  Ok (record { allow = allow; flights = flights })

-- category 6
abbrev pub min_stay_of : Data → Result MinStay RuleFault
min_stay_of d = do
  _ ← with_members (codes "days" ∷ codes "sunday" ∷ []) [] d
  days ← part_at days_of (codes "days") d
  sunday ← ok_or (truth_at (codes "sunday") d) Range
  Ok (record { days = days; sunday = sunday })

-- category 8
abbrev pub stop_rule_of : Data → Result StopRule RuleFault
stop_rule_of d = do
  _ ← with_members (codes "max" ∷ codes "charge" ∷ []) (codes "places" ∷ []) d
  max ← ok_or (between_at (codes "max") 0 3 d) Range
  charge ← ok_or (between_at (codes "charge") 0 1000000 d) Range
  places ← optional_at (list_of 16 place_form) (codes "places") d
  Ok (record { max = max; charge = charge; places = places })

-- category 9
abbrev pub transfer_rule_of : Data → Result TransferRule RuleFault
transfer_rule_of d = do
  _ ← with_members (codes "max" ∷ codes "online" ∷ []) [] d
  max ← ok_or (between_at (codes "max") 0 3 d) Range
  online ← ok_or (truth_at (codes "online") d) Range
  Ok (record { max = max; online = online })

-- category 10: the kinds of units in their order, and what is asked of the other fares
abbrev pub unit_kind_spelled : List ℕ → Option UnitKind
unit_kind_spelled text =
    if bytes_eq text (codes "one_way") then Some OneWay
    else if bytes_eq text (codes "round_trip") then Some RoundTrip
    else if bytes_eq text (codes "open_jaw") then Some OpenJaw
    else if bytes_eq text (codes "circle") then Some Circle
    else None

abbrev pub unit_kind_of : Data → Result UnitKind RuleFault
unit_kind_of d = ok_or (option_and_then unit_kind_spelled (as_str d)) Range

abbrev pub partners_spelled : List ℕ → Option Partners
partners_spelled text =
    if bytes_eq text (codes "any") then Some Any
    else if bytes_eq text (codes "same_carrier") then Some SameCarrier
    else if bytes_eq text (codes "same_rule") then Some SameRule
    else None

abbrev pub end_on_end_spelled : List ℕ → Option EndOnEnd
end_on_end_spelled text =
    if bytes_eq text (codes "free") then Some Free
    else if bytes_eq text (codes "same_carrier") then Some OneCarrier
    else if bytes_eq text (codes "never") then Some Never
    else None

abbrev pub partners_at : Data → Option Partners
partners_at d = option_and_then partners_spelled (text_at (codes "partners") d)

abbrev pub end_on_end_at : Data → Option EndOnEnd
end_on_end_at d = option_and_then end_on_end_spelled (text_at (codes "end_on_end") d)

abbrev pub combine_rule_of : Data → Result CombineRule RuleFault
combine_rule_of d = do
  _ ← with_members (codes "kinds" ∷ codes "partners" ∷ codes "end_on_end" ∷ []) [] d
  kinds ← part_at (list_of 4 unit_kind_of) (codes "kinds") d
  partners ← ok_or (partners_at d) Range
  end_on_end ← ok_or (end_on_end_at d) Range
  if ascend rank_of_kind kinds then Ok (record { kinds = kinds; partners = partners; end_on_end = end_on_end }) else Err Range

-- an entry of category 12
abbrev pub surcharge_names : List (List ℕ)
surcharge_names =
    codes "carrier" ∷ codes "low" ∷ codes "high" ∷ codes "first" ∷ codes "last" ∷ codes "amount" ∷ []

abbrev pub surcharge_of : Data → Result Surcharge RuleFault
surcharge_of d = do
  _ ← with_members surcharge_names [] d
  carrier ← ok_or (carrier_at (codes "carrier") d) Range
  low ← ok_or (between_at (codes "low") 1 9999 d) Range
  high ← ok_or (between_at (codes "high") 1 9999 d) Range
  first ← ok_or (date_at (codes "first") d) Range
  last ← ok_or (date_at (codes "last") d) Range
  amount ← ok_or (between_at (codes "amount") 0 1000000 d) Range
  if nat_le low high && int_le first last
      then Ok (record { carrier = carrier; low = low; high = high; first = first; last = last; amount = amount }) else Err Range

-- category 14
abbrev pub travel_rule_of : Data → Result TravelRule RuleFault
travel_rule_of d = do
  _ ← with_members [] (codes "ranges" ∷ codes "by" ∷ []) d
  ranges ← optional_at (list_of 8 day_range_of) (codes "ranges") d
  by ← optional_at date_of (codes "by") d
  Ok (record { ranges = ranges; by = by })

-- the members of the object that puts a rule: its carrier and number, which are judged elsewhere, and the categories
abbrev pub rule_names : List (List ℕ)
rule_names =
    codes "carrier" ∷ codes "rule" ∷ codes "cat2" ∷ codes "cat3" ∷ codes "cat4" ∷ codes "cat5" ∷ codes "cat6"
    ∷ codes "cat7" ∷ codes "cat8" ∷ codes "cat9" ∷ codes "cat10" ∷ codes "cat12" ∷ codes "cat14" ∷ []

-- the categories on days and flights
abbrev pub travel_parts_of : Data → Result (Option DayTime × Option (List DayRange) × Option FlightRule × Option ℕ) RuleFault
travel_parts_of d = do
  cat2 ← optional_at day_time_of (codes "cat2") d
  cat3 ← optional_at (list_of 8 day_range_of) (codes "cat3") d
  cat4 ← optional_at flight_rule_of (codes "cat4") d
  cat5 ← optional_at days_of (codes "cat5") d
  Ok (cat2, cat3, cat4, cat5)

-- the categories on stays, stopovers and transfers
abbrev pub stay_parts_of : Data → Result (Option MinStay × Option ℕ × Option StopRule × Option TransferRule) RuleFault
stay_parts_of d = do
  cat6 ← optional_at min_stay_of (codes "cat6") d
  cat7 ← optional_at days_of (codes "cat7") d
  cat8 ← optional_at stop_rule_of (codes "cat8") d
  cat9 ← optional_at transfer_rule_of (codes "cat9") d
  Ok (cat6, cat7, cat8, cat9)

-- the categories on combinations, surcharges and travel dates
abbrev pub fare_parts_of : Data → Result (Option CombineRule × Option (List Surcharge) × Option TravelRule) RuleFault
fare_parts_of d = do
  cat10 ← optional_at combine_rule_of (codes "cat10") d
  cat12 ← optional_at (list_of 8 surcharge_of) (codes "cat12") d
  cat14 ← optional_at travel_rule_of (codes "cat14") d
  Ok (cat10, cat12, cat14)

-- the rule of such an object, or the first fault: a member that isn't named, then the categories ascending
unfoldable pub rule_of : Data → Result Rule RuleFault
rule_of d = do
  _ ← with_members [] rule_names d
  cat2 ← optional_at day_time_of (codes "cat2") d
  cat3 ← optional_at (list_of 8 day_range_of) (codes "cat3") d
  cat4 ← optional_at flight_rule_of (codes "cat4") d
  cat5 ← optional_at days_of (codes "cat5") d
  cat6 ← optional_at min_stay_of (codes "cat6") d
  cat7 ← optional_at days_of (codes "cat7") d
  cat8 ← optional_at stop_rule_of (codes "cat8") d
  cat9 ← optional_at transfer_rule_of (codes "cat9") d
  cat10 ← optional_at combine_rule_of (codes "cat10") d
  cat12 ← optional_at (list_of 8 surcharge_of) (codes "cat12") d
  cat14 ← optional_at travel_rule_of (codes "cat14") d
  Ok (record { cat2 = cat2; cat3 = cat3; cat4 = cat4; cat5 = cat5; cat6 = cat6; cat7 = cat7; cat8 = cat8; cat9 = cat9; cat10 = cat10; cat12 = cat12; cat14 = cat14 })
