-- The JSON value of a rule: objects with their members ascending by name, a date as its text.
use Rattle.std.specs.Prelude.{◌≡◌, ℕ, ℤ, List, [], ◌∷◌, Bool, Option, Some, None, codes}
use Rattle.serde_json.specs.Data.{Data, Items, no_items, item, array, number, unsigned, boolean, string, object, Members, member, no_members, put}
use Rattle.fare_law.specs.declared.names.Place.{Place}
use Rattle.fare_law.specs.declared.rules.CombineRule.{CombineRule}
use Rattle.fare_law.specs.declared.rules.DayRange.{DayRange}
use Rattle.fare_law.specs.declared.rules.DayTime.{DayTime}
use Rattle.fare_law.specs.declared.rules.EndOnEnd.{EndOnEnd}
use Rattle.fare_law.specs.declared.rules.EndOnEnd.TheVariants.{Free, SameCarrier as OneCarrier, Never}
use Rattle.fare_law.specs.declared.rules.FlightRange.{FlightRange}
use Rattle.fare_law.specs.declared.rules.FlightRule.{FlightRule}
use Rattle.fare_law.specs.declared.rules.MinStay.{MinStay}
use Rattle.fare_law.specs.declared.rules.Partners.{Partners}
use Rattle.fare_law.specs.declared.rules.Partners.TheVariants.{Any, SameCarrier, SameRule}
use Rattle.fare_law.specs.declared.rules.Rule.{Rule}
use Rattle.fare_law.specs.declared.rules.StopRule.{StopRule}
use Rattle.fare_law.specs.declared.rules.Surcharge.{Surcharge}
use Rattle.fare_law.specs.declared.rules.TransferRule.{TransferRule}
use Rattle.fare_law.specs.declared.rules.TravelRule.{TravelRule}
use Rattle.fare_law.specs.declared.rules.UnitKind.{UnitKind}
use Rattle.fare_law.specs.declared.rules.UnitKind.TheVariants.{OneWay, RoundTrip, OpenJaw, Circle}
use Rattle.market_time.specs.Clock.{time_text}
use Rattle.market_time.specs.Dates.{day_spelled}

-- lists, and parts that may be absent

-- each value is that of the item at its place
abbrev pub WritesEach : {A : Type 0} → (A → Data → Type 0) → List A → Items → Type 0
WritesEach Writes [] no_items = Unit {0}
WritesEach Writes [] (item d ds) = ⊥
WritesEach Writes (x ∷ xs) no_items = ⊥
WritesEach Writes (x ∷ xs) (item d ds) = Writes x d × WritesEach Writes xs ds

pub record WritesList {A : Type 0} (Writes : A → Data → Type 0) (xs : List A) (d : Data) : Type 0 where
  pub items : Items
  pub each : WritesEach Writes xs items
  pub written : d ≡ array items

abbrev pub WritesIf : {A : Type 0} → (A → Data → Type 0) → Option A → Option Data → Type 0
WritesIf Writes None None = Unit {0}
WritesIf Writes None (Some d) = ⊥
WritesIf Writes (Some part) None = ⊥
WritesIf Writes (Some part) (Some d) = Writes part d

-- a member, where it is there, before these
abbrev pub member_if : List ℕ → Option Data → Members → Members
member_if name None ms = ms
member_if name (Some d) ms = member name d ms

-- the members, with this one put among them where it is there
abbrev pub put_if : List ℕ → Option Data → Members → Members
put_if name None ms = ms
put_if name (Some d) ms = put name d ms

-- the members have come to have the value of a part that may be absent
pub record Puts {A : Type 0} (Writes : A → Data → Type 0) (part : Option A) (name : List ℕ) (old new : Members) : Type 0 where
  pub value : Option Data
  pub writes : WritesIf Writes part value
  pub put : new ≡ put_if name value old

-- single values

abbrev pub WritesNumber : ℕ → Data → Type 0
WritesNumber n d = d ≡ number (unsigned n)

abbrev pub WritesPlace : Place → Data → Type 0
WritesPlace place d = d ≡ string place.0

-- the day's text
pub record WritesDate (day : ℤ) (d : Data) : Type 0 where
  pub text : List ℕ
  pub day_is : day_spelled text ≡ Some day
  pub written : d ≡ string text

abbrev pub kind_text : UnitKind → List ℕ
kind_text OneWay = codes "one_way"
kind_text RoundTrip = codes "round_trip"
kind_text OpenJaw = codes "open_jaw"
kind_text Circle = codes "circle"

abbrev pub WritesKind : UnitKind → Data → Type 0
WritesKind kind d = d ≡ string (kind_text kind)

abbrev pub partners_text : Partners → List ℕ
partners_text Any = codes "any"
partners_text SameCarrier = codes "same_carrier"
partners_text SameRule = codes "same_rule"

abbrev pub end_on_end_text : EndOnEnd → List ℕ
end_on_end_text Free = codes "free"
end_on_end_text OneCarrier = codes "same_carrier"
end_on_end_text Never = codes "never"

-- ranges

abbrev pub day_range_data : List ℕ → List ℕ → Data
day_range_data first last = array (item (string first) (item (string last) no_items))

-- two dates in a list
pub record WritesDayRange (r : DayRange) (d : Data) : Type 0 where
  pub first : List ℕ
  pub first_is : day_spelled first ≡ Some r.first
  pub last : List ℕ
  pub last_is : day_spelled last ≡ Some r.last
  pub written : d ≡ day_range_data first last

abbrev pub flight_range_data : List ℕ → ℕ → ℕ → Data
flight_range_data carrier low high =
    array (item (string carrier) (item (number (unsigned low)) (item (number (unsigned high)) no_items)))

abbrev pub WritesFlightRange : FlightRange → Data → Type 0
WritesFlightRange r d = d ≡ flight_range_data r.carrier.0 r.low r.high

-- the categories

abbrev pub day_time_data : Data → List ℕ → List ℕ → Data
day_time_data days from to =
    object (member (codes "days") days (member (codes "from") (string from) (member (codes "to") (string to) no_members)))

pub record WritesDayTime (t : DayTime) (d : Data) : Type 0 where
  pub days : Data
  pub days_are : WritesList WritesNumber t.days days
  pub written : d ≡ day_time_data days (time_text t.from) (time_text t.to)

abbrev pub flight_rule_data : Bool → Data → Data
flight_rule_data allow flights = object (member (codes "allow") (boolean allow) (member (codes "flights") flights no_members))

pub record WritesFlightRule (r : FlightRule) (d : Data) : Type 0 where
  pub flights : Data
  pub flights_are : WritesList WritesFlightRange r.flights flights
  pub written : d ≡ flight_rule_data r.allow flights

abbrev pub min_stay_data : ℕ → Bool → Data
min_stay_data days sunday =
    object (member (codes "days") (number (unsigned days)) (member (codes "sunday") (boolean sunday) no_members))

abbrev pub WritesMinStay : MinStay → Data → Type 0
WritesMinStay r d = d ≡ min_stay_data r.days r.sunday

abbrev pub stop_members : ℕ → ℕ → Members → Members
stop_members charge max rest = member (codes "charge") (number (unsigned charge)) (member (codes "max") (number (unsigned max)) rest)

pub record WritesStopRule (r : StopRule) (d : Data) : Type 0 where
  pub places : Option Data
  pub places_are : WritesIf (WritesList WritesPlace) r.places places
  pub written : d ≡ object (stop_members r.charge r.max (member_if (codes "places") places no_members))

abbrev pub transfer_rule_data : ℕ → Bool → Data
transfer_rule_data max online =
    object (member (codes "max") (number (unsigned max)) (member (codes "online") (boolean online) no_members))

abbrev pub WritesTransferRule : TransferRule → Data → Type 0
WritesTransferRule r d = d ≡ transfer_rule_data r.max r.online

abbrev pub combine_rule_data : List ℕ → Data → List ℕ → Data
combine_rule_data end_on_end kinds partners =
    object (member (codes "end_on_end") (string end_on_end) (member (codes "kinds") kinds
    (member (codes "partners") (string partners) no_members)))

pub record WritesCombineRule (r : CombineRule) (d : Data) : Type 0 where
  pub kinds : Data
  pub kinds_are : WritesList WritesKind r.kinds kinds
  pub written : d ≡ combine_rule_data (end_on_end_text r.end_on_end) kinds (partners_text r.partners)

abbrev pub surcharge_data : ℕ → List ℕ → List ℕ → ℕ → List ℕ → ℕ → Data
surcharge_data amount carrier first high last low =
    object (member (codes "amount") (number (unsigned amount)) (member (codes "carrier") (string carrier)
    (member (codes "first") (string first) (member (codes "high") (number (unsigned high))
    (member (codes "last") (string last) (member (codes "low") (number (unsigned low)) no_members))))))

pub record WritesSurcharge (s : Surcharge) (d : Data) : Type 0 where
  pub first : List ℕ
  pub first_is : day_spelled first ≡ Some s.first
  pub last : List ℕ
  pub last_is : day_spelled last ≡ Some s.last
  pub written : d ≡ surcharge_data s.amount s.carrier.0 first s.high last s.low

pub record WritesTravelRule (r : TravelRule) (d : Data) : Type 0 where
  pub by : Option Data
  pub by_is : WritesIf WritesDate r.by by
  pub ranges : Option Data
  pub ranges_are : WritesIf (WritesList WritesDayRange) r.ranges ranges
  pub written : d ≡ object (member_if (codes "by") by (member_if (codes "ranges") ranges no_members))

-- the rule: the members of the categories that it has
pub record WritesRule (r : Rule) (ms : Members) : Type 0 where
  pub data10 : Option Data
  pub cat10 : WritesIf WritesCombineRule r.cat10 data10
  pub data12 : Option Data
  pub cat12 : WritesIf (WritesList WritesSurcharge) r.cat12 data12
  pub data14 : Option Data
  pub cat14 : WritesIf WritesTravelRule r.cat14 data14
  pub data2 : Option Data
  pub cat2 : WritesIf WritesDayTime r.cat2 data2
  pub data3 : Option Data
  pub cat3 : WritesIf (WritesList WritesDayRange) r.cat3 data3
  pub data4 : Option Data
  pub cat4 : WritesIf WritesFlightRule r.cat4 data4
  pub data5 : Option Data
  pub cat5 : WritesIf WritesNumber r.cat5 data5
  pub data6 : Option Data
  pub cat6 : WritesIf WritesMinStay r.cat6 data6
  pub data7 : Option Data
  pub cat7 : WritesIf WritesNumber r.cat7 data7
  pub data8 : Option Data
  pub cat8 : WritesIf WritesStopRule r.cat8 data8
  pub data9 : Option Data
  pub cat9 : WritesIf WritesTransferRule r.cat9 data9
  pub written : ms
      ≡ member_if (codes "cat10") data10 (member_if (codes "cat12") data12 (member_if (codes "cat14") data14
      (member_if (codes "cat2") data2 (member_if (codes "cat3") data3 (member_if (codes "cat4") data4
      (member_if (codes "cat5") data5 (member_if (codes "cat6") data6 (member_if (codes "cat7") data7
      (member_if (codes "cat8") data8 (member_if (codes "cat9") data9 no_members))))))))))

-- the object of these members
pub record WritesRuleObject (r : Rule) (d : Data) : Type 0 where
  pub members : Members
  pub rule_is : WritesRule r members
  pub written : d ≡ object members
