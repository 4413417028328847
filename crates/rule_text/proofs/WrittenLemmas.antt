-- Values that are those of a part.
use Rattle.std.proofs.Common.{◌≡◌, ℤ, ℕ, List, Some}
use Rattle.serde_json.specs.Data.{Data, string}
use Rattle.fare_law.specs.declared.rules.CombineRule.{CombineRule}
use Rattle.fare_law.specs.declared.rules.DayRange.{DayRange}
use Rattle.fare_law.specs.declared.rules.DayTime.{DayTime}
use Rattle.fare_law.specs.declared.rules.FlightRule.{FlightRule}
use Rattle.market_time.specs.Clock.{time_text}
use Rattle.market_time.specs.Dates.{day_spelled}
use Rattle.rule_text.specs.Written.{WritesCombineRule, WritesDate, WritesDayRange, WritesDayTime, WritesFlightRange, WritesFlightRule, WritesKind, WritesList, WritesNumber, combine_rule_data, day_range_data, day_time_data, end_on_end_text, flight_rule_data, partners_text}

pub date_written : (text : List ℕ) (day : ℤ) (v : Data) → v ≡ string text → day_spelled text ≡ Some day → WritesDate day v
date_written text day v e h = record { text = text; day_is = h; written = e }

pub day_range_written : (r : DayRange) (first last : List ℕ) (v : Data) → v ≡ day_range_data first last → day_spelled first ≡ Some r.first → day_spelled last ≡ Some r.last → WritesDayRange r v
day_range_written r first last v e one other = record { first = first; first_is = one; last = last; last_is = other; written = e }

pub day_time_written : (t : DayTime) (days v : Data) → v ≡ day_time_data days (time_text t.from) (time_text t.to) → WritesList WritesNumber t.days days → WritesDayTime t v
day_time_written t days v e h = record { days = days; days_are = h; written = e }

pub flight_rule_written : (r : FlightRule) (flights v : Data) → v ≡ flight_rule_data r.allow flights → WritesList WritesFlightRange r.flights flights → WritesFlightRule r v
flight_rule_written r flights v e h = record { flights = flights; flights_are = h; written = e }

pub combine_rule_written : (r : CombineRule) (kinds v : Data) → v ≡ combine_rule_data (end_on_end_text r.end_on_end) kinds (partners_text r.partners) → WritesList WritesKind r.kinds kinds → WritesCombineRule r v
combine_rule_written r kinds v e h = record { kinds = kinds; kinds_are = h; written = e }
