-- The four actions that put the rules of a made case are read as rules.
use Rattle.std.proofs.Common.{◌≡◌, ◌≤◌, ◌<◌, ◌+◌, ◌^◌, ℕ, ℤ, pos, true, false, List, [], ◌∷◌, ◌++◌, codes, Some, None, Ok, refl, ap, arith, int_le, ◌+ℤ◌, ◌-ℤ◌, ◌-◌, unsigned_abs}
use Rattle.std.proofs.lemmas.Int.{ints}
use Rattle.std.specs.Fmt.{digits}
use Rattle.jiff_core.specs.Calendar.{day_count, day_of_year, days_from_civil, days_of_months, days_of_years}
use Rattle.json.proofs.Printed.Decimals.{IsNumber-decimal}
use Rattle.json.specs.Print.{escape_byte}
use Rattle.serde_json.proofs.Numbers.{number_of-decimal}
use Rattle.serde_json.specs.Data.{Data, array, boolean, item, member, no_items, no_members, number, object, string, unsigned}
use Rattle.serde_json.specs.Written.{compact_text}
use Rattle.case_maker.specs.Filing.{march_rule, return_rule, season_rule, weekend_rule}
use Rattle.fare_filing.specs.Compact.{Begins, ReadsBack}
use Rattle.fare_filing.specs.Reading.{action_spelled}
use Rattle.fare_filing.specs.Text.{sole}
use Rattle.fare_law.specs.declared.filings.Action.{Action}
use Rattle.fare_law.specs.declared.filings.Action.TheVariants.{PutRule}
use Rattle.fare_law.specs.declared.rules.EndOnEnd.TheVariants as joined
use Rattle.fare_law.specs.declared.rules.Partners.TheVariants as partners
use Rattle.fare_law.specs.declared.rules.Rule.{Rule}
use Rattle.fare_law.specs.declared.rules.UnitKind.TheVariants.{OneWay, OpenJaw, RoundTrip}
use Rattle.fare_law.specs.Book.{free_rule}
use Rattle.market_time.specs.Clock.{minute_spelled}
use Rattle.market_time.specs.Dates.{day_spelled}
use Rattle.name_text.specs.Names.{carrier_of}
use Rattle.rule_text.specs.Rules.{rule_of}
use Rattle.case_maker.specs.Sections.{mx}

abbrev num : ℕ → Data
num n = number (unsigned n)

small : (n : ℕ) → n < 5000 → n < 2 ^ 64
small n h = omega (arith, h)

-- ---- the first: days and times, two weeks in advance, a stay

abbrev weekend_data : Data
weekend_data =
    sole (codes "put_rule") (object (member (codes "carrier") (string (codes "MX"))
    (member (codes "cat2") (object (member (codes "days") (array (item (num 1) (item (num 2) (item (num 3) no_items)))) (member (codes "from") (string (codes "05:00")) (member (codes "to") (string (codes "22:00")) no_members))))
    (member (codes "cat5") (num 14)
    (member (codes "cat6") (object (member (codes "days") (num 3) (member (codes "sunday") (boolean true) no_members)))
    (member (codes "rule") (num 1) no_members))))))

abbrev pub weekend : Rule
weekend = record free_rule { cat2 = Some (record { days = 1 ∷ 2 ∷ 3 ∷ []; from = 300; to = 1320 }); cat5 = Some 14; cat6 = Some (record { days = 3; sunday = true }) }

weekend_text : weekend_rule ≡ compact_text weekend_data
unfolding escape_byte digits
weekend_text = refl

weekend_back : ReadsBack weekend_data
weekend_back = record {
  numbers = ((tt, (((IsNumber-decimal 1 (omega arith), (IsNumber-decimal 2 (omega arith), (IsNumber-decimal 3 (omega arith), tt))), (tt, (tt, tt))), (IsNumber-decimal 14 (omega arith), ((IsNumber-decimal 3 (omega arith), (tt, tt)), (IsNumber-decimal 1 (omega arith), tt))))), tt);
  again = rw (number_of-decimal 1 (omega arith), number_of-decimal 2 (omega arith), number_of-decimal 3 (omega arith), number_of-decimal 14 (omega arith)) refl;
  nests = omega arith;
}

weekend_spelled : (n : ℕ) → action_spelled n weekend_data ≡ Ok (PutRule mx 1 weekend)
unfolding minute_spelled carrier_of rule_of
weekend_spelled n = refl

-- ---- the third: trips there and back

abbrev return_data : Data
return_data =
    sole (codes "put_rule") (object (member (codes "carrier") (string (codes "MX"))
    (member (codes "cat10") (object (member (codes "end_on_end") (string (codes "free")) (member (codes "kinds") (array (item (string (codes "round_trip")) (item (string (codes "open_jaw")) no_items))) (member (codes "partners") (string (codes "same_rule")) no_members))))
    (member (codes "cat4") (object (member (codes "allow") (boolean false) (member (codes "flights") (array (item (array (item (string (codes "MX")) (item (num 4000) (item (num 4004) no_items)))) no_items)) no_members)))
    (member (codes "cat8") (object (member (codes "charge") (num 0) (member (codes "max") (num 0) no_members)))
    (member (codes "rule") (num 3) no_members))))))

abbrev pub return : Rule
return = record free_rule {
  cat4 = Some (record { allow = false; flights = record { carrier = mx; low = 4000; high = 4004 } ∷ [] });
  cat8 = Some (record { max = 0; charge = 0; places = None });
  cat10 = Some (record { kinds = RoundTrip ∷ OpenJaw ∷ []; partners = partners.SameRule; end_on_end = joined.Free });
}

return_text : return_rule ≡ compact_text return_data
unfolding escape_byte digits
return_text = refl

return_spelled : (n : ℕ) → action_spelled n return_data ≡ Ok (PutRule mx 3 return)
unfolding carrier_of rule_of
return_spelled n = refl

return_back : ReadsBack return_data
return_back = record {
  numbers = ((tt, (((tt, ((tt, (tt, tt)), (tt, tt))), ((tt, (((tt, (IsNumber-decimal 4000 (omega arith), (IsNumber-decimal 4004 (omega arith), tt))), tt), tt)), ((IsNumber-decimal 0 (omega arith), (IsNumber-decimal 0 (omega arith), tt)), (IsNumber-decimal 3 (omega arith), tt)))))), tt);
  again = rw (number_of-decimal 4000 (omega arith), number_of-decimal 4004 (omega arith), number_of-decimal 0 (omega arith), number_of-decimal 3 (omega arith)) refl;
  nests = omega arith;
}

-- ---- days of one year

-- a date is not after a later one of its year
in_order : (y : ℤ) (m d n e : ℕ) → day_of_year y m d ≤ day_of_year y n e → int_le (days_from_civil y m d) (days_from_civil y n e) ≡ true
unfolding days_from_civil day_count
in_order y m d n e h = after (days_of_years (unsigned_abs (y +ℤ pos 10000))) (day_of_year y m d) (day_of_year y n e) (day_count (pos 1970) 1 1) h
  where
    after : (years a b start : ℕ) → a ≤ b → int_le (pos (years + (a - 1)) -ℤ pos start) (pos (years + (b - 1)) -ℤ pos start) ≡ true
    after years a b start h = let k : years + (a - 1) ≤ years + (b - 1) = omega (arith, h) in grind (arith, ints)

abbrev day_at : ℕ → ℕ → ℤ
day_at m d = days_from_civil (pos 2031) m d

-- ---- the second: half a year, a stay of thirty days at most, one transfer

abbrev season_data : Data
season_data =
    sole (codes "put_rule") (object (member (codes "carrier") (string (codes "MX"))
    (member (codes "cat3") (array (item (array (item (string (codes "2031-01-01")) (item (string (codes "2031-06-30")) no_items))) no_items))
    (member (codes "cat7") (num 30)
    (member (codes "cat9") (object (member (codes "max") (num 1) (member (codes "online") (boolean true) no_members)))
    (member (codes "rule") (num 2) no_members))))))

abbrev pub season : Rule
season = record free_rule { cat3 = Some (record { first = day_at 1 1; last = day_at 6 30 } ∷ []); cat7 = Some 30; cat9 = Some (record { max = 1; online = true }) }

season_text : season_rule ≡ compact_text season_data
unfolding escape_byte digits
season_text = refl

season_back : ReadsBack season_data
season_back = record {
  numbers = ((tt, ((((tt, (tt, tt)), tt)), (IsNumber-decimal 30 (omega arith), ((IsNumber-decimal 1 (omega arith), (tt, tt)), (IsNumber-decimal 2 (omega arith), tt))))), tt);
  again = rw (number_of-decimal 30 (omega arith), number_of-decimal 1 (omega arith), number_of-decimal 2 (omega arith)) refl;
  nests = omega arith;
}

half_a_year : day_of_year (pos 2031) 1 1 ≤ day_of_year (pos 2031) 6 30
unfolding days_of_months
half_a_year = omega arith

season_spelled : (n : ℕ) → action_spelled n season_data ≡ Ok (PutRule mx 2 season)
unfolding day_spelled carrier_of rule_of
season_spelled n = rw (in_order (pos 2031) 1 1 6 30 half_a_year) refl

-- ---- the fourth: March 2031, one carrier

abbrev march_data : Data
march_data =
    sole (codes "put_rule") (object (member (codes "carrier") (string (codes "MX"))
    (member (codes "cat10") (object (member (codes "end_on_end") (string (codes "same_carrier")) (member (codes "kinds") (array (item (string (codes "one_way")) (item (string (codes "round_trip")) no_items))) (member (codes "partners") (string (codes "any")) no_members))))
    (member (codes "cat14") (object (member (codes "by") (string (codes "2031-03-31")) (member (codes "ranges") (array (item (array (item (string (codes "2031-03-01")) (item (string (codes "2031-03-31")) no_items))) no_items)) no_members)))
    (member (codes "rule") (num 4) no_members)))))

abbrev pub march : Rule
march = record free_rule {
  cat10 = Some (record { kinds = OneWay ∷ RoundTrip ∷ []; partners = partners.Any; end_on_end = joined.SameCarrier });
  cat14 = Some (record { ranges = Some (record { first = day_at 3 1; last = day_at 3 31 } ∷ []); by = Some (day_at 3 31) });
}

march_text : march_rule ≡ compact_text march_data
unfolding escape_byte digits
march_text = refl

march_back : ReadsBack march_data
march_back = record {
  numbers = ((tt, ((tt, ((tt, (tt, tt)), (tt, tt))), ((tt, (((tt, (tt, tt)), tt), tt)), (IsNumber-decimal 4 (omega arith), tt)))), tt);
  again = rw (number_of-decimal 4 (omega arith)) refl;
  nests = omega arith;
}

march_spelled : (n : ℕ) → action_spelled n march_data ≡ Ok (PutRule mx 4 march)
unfolding day_spelled carrier_of rule_of
march_spelled n = rw (in_order (pos 2031) 3 1 3 31 (omega arith)) refl

-- ---- the four

-- an action before further text
begins : (d : Data) (a : Action) (text rest : List ℕ) → ReadsBack d → ((n : ℕ) → action_spelled n d ≡ Ok a) → text ≡ compact_text d → Begins (text ++ rest) a rest
begins d a text rest back spelled e = record { json = d; spells = record { back = back; spelled = spelled }; text_is = ap (λ t. t ++ rest) e }

pub weekend_begins : (rest : List ℕ) → Begins (weekend_rule ++ rest) (PutRule mx 1 weekend) rest
weekend_begins rest = begins weekend_data (PutRule mx 1 weekend) weekend_rule rest weekend_back weekend_spelled weekend_text

pub season_begins : (rest : List ℕ) → Begins (season_rule ++ rest) (PutRule mx 2 season) rest
season_begins rest = begins season_data (PutRule mx 2 season) season_rule rest season_back season_spelled season_text

pub return_begins : (rest : List ℕ) → Begins (return_rule ++ rest) (PutRule mx 3 return) rest
return_begins rest = begins return_data (PutRule mx 3 return) return_rule rest return_back return_spelled return_text

pub march_begins : (rest : List ℕ) → Begins (march_rule ++ rest) (PutRule mx 4 march) rest
march_begins rest = begins march_data (PutRule mx 4 march) march_rule rest march_back march_spelled march_text
