-- Parts of a rule within their limits are read again from their values.
use Rattle.std.proofs.Common.{◌≡◌, ◌<◌, ◌≤◌, ◌≤ℤ◌, ◌+◌, ℕ, ℤ, suc, int_le, true, false, List, [], ◌∷◌, length, Some, Result, Ok, refl, arith, sym, subst, ap}
use Rattle.std.proofs.lemmas.Bool.Decides.{nat_tests}
use Rattle.std.proofs.lemmas.Int.{ints}
use Rattle.serde_json.specs.Data.{Data, Items, no_items, item, array, number, unsigned, string, items_depth}
use Rattle.serde_json.specs.Written.{items_have_float}
use Rattle.fare_law.specs.Lists.{EachPair}
use Rattle.fare_law.specs.declared.names.Place.{Place}
use Rattle.fare_law.specs.declared.rules.CombineRule.{CombineRule}
use Rattle.fare_law.specs.declared.rules.DayRange.{DayRange}
use Rattle.fare_law.specs.declared.rules.DayTime.{DayTime}
use Rattle.fare_law.specs.declared.rules.FlightRange.{FlightRange}
use Rattle.fare_law.specs.declared.rules.FlightRule.{FlightRule}
use Rattle.fare_law.specs.declared.rules.MinStay.{MinStay}
use Rattle.fare_law.specs.declared.rules.Surcharge.{Surcharge}
use Rattle.fare_law.specs.declared.rules.TransferRule.{TransferRule}
use Rattle.fare_law.specs.declared.rules.UnitKind.{UnitKind}
use Rattle.market_time.specs.Clock.{minute_spelled}
use Rattle.market_time.specs.Dates.{day_spelled}
use Rattle.fare_law.specs.Limits.{IsPlace}
use Rattle.rule_text.specs.declared.fault.RuleFault.{RuleFault}
use Rattle.fare_law.specs.RuleLimits.{IsListOf, IsWeekday, IsDays, IsDayRange, IsDayTime, IsFlightRange, IsMinStay, IsSurcharge, IsTransferRule, IsCombineRule, rank_of_kind}
use Rattle.rule_text.specs.Members.{each_of, item_count, list_of}
use Rattle.rule_text.specs.Parts.{ascend, ascend_from, date_of, day_range_of, days_of, flight_range_of, place_form, weekday_of}
use Rattle.rule_text.specs.Rules.{combine_rule_of, day_time_of, end_on_end_spelled, flight_rule_of, min_stay_of, partners_spelled, surcharge_of, transfer_rule_of, unit_kind_of, unit_kind_spelled}
use Rattle.rule_text.specs.Again.{Spells}
use Rattle.rule_text.specs.Written.{combine_rule_data, day_range_data, day_time_data, flight_range_data, flight_rule_data, min_stay_data, surcharge_data, transfer_rule_data}
use Rattle.law_lemmas.proofs.Tests.{le_true}
use Rattle.name_text.proofs.TextLemmas.{carrier_again, place_again as place_named_again}

int_true : (a b : ℤ) → a ≤ℤ b → int_le a b ≡ true
int_true a b h = grind (arith, ints, nat_tests)

-- single values

pub weekday_again : (n : ℕ) (v : Data) → v ≡ number (unsigned n) → IsWeekday n → Spells 0 weekday_of n v
weekday_again n v e h =
    subst (λ (x : Data). Spells 0 weekday_of n x) (sym e)
    (record { again = rw (le_true 1 n h.0, le_true n 7 h.1) refl; no_float = refl; nests = omega arith })

pub days_again : (n : ℕ) (v : Data) → v ≡ number (unsigned n) → IsDays n → Spells 0 days_of n v
days_again n v e h =
    subst (λ (x : Data). Spells 0 days_of n x) (sym e)
    (record { again = rw (le_true 0 n (omega arith), le_true n 365 h) refl; no_float = refl; nests = omega arith })

pub date_again : (text : List ℕ) (day : ℤ) (v : Data) → v ≡ string text → day_spelled text ≡ Some day → Spells 0 date_of day v
date_again text day v e h =
    subst (λ (x : Data). Spells 0 date_of day x) (sym e) (record { again = rw h refl; no_float = refl; nests = omega arith })

pub place_again : (p : Place) (v : Data) → v ≡ string p.0 → IsPlace p → Spells 0 place_form p v
place_again p v e h =
    subst (λ (x : Data). Spells 0 place_form p x) (sym e)
    (record { again = rw (place_named_again p h) refl; no_float = refl; nests = omega arith })

pub unit_kind_again : (kind : UnitKind) (text : List ℕ) (v : Data) → v ≡ string text → unit_kind_spelled text ≡ Some kind → Spells 0 unit_kind_of kind v
unit_kind_again kind text v e h =
    subst (λ (x : Data). Spells 0 unit_kind_of kind x) (sym e) (record { again = rw h refl; no_float = refl; nests = omega arith })

-- ranges

pub day_range_again : (r : DayRange) (first last : List ℕ) (v : Data) → v ≡ day_range_data first last
    → day_spelled first ≡ Some r.first → day_spelled last ≡ Some r.last → IsDayRange r → Spells 1 day_range_of r v
day_range_again r first last v e one other h =
    subst (λ (x : Data). Spells 1 day_range_of r x) (sym e)
    (record { again = rw (one, other, int_true r.first r.last h.in_turn) refl; no_float = refl; nests = omega arith })

pub flight_range_again : (r : FlightRange) (v : Data) → v ≡ flight_range_data r.carrier.0 r.low r.high → IsFlightRange r → Spells 1 flight_range_of r v
flight_range_again r v e h =
    subst (λ (x : Data). Spells 1 flight_range_of r x) (sym e)
    (record {
      again = rw (
        carrier_again r.carrier h.carrier,
        le_true 1 r.low h.low,
        le_true r.low 9999 (let a = h.in_turn in let b = h.high in omega arith),
        le_true 1 r.high (let a = h.in_turn in let b = h.low in omega arith),
        le_true r.high 9999 h.high,
        le_true r.low r.high h.in_turn,
      ) refl;
      no_float = refl;
      nests = omega arith;
    })

-- lists

-- each value is read as the item at its place
abbrev pub SpellsEach : {A : Type 0} → ℕ → (Data → Result A RuleFault) → List A → Items → Type 0
SpellsEach levels form [] no_items = Unit {0}
SpellsEach levels form [] (item d ds) = ⊥
SpellsEach levels form (x ∷ xs) no_items = ⊥
SpellsEach levels form (x ∷ xs) (item d ds) = Spells levels form x d × SpellsEach levels form xs ds

module _ {A : Type 0} (levels : ℕ) (form : Data → Result A RuleFault) where
  each_again : (xs : List A) (ds : Items) → SpellsEach levels form xs ds → each_of form ds ≡ Ok xs
  each_again [] no_items h = refl
  each_again [] (item d ds) h = absurd h
  each_again (x ∷ xs) no_items h = absurd h
  each_again (x ∷ xs) (item d ds) h = rw (h.0.again, each_again xs ds h.1) refl

  count_again : (xs : List A) (ds : Items) → SpellsEach levels form xs ds → item_count ds ≡ length xs
  count_again [] no_items h = refl
  count_again [] (item d ds) h = absurd h
  count_again (x ∷ xs) no_items h = absurd h
  count_again (x ∷ xs) (item d ds) h = ap suc (count_again xs ds h.1)

  no_floats : (xs : List A) (ds : Items) → SpellsEach levels form xs ds → items_have_float ds ≡ false
  no_floats [] no_items h = refl
  no_floats [] (item d ds) h = absurd h
  no_floats (x ∷ xs) no_items h = absurd h
  no_floats (x ∷ xs) (item d ds) h = rw (h.0.no_float) (no_floats xs ds h.1)

  each_nests : (xs : List A) (ds : Items) → SpellsEach levels form xs ds → items_depth ds ≤ levels
  each_nests [] no_items h = omega arith
  each_nests [] (item d ds) h = absurd h
  each_nests (x ∷ xs) no_items h = absurd h
  each_nests (x ∷ xs) (item d ds) h = let a = h.0.nests in let b = each_nests xs ds h.1 in omega arith

pub list_again : {A : Type 0} (levels most : ℕ) (form : Data → Result A RuleFault) (P : A → Type 0) (xs : List A) (ds : Items) (v : Data)
    → v ≡ array ds → SpellsEach levels form xs ds → IsListOf most P xs → Spells (levels + 1) (list_of most form) xs v
list_again levels most form P xs ds v e h l =
    subst (λ (x : Data). Spells (levels + 1) (list_of most form) xs x) (sym e)
    (record {
      again = rw (
        count_again levels form xs ds h,
        le_true 1 (length xs) l.count.0,
        le_true (length xs) most l.count.1,
        each_again levels form xs ds h,
      ) refl;
      no_float = no_floats levels form xs ds h;
      nests = let a = each_nests levels form xs ds h in omega arith;
    })

module _ {A : Type 0} (rank : A → ℕ) where
  ascends : (x : A) (xs : List A) (least : ℕ) → least ≤ rank x → EachPair (λ one other. rank one < rank other) (x ∷ xs) → ascend_from rank least (x ∷ xs) ≡ true
  ascends x [] least h p = rw (le_true least (rank x) h) refl
  ascends x (y ∷ ys) least h p = rw (le_true least (rank x) h) (ascends y ys (rank x + 1) (let a = p.0 in omega arith) p.1)

  ascend_again : (xs : List A) → EachPair (λ one other. rank one < rank other) xs → ascend rank xs ≡ true
  ascend_again [] p = refl
  ascend_again (x ∷ xs) p = ascends x xs 0 (omega arith) p

-- categories

pub day_time_again : (t : DayTime) (days v : Data) (from to : List ℕ) → v ≡ day_time_data days from to → Spells 1 (list_of 7 weekday_of) t.days days
    → minute_spelled from ≡ Some t.from → minute_spelled to ≡ Some t.to → IsDayTime t → Spells 2 day_time_of t v
day_time_again t days v from to e d one other h =
    subst (λ (x : Data). Spells 2 day_time_of t x) (sym e)
    (record {
      again = rw (d.again, one, other, ascend_again (λ day. day) t.days h.ascending, le_true t.from t.to h.in_turn) refl;
      no_float = rw (d.no_float) refl;
      nests = let a = d.nests in omega arith;
    })

pub flight_rule_again : (r : FlightRule) (flights v : Data) → v ≡ flight_rule_data r.allow flights → Spells 2 (list_of 16 flight_range_of) r.flights flights → Spells 3 flight_rule_of r v
flight_rule_again r flights v e d =
    subst (λ (x : Data). Spells 3 flight_rule_of r x) (sym e)
    (record { again = rw (d.again) refl; no_float = rw (d.no_float) refl; nests = let a = d.nests in omega arith })

pub min_stay_again : (r : MinStay) (v : Data) → v ≡ min_stay_data r.days r.sunday → IsMinStay r → Spells 1 min_stay_of r v
min_stay_again r v e h =
    subst (λ (x : Data). Spells 1 min_stay_of r x) (sym e)
    (record { again = rw (le_true 0 r.days (omega arith), le_true r.days 365 h) refl; no_float = refl; nests = omega arith })

pub transfer_rule_again : (r : TransferRule) (v : Data) → v ≡ transfer_rule_data r.max r.online → IsTransferRule r → Spells 1 transfer_rule_of r v
transfer_rule_again r v e h =
    subst (λ (x : Data). Spells 1 transfer_rule_of r x) (sym e)
    (record { again = rw (le_true 0 r.max (omega arith), le_true r.max 3 h) refl; no_float = refl; nests = omega arith })

pub combine_rule_again : (r : CombineRule) (kinds v : Data) (end_on_end partners : List ℕ) → v ≡ combine_rule_data end_on_end kinds partners
    → Spells 1 (list_of 4 unit_kind_of) r.kinds kinds → partners_spelled partners ≡ Some r.partners → end_on_end_spelled end_on_end ≡ Some r.end_on_end
    → IsCombineRule r → Spells 2 combine_rule_of r v
combine_rule_again r kinds v end_on_end partners e d one other h =
    subst (λ (x : Data). Spells 2 combine_rule_of r x) (sym e)
    (record {
      again = rw (d.again, one, other, ascend_again rank_of_kind r.kinds h.in_order) refl;
      no_float = rw (d.no_float) refl;
      nests = let a = d.nests in omega arith;
    })

pub surcharge_again : (s : Surcharge) (first last : List ℕ) (v : Data) → v ≡ surcharge_data s.amount s.carrier.0 first s.high last s.low
    → day_spelled first ≡ Some s.first → day_spelled last ≡ Some s.last → IsSurcharge s → Spells 1 surcharge_of s v
surcharge_again s first last v e one other h =
    subst (λ (x : Data). Spells 1 surcharge_of s x) (sym e)
    (record {
      again = rw (
        carrier_again s.carrier h.carrier,
        le_true 1 s.low h.low,
        le_true s.low 9999 (let a = h.flights_in_turn in let b = h.high in omega arith),
        le_true 1 s.high (let a = h.flights_in_turn in let b = h.low in omega arith),
        le_true s.high 9999 h.high,
        one,
        other,
        le_true 0 s.amount (omega arith),
        le_true s.amount 1000000 h.amount,
        le_true s.low s.high h.flights_in_turn,
        int_true s.first s.last h.days_in_turn,
      ) refl;
      no_float = refl;
      nests = omega arith;
    })
