-- The tables of flights as more of them are kept.
use Rattle.std.proofs.Common.{◌≡◌, ◌⊎◌, ℕ, suc, ◌<◌, List, [], ◌∷◌, ◌++◌, length, get_or, set, length-append, slice_get, Some, Vec, refl, sym, ap, subst, ◌∙◌, inl, inr, arith}
use Rattle.std.specs.declared.alloc.Global.{Global}
use Rattle.fare_ends.specs.Ends.{IsRange, between}
use Rattle.fare_ends.proofs.BitFacts.{same_or_not}
use Rattle.fare_ends.proofs.Ranges.{between_last, between_more, got_more, range_last, range_more}
use Rattle.fare_law.specs.Lists.{Each, IsPrefix}
use Rattle.law_lemmas.proofs.EachOne.{each_got, each_more, each_weaker}
use Rattle.law_lemmas.proofs.Lists.{got_last, got_read, got_within, prefix_self, read_got}
use Rattle.law_lemmas.proofs.Options.{none_some, some_one}
use Rattle.outline_tables.specs.declared.flight_tables.FlightTables.{FlightTables}
use Rattle.outline_tables.specs.declared.flight_tables.TableRange.{TableRange}
use Rattle.outline_tables.specs.declared.outline_numbers.Priced.{Priced}
use Rattle.outline_tables.specs.FlightTables.{AreRanges, HasPlace, HasRoom, HasTable, KeepsLevels, KeepsPlaces, KeepsTables, NumberStands, PutsTable, SetsPlace, TableStands}
use Rattle.outline_tables.proofs.Putting.{got_or_last, got_some, set_here, set_there}

abbrev pub Places : Type 0
Places = Vec ℕ Global

-- a level without places is added
pub level_added : (levels : List Places) (more : Places) → more.items ≡ [] → KeepsLevels levels (levels ++ more ∷ [])
level_added levels more e level flight number s = elim (got_or_last levels more level s.places s.level_is) [
  | inl h ↦ record { places = s.places; level_is = h; place = s.place }
  | inr h ↦ absurd (none_some (suc number) (sym (ap (λ ps. slice_get ps flight) (ap (λ (v : Places). v.items) h.1 ∙ e)) ∙ s.place))
]

-- a place without a table is added
pub place_added : (places : List ℕ) → KeepsPlaces places (places ++ 0 ∷ [])
place_added places flight number e = elim (got_or_last places 0 flight (suc number) e) [
  | inl h ↦ h
  | inr h ↦ let y = h.1 in absurd (omega (arith, y))
]

pub levels_on : (first old new : List Places) → KeepsLevels first old → KeepsLevels old new → KeepsLevels first new
levels_on first old new h k level flight number s = h level flight number (k level flight number s)

pub places_on : (first old new : List ℕ) → KeepsPlaces first old → KeepsPlaces old new → KeepsPlaces first new
places_on first old new h k flight number e = h flight number (k flight number e)

-- a number of a level that was set is of that level or of another
set_number : (levels : List Places) (at : ℕ) (old new : Places) → slice_get levels at ≡ Some old → (level flight number : ℕ) → NumberStands (set levels at new) level flight number
    → NumberStands levels level flight number ⊎ ((level ≡ at) × (slice_get new.items flight ≡ Some (suc number)))
set_number levels at old new e level flight number s = elim (same_or_not level at) [
  | inl y ↦
      let here : slice_get (set levels at new) level ≡ Some new = ap (slice_get (set levels at new)) y ∙ set_here levels at old new e in
      let own : s.places ≡ new = some_one (slice_get (set levels at new) level) s.places new s.level_is here in
      inr (y, ap (λ (v : Places). slice_get v.items flight) (sym own) ∙ s.place)
  | inr n ↦ inl (record { places = s.places; level_is = sym (set_there levels at level new n) ∙ s.level_is; place = s.place })
]

-- a level whose places keep theirs
pub level_kept : (levels : List Places) (at : ℕ) (old new : Places) → slice_get levels at ≡ Some old → KeepsPlaces old.items new.items → KeepsLevels levels (set levels at new)
level_kept levels at old new e keeps level flight number s = elim (set_number levels at old new e level flight number s) [
  | inl h ↦ h
  | inr h ↦ record { places = old; level_is = ap (slice_get levels) h.0 ∙ e; place = keeps flight number h.1 }
]

pub level_room : (levels : List Places) (at flight : ℕ) (old new : Places) → slice_get levels at ≡ Some old → flight < length new.items → HasRoom (set levels at new) at flight
level_room levels at flight old new e lt = record { places = new; level_is = set_here levels at old new e; within = lt }

-- a number is set at a place of a level
number_set : (levels : List Places) (at of place : ℕ) (old new : Places) → slice_get levels at ≡ Some old → of < length old.items → new.items ≡ set old.items of place → (level flight number : ℕ) → NumberStands (set levels at new) level flight number
    → NumberStands levels level flight number ⊎ ((level ≡ at) × (flight ≡ of) × (suc number ≡ place))
number_set levels at of place old new e lt is level flight number s = elim (set_number levels at old new e level flight number s) [
  | inl h ↦ inl h
  | inr h ↦
      let there : slice_get (set old.items of place) flight ≡ Some (suc number) = ap (λ ps. slice_get ps flight) (sym is) ∙ h.1 in
      elim (same_or_not flight of) [
        | inl y ↦
            let own : slice_get (set old.items of place) flight ≡ Some place = ap (slice_get (set old.items of place)) y ∙ set_here old.items of (get_or old.items of 0) place (got_read old.items of 0 lt) in
            inr (h.0, y, some_one (slice_get (set old.items of place) flight) (suc number) place there own)
        | inr n ↦ inl (record { places = old; level_is = ap (slice_get levels) h.0 ∙ e; place = sym (set_there old.items of flight place n) ∙ there })
      ]
]

number_there : (levels : List Places) (at of number : ℕ) (old new : Places) → slice_get levels at ≡ Some old → of < length old.items → new.items ≡ set old.items of (suc number) → NumberStands (set levels at new) at of number
number_there levels at of number old new e lt is = record {
  places = new;
  level_is = set_here levels at old new e;
  place = ap (λ ps. slice_get ps of) is ∙ set_here old.items of (get_or old.items of 0) (suc number) (got_read old.items of 0 lt);
}

one_less : (m n : ℕ) → suc m ≡ suc n → m ≡ n
one_less m n e = omega (arith, e)

-- one table has a number
one_table : (kept : FlightTables) (one other : List Priced) (number : ℕ) → HasTable kept one number → HasTable kept other number → one ≡ other
one_table kept one other number h k =
    let same = some_one (slice_get kept.ranges.items number) h.range k.range h.stands k.stands in
    h.is ∙ ap (λ (r : TableRange). between kept.entries.items r.from r.to) same ∙ sym k.is

-- a list that is the same begins the other
pub all_of : {X : Type 0} (xs ys : List X) → ys ≡ xs → IsPrefix xs ys
all_of xs ys e = subst (IsPrefix xs) (sym e) (prefix_self xs)

-- what was kept stands as more entries and ranges are
pub tables_kept : (old new : FlightTables) → AreRanges old → new.places ≡ old.places → IsPrefix old.entries.items new.entries.items → IsPrefix old.ranges.items new.ranges.items → KeepsTables old new
tables_kept old new are places entries ranges level flight table s =
    let stands : NumberStands old.places.items level flight s.number = subst (λ (ls : Vec Places Global). NumberStands ls.items level flight s.number) places s.stands in
    let r = got_some old.ranges.items s.number (are.numbers level flight s.number stands) in
    let in_new = got_more old.ranges.items new.ranges.items s.number r.0 ranges r.1 in
    let same = some_one (slice_get new.ranges.items s.number) s.has.range r.0 s.has.stands in_new in
    let one = each_got (λ (r : TableRange). IsRange old.entries.items r.from r.to) old.ranges.items s.number r.0 are.each r.1 in
    record {
      number = s.number;
      stands = stands;
      has = record {
        range = r.0;
        stands = r.1;
        is = s.has.is ∙ ap (λ (r : TableRange). between new.entries.items r.from r.to) same ∙ between_more old.entries.items new.entries.items r.0.from r.0.to entries one;
      };
    }

-- the ranges are as more entries are kept
pub ranges_kept : (old new : FlightTables) → AreRanges old → new.places ≡ old.places → new.ranges.items ≡ old.ranges.items → IsPrefix old.entries.items new.entries.items → AreRanges new
ranges_kept old new are places ranges entries = record {
  each = subst (Each (λ (r : TableRange). IsRange new.entries.items r.from r.to)) (sym ranges)
      (each_weaker (λ (r : TableRange). IsRange old.entries.items r.from r.to) (λ (r : TableRange). IsRange new.entries.items r.from r.to) (λ r h. range_more old.entries.items new.entries.items r.from r.to entries h) old.ranges.items are.each);
  numbers = λ level flight number s.
      subst (λ rs. number < length rs) (sym ranges) (are.numbers level flight number (subst (λ (ls : Vec Places Global). NumberStands ls.items level flight number) places s));
}

-- and one range more
pub ranges_added : (old new : FlightTables) (table : List Priced) (r : TableRange) → AreRanges old → new.places ≡ old.places → new.entries.items ≡ old.entries.items ++ table → new.ranges.items ≡ old.ranges.items ++ r ∷ []
    → r.from ≡ length old.entries.items → r.to ≡ length (old.entries.items ++ table) → AreRanges new
ranges_added old new table r are places entries ranges from to = record {
  each = subst (Each Holds) (sym ranges) (each_more Holds old.ranges.items r (each_weaker (λ (r : TableRange). IsRange old.entries.items r.from r.to) Holds more old.ranges.items are.each)
      (subst (λ es. IsRange es r.from r.to) (sym entries) (range_last old.entries.items table r.from r.to from to)));
  numbers = λ level flight number s.
      let lt = are.numbers level flight number (subst (λ (ls : Vec Places Global). NumberStands ls.items level flight number) places s) in
      subst (λ rs. number < length rs) (sym ranges) (longer old.ranges.items number lt);
}
  where
    Holds : TableRange → Type 0
    Holds r = IsRange new.entries.items r.from r.to

    more : (r : TableRange) → IsRange old.entries.items r.from r.to → Holds r
    more r h = range_more old.entries.items new.entries.items r.from r.to (table, entries) h

    longer : (rs : List TableRange) (n : ℕ) → n < length rs → n < length (rs ++ r ∷ [])
    longer rs n lt = let l = length-append rs (r ∷ []) in omega (arith, lt, l)

pub table_added : (old new : FlightTables) (table : List Priced) (r : TableRange) (place : ℕ) → new.entries.items ≡ old.entries.items ++ table → new.ranges.items ≡ old.ranges.items ++ r ∷ []
    → r.from ≡ length old.entries.items → r.to ≡ length (old.entries.items ++ table) → place ≡ length (old.ranges.items ++ r ∷ []) → HasPlace new table place
table_added old new table r place entries ranges from to is = record {
  number = length old.ranges.items;
  is = let l = length-append old.ranges.items (r ∷ []) in let p : place ≡ suc (length old.ranges.items) = omega (arith, is, l) in p;
  has = record {
    range = r;
    stands = ap (λ rs. slice_get rs (length old.ranges.items)) ranges ∙ got_last old.ranges.items r;
    is = sym (ap (λ es. between es r.from r.to) entries ∙ between_last old.entries.items table r.from r.to from to);
  };
}

-- room is made for a number
pub room_ranges : (old new : FlightTables) → new.ranges ≡ old.ranges → new.entries ≡ old.entries → KeepsLevels old.places.items new.places.items → AreRanges old → AreRanges new
room_ranges old new ranges entries keeps are = record {
  each = subst (λ (es : Vec Priced Global). Each (λ (r : TableRange). IsRange es.items r.from r.to) new.ranges.items) (sym entries)
      (subst (λ (rs : Vec TableRange Global). Each (λ (r : TableRange). IsRange old.entries.items r.from r.to) rs.items) (sym ranges) are.each);
  numbers = λ level flight number s. subst (λ (rs : Vec TableRange Global). number < length rs.items) (sym ranges) (are.numbers level flight number (keeps level flight number s));
}

-- a table is the same where no entry and no range is another
same_table : (old new : FlightTables) → new.ranges ≡ old.ranges → new.entries ≡ old.entries → (table : List Priced) (number : ℕ) → HasTable new table number → HasTable old table number
same_table old new ranges entries table number h = record {
  range = h.range;
  stands = ap (λ (rs : Vec TableRange Global). slice_get rs.items number) (sym ranges) ∙ h.stands;
  is = h.is ∙ ap (λ (es : Vec Priced Global). between es.items h.range.from h.range.to) entries;
}

room_place : (old new : FlightTables) → new.ranges ≡ old.ranges → new.entries ≡ old.entries → (table : List Priced) (place : ℕ) → HasPlace old table place → HasPlace new table place
room_place old new ranges entries table place h = record { number = h.number; is = h.is; has = same_table new old (sym ranges) (sym entries) table h.number h.has }

pub room_keeps : (old new : FlightTables) → new.ranges ≡ old.ranges → new.entries ≡ old.entries → KeepsLevels old.places.items new.places.items → KeepsTables old new
room_keeps old new ranges entries keeps level flight table s = record {
  number = s.number;
  stands = keeps level flight s.number s.stands;
  has = same_table old new ranges entries table s.number s.has;
}

-- there is such a level, and such a place of it
pub room_within : (levels : List Places) (at of : ℕ) → HasRoom levels at of → at < length levels
room_within levels at of room = got_within levels at room.places room.level_is

pub room_place_within : (levels : List Places) (at of : ℕ) (one : Places) → HasRoom levels at of → one ≡ get_or levels at one → of < length one.items
room_place_within levels at of one room is =
    let one_there : slice_get levels at ≡ Some one = read_got levels at one one (got_within levels at room.places room.level_is) is in
    subst (λ (v : Places). of < length v.items) (some_one (slice_get levels at) room.places one room.level_is one_there) room.within

-- a number is set at a place
pub place_set : (levels : List Places) (at of place : ℕ) (one other : Places) → HasRoom levels at of → one ≡ get_or levels at one → other.items ≡ set one.items of place → SetsPlace levels (set levels at other) at of place
place_set levels at of place one other room is set_is =
    let one_there : slice_get levels at ≡ Some one = read_got levels at one one (got_within levels at room.places room.level_is) is in
    let within = room_place_within levels at of one room is in
    record {
      only = λ level flight number s. number_set levels at of place one other one_there within set_is level flight number s;
      there = λ number e. number_there levels at of number one other one_there within (set_is ∙ ap (set one.items of) e);
    }

put_ranges : (old new : FlightTables) (table : List Priced) (at of place : ℕ) → new.ranges ≡ old.ranges → new.entries ≡ old.entries → AreRanges old → HasPlace old table place → SetsPlace old.places.items new.places.items at of place → AreRanges new
put_ranges old new table at of place ranges entries are has puts = record {
  each = subst (λ (es : Vec Priced Global). Each (λ (r : TableRange). IsRange es.items r.from r.to) new.ranges.items) (sym entries)
      (subst (λ (rs : Vec TableRange Global). Each (λ (r : TableRange). IsRange old.entries.items r.from r.to) rs.items) (sym ranges) are.each);
  numbers = λ level flight number s. subst (λ (rs : Vec TableRange Global). number < length rs.items) (sym ranges) (elim (puts.only level flight number s) [
    | inl h ↦ are.numbers level flight number h
    | inr h ↦ subst (λ n. n < length old.ranges.items) (sym (one_less number has.number (h.2 ∙ has.is))) (got_within old.ranges.items has.number has.has.range has.has.stands)
  ]);
}

put_tables : (first old new : FlightTables) (table : List Priced) (at of place : ℕ) → new.ranges ≡ old.ranges → new.entries ≡ old.entries → KeepsTables first old → HasPlace old table place → SetsPlace old.places.items new.places.items at of place → PutsTable at of table first new
put_tables first old new table at of place ranges entries keeps has puts level flight other s = elim (puts.only level flight s.number s.stands) [
  | inl h ↦ inl (keeps level flight other (record { number = s.number; stands = h; has = same_table old new ranges entries other s.number s.has }))
  | inr h ↦
      let had = same_table old new ranges entries other s.number s.has in
      inr (h.0, h.1, one_table old other table has.number (subst (HasTable old other) (one_less s.number has.number (h.2 ∙ has.is)) had) has.has)
]

put_stands : (old new : FlightTables) (table : List Priced) (at of place : ℕ) → new.ranges ≡ old.ranges → new.entries ≡ old.entries → HasPlace old table place → SetsPlace old.places.items new.places.items at of place → TableStands new at of table
put_stands old new table at of place ranges entries has puts = record {
  number = has.number;
  stands = puts.there has.number has.is;
  has = same_table new old (sym ranges) (sym entries) table has.number has.has;
}

-- the table of a flight is put in, and nothing else is another
pub record IsPut (first new : FlightTables) (table : List Priced) (at of : ℕ) : Type 0 where
  pub ranges : AreRanges new
  pub tables : PutsTable at of table first new
  pub stands : TableStands new at of table

-- so it is once it is added, room is made and its place is set
pub is_put : (first added new : FlightTables) (levels : Vec Places Global) (table : List Priced) (at of place : ℕ) → new.ranges ≡ added.ranges → new.entries ≡ added.entries → AreRanges added → KeepsTables first added → HasPlace added table place
    → KeepsLevels added.places.items levels.items → SetsPlace levels.items new.places.items at of place → IsPut first new table at of
is_put first added new levels table at of place ranges entries are keeps has kept sets =
    let roomed : FlightTables = record { places = levels; ranges = added.ranges; entries = added.entries } in
    let placed = room_place added roomed refl refl table place has in
    let on : KeepsTables first roomed = λ level flight other s. keeps level flight other (room_keeps added roomed refl refl kept level flight other s) in
    record {
      ranges = put_ranges roomed new table at of place ranges entries (room_ranges added roomed refl refl kept are) placed sets;
      tables = put_tables first roomed new table at of place ranges entries on placed sets;
      stands = put_stands roomed new table at of place ranges entries placed sets;
    }
