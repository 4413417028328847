-- The groups of a market on one path give its outlines, with their least prices. Given on to the crates above.
use Rattle.std.proofs.Common.{◌≡◌, ℕ, ◌+◌, ◌<◌, ◌≤◌, Bool, List, Option, Some, None, slice_get, IsBitSet, refl, sym, ap, subst, ◌∙◌, arith}
use Rattle.fare_groups.specs.declared.group.FareGroup.{FareGroup}
use Rattle.fare_groups.specs.declared.group.GroupKey.{GroupKey}
use Rattle.fare_groups.specs.declared.group.GroupedFare.{GroupedFare}
use Rattle.fare_groups.specs.Grouping.{Cheapest, IsRowOf, StandsOnce, fare_at}
use Rattle.fare_groups.specs.Groups.{HasClass, Permits, extra_of, group_of, share_of}
use Rattle.fare_groups.proofs.ByGroup.{offered_by_group, priced_by_group}
use Rattle.fare_groups.proofs.OneGroup.{each_stands_once, fares_are_rows}
use Rattle.fare_law.specs.declared.flights.Flight.{Flight}
use Rattle.fare_law.specs.declared.requests.Request.{Request}
use Rattle.fare_law.specs.declared.rules.Rule.{Rule}
use Rattle.fare_law.specs.declared.sheets.Leg.{Leg}
use Rattle.fare_law.specs.declared.sheets.SheetRow.{SheetRow}
use Rattle.fare_law.specs.Book.{Book, live_rule}
use Rattle.fare_law.specs.Lists.{IsIn, OnFirst, OnLast}
use Rattle.fare_law.specs.Offers.{HasDirection, flights_of, row_price}
use Rattle.fare_law.specs.Parts.{Numbers}
use Rattle.fare_law.specs.Sheets.{IsLiveRow, Sheet}
use Rattle.flight_paths.specs.declared.positions.Path.{Path}
use Rattle.flight_paths.specs.declared.positions.Position.{Position}
use Rattle.flight_paths.specs.Positions.{Flies, IsPath}
use Rattle.outlines.specs.declared.outline.Outline.{Outline}
use Rattle.outlines.specs.ByGroups.{GroupsCover, GroupsGive, IsCovered, OverMarket, OutlineOver}
use Rattle.outlines.specs.Outlines.{OfferedAs, Outlined}
use Rattle.outlines.proofs.Offering.{filed_over, keyed, move_with, offers_give, outlines_ask}
use Rattle.residual_keys.specs.Gathered.{AreLegs, FiledOver}
use Rattle.residual_keys.proofs.Offered.{filed_market, market_filed}
use Rattle.residual_keys.proofs.OneNext.{flies_one}
use Rattle.residual_keys.proofs.Runs.{flies_numbers}
use Rattle.residual_keys.proofs.StepFacts.{key_directed}
use Rattle.law_lemmas.proofs.EachOne.{each_in}
use Rattle.law_lemmas.proofs.LawFacts.{numbers_one}
use Rattle.law_lemmas.proofs.Members.{got_in, in_got}
use Rattle.law_lemmas.proofs.Options.{some_one}

module _ (b : Book) (q : Request) (at : Position) (path : Path) (fs : List Flight) (legs : List Leg) (classes : ℕ) (reverse : Bool) (sheet : Sheet) (groups : List FareGroup) (is : OverMarket b q at path fs legs classes reverse sheet groups) where
  -- a row of the sheet is live, filed over the flights, and of a class below 32
  live_of : (row : SheetRow) → IsIn row sheet.rows → IsLiveRow b sheet.from sheet.to row
  live_of row i = (is.sheet_is.live row).0 i

  class_low : (row : SheetRow) → IsIn row sheet.rows → row.fare.class < 32
  class_low row i = let class = (is.limited.fares row.fare.key row.fare (live_of row i).fare).1.class in omega (arith, class)

  filed_of : (row : SheetRow) → IsIn row sheet.rows → FiledOver reverse fs row.fare.key
  filed_of row i = market_filed reverse fs sheet.from sheet.to row.fare.key is.market (live_of row i).filed_from (live_of row i).filed_to

  directed : (row : SheetRow) → IsIn row sheet.rows → HasDirection row.fare.key (flights_of legs)
  directed row i = subst (HasDirection row.fare.key) (sym is.legs_are.flights) (key_directed (move_with row.fare.key reverse) fs row.fare.key (keyed row.fare.key reverse fs (filed_of row i)))

  -- the rule of a group is that of each of its rows
  rule_of : (row : SheetRow) → IsIn row sheet.rows → (key : GroupKey) → group_of row ≡ key → (rule : Rule) → live_rule b key.carrier key.number ≡ Some rule → row.rule ≡ rule
  rule_of row i key k rule live = some_one (live_rule b key.carrier key.number) row.rule rule (subst (λ (x : GroupKey). live_rule b x.carrier x.number ≡ Some row.rule) k (live_of row i).rule) live

  give : (g : FareGroup) → IsIn g groups → (rule : Rule) → live_rule b g.key.carrier g.key.number ≡ Some rule → Permits rule g.key.carrier fs → (least : ℕ) → Cheapest classes g.fares (Some least) → (o : Outline) → OutlineOver o path.after fs g.key reverse → Outlined b q at o (least + extra_of rule fs)
  give g j rule live permits least cheap o over = offers_give b q at path.flights fs legs row o (least + extra_of rule fs) (class_low row i) (record {
    path = subst (λ a. IsPath b q.slices at path.flights fs a) (sym over.after_is) is.path_is;
    legs_are = is.legs_are;
    offered = record {
      fare = (live_of row i).fare;
      rule = (live_of row i).rule;
      filed = subst (λ t. FiledOver t fs row.fare.key) (sym over.reverse_is) (filed_of row i);
      offered = (offered_by_group g.key rule legs row x.key_is same (directed row i)).1 (subst (Permits rule g.key.carrier) (sym is.legs_are.flights) permits, open_class);
      costs = ap (λ n. n + extra_of rule fs) share_is ∙ sym (priced_by_group rule fs row same);
    };
    agrees = record {
      carrier = over.carrier ∙ ap (λ (k : GroupKey). k.carrier) (sym x.key_is);
      number = over.number ∙ ap (λ (k : GroupKey). k.number) (sym x.key_is);
      kind = over.kind ∙ ap (λ (k : GroupKey). k.kind) (sym x.key_is);
      first = over.first;
      ends = over.ends;
    };
  })
    where
      x : IsRowOf sheet.rows g.key cheap.fare
      x = fares_are_rows sheet.rows groups is.groups_are g j cheap.fare cheap.within

      row : SheetRow
      row = x.row

      i : IsIn row sheet.rows
      i = got_in sheet.rows cheap.fare.place row x.stands

      same : row.rule ≡ rule
      same = rule_of row i g.key x.key_is rule live

      class_is : cheap.fare.class ≡ row.fare.class
      class_is = ap (λ (f : GroupedFare). f.class) x.fare

      open_class : HasClass row.fare.class legs
      open_class = (is.classes_are row.fare.class (class_low row i)).0 (subst (IsBitSet classes) class_is cheap.open_class)

      share_is : least ≡ share_of row
      share_is = sym cheap.costs ∙ ap (λ (f : GroupedFare). f.share) x.fare

  cover : (o : Outline) (price : ℕ) (h : Outlined b q at o price) → h.numbers ≡ path.flights → o.reverse ≡ reverse → IsCovered b path fs classes reverse groups o price
  cover o price h numbers way = record {
    group = once.group;
    within = once.within;
    outline = record {
      after_is = after_is;
      first = subst (OnFirst (λ f. o.first ≡ f.day)) fs_is asked.agrees.first;
      ends = subst (OnLast (λ f. (o.end ≡ f.to) × (o.last ≡ f.day))) fs_is asked.agrees.ends;
      carrier = asked.agrees.carrier ∙ ap (λ (k : GroupKey). k.carrier) (sym once.key);
      number = asked.agrees.number ∙ ap (λ (k : GroupKey). k.number) (sym once.key);
      kind = asked.agrees.kind ∙ ap (λ (k : GroupKey). k.kind) (sym once.key);
      reverse_is = way;
    };
    rule = row.rule;
    live = subst (λ (k : GroupKey). live_rule b k.carrier k.number ≡ Some row.rule) (sym once.key) h.stands.rule;
    permits = subst (Permits row.rule once.group.key.carrier) is.legs_are.flights parts.0;
    below = λ cheapest c. below cheapest c;
  }
    where
      row : SheetRow
      row = record { fare = h.piece.fare; rule = h.piece.rule }

      fs_is : h.flights ≡ fs
      fs_is = numbers_one b path.flights h.flights fs (subst (λ ns. Numbers b ns h.flights) numbers (flies_numbers b q.slices (Some at) o.after h.numbers h.flights h.path.flies)) (flies_numbers b q.slices (Some at) path.after path.flights fs is.path_is.flies)

      after_is : o.after ≡ path.after
      after_is = flies_one b q.slices (Some at) path.flights fs o.after path.after (subst (λ gs. Flies b q.slices (Some at) path.flights gs o.after) fs_is (subst (λ ns. Flies b q.slices (Some at) ns h.flights o.after) numbers h.path.flies)) is.path_is.flies

      filed : FiledOver reverse fs row.fare.key
      filed = subst (λ gs. FiledOver reverse gs row.fare.key) fs_is (filed_over b q h.flights h.piece reverse (sym h.outline.reverse ∙ way) h.stands)

      market : (row.fare.key.from ≡ sheet.from) × (row.fare.key.to ≡ sheet.to)
      market = filed_market reverse fs sheet.from sheet.to row.fare.key is.market filed

      i : IsIn row sheet.rows
      i = (is.sheet_is.live row).1 (record { filed_from = market.0; filed_to = market.1; fare = h.stands.fare; rule = h.stands.rule })

      asked : OfferedAs b q at h.numbers h.flights legs row o price
      asked = outlines_ask b q at o price h legs (class_low row i) (subst (λ gs. AreLegs b q gs legs) (sym fs_is) is.legs_are)

      place : (n : ℕ) × (slice_get sheet.rows n ≡ Some row)
      place = in_got sheet.rows row i

      once : StandsOnce place.0 row groups
      once = each_stands_once sheet.rows groups is.groups_are place.0 row place.1

      parts : Permits row.rule once.group.key.carrier (flights_of legs) × HasClass row.fare.class legs
      parts = (offered_by_group once.group.key row.rule legs row (sym once.key) refl (directed row i)).0 asked.offered.offered

      open_class : IsBitSet classes row.fare.class
      open_class = (is.classes_are row.fare.class (class_low row i)).1 parts.1

      costs : price ≡ share_of row + extra_of row.rule fs
      costs = asked.offered.costs ∙ ap (λ gs. row_price gs row) fs_is ∙ priced_by_group row.rule fs row refl

      no_more : (least : ℕ) → least ≤ share_of row → least + extra_of row.rule fs ≤ price
      no_more least le = subst (λ n. least + extra_of row.rule fs ≤ n) (sym costs) (omega (arith, le))

      below : (cheapest : Option ℕ) → Cheapest classes once.group.fares cheapest → (least : ℕ) × (cheapest ≡ Some least) × (least + extra_of row.rule fs ≤ price)
      below None c = absurd (each_in (λ (f : GroupedFare). IsBitSet classes f.class → ⊥) once.group.fares (fare_at place.0 row) c once.stands open_class)
      below (Some least) c = (least, refl, no_more least (each_in (λ (f : GroupedFare). IsBitSet classes f.class → least ≤ f.share) once.group.fares (fare_at place.0 row) c.below once.stands open_class))

pub groups_give : (b : Book) (q : Request) → GroupsGive b q
groups_give b q at path fs legs classes reverse sheet groups is = give b q at path fs legs classes reverse sheet groups is

pub groups_cover : (b : Book) (q : Request) → GroupsCover b q
groups_cover b q at path fs legs classes reverse sheet groups is = cover b q at path fs legs classes reverse sheet groups is
