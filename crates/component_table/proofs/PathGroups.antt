-- The components on a path are of the groups of its end, and what these cost there are entries. Given on to the crates above.
use Rattle.std.proofs.Common.{◌≡◌, ◌≢◌, ℕ, ℤ, pos, ◌≤◌, Bool, true, false, List, [], ◌∷◌, slice_get, Option, Some, refl, sym, ap, subst, ◌∙◌, inl, inr}
use Rattle.component_table.specs.Landed.{IsOfGroup}
use Rattle.component_table.specs.Tables.{IsEntry}
use Rattle.component_table.proofs.CarrierFacts.{transfers_first}
use Rattle.component_table.proofs.FiledFacts.{filed_some, one_group}
use Rattle.component_table.proofs.GroupCosts.{costs_outlined, covered_costs}
use Rattle.fare_book.specs.Keeping.{Limited}
use Rattle.fare_ends.specs.declared.ends.EndGroup.{EndGroup}
use Rattle.fare_ends.specs.declared.ends.EndKey.{EndKey}
use Rattle.fare_ends.specs.declared.ends.FareEnds.{FareEnds}
use Rattle.fare_ends.specs.declared.rule_numbers.KnownRule.{KnownRule}
use Rattle.fare_ends.specs.Ends.{HasWay, IsOneOfEnd, IsSheetOfEnd, between}
use Rattle.fare_ends.specs.Reaches.{end_from, end_to}
use Rattle.fare_ends.specs.Rules.{AreKnownRules, IsKnownRule}
use Rattle.fare_ends.proofs.SheetFacts.{own_sheet}
use Rattle.fare_groups.specs.declared.group.FareGroup.{FareGroup}
use Rattle.fare_groups.specs.declared.group.GroupKey.{GroupKey}
use Rattle.fare_groups.specs.Grouping.{first_share}
use Rattle.fare_law.specs.declared.flights.Flight.{Flight}
use Rattle.fare_law.specs.declared.names.Place.{Place}
use Rattle.fare_law.specs.declared.requests.Request.{Request}
use Rattle.fare_law.specs.Book.{Book}
use Rattle.fare_law.specs.Limits.{IsFlight}
use Rattle.fare_law.specs.Lists.{Each, IsIn, OnFirst, OnLast}
use Rattle.fare_law.specs.Parts.{Numbers}
use Rattle.fare_law.specs.Sheets.{Sheet}
use Rattle.flight_paths.specs.declared.positions.Path.{Path}
use Rattle.flight_paths.specs.declared.positions.Position.{Position}
use Rattle.flight_paths.specs.Positions.{IsPath}
use Rattle.law_lemmas.proofs.EachOne.{each_got}
use Rattle.law_lemmas.proofs.LawFacts.{numbers_one}
use Rattle.outlines.specs.declared.outline.Entry.{Entry}
use Rattle.outlines.specs.declared.outline.Outline.{Outline}
use Rattle.outlines.specs.ByGroups.{OutlineOver, OverMarket}
use Rattle.outlines.specs.Outcomes.{HasRule}
use Rattle.outlines.specs.Outlines.{Outlined}
use Rattle.outlines.proofs.ByGroups.{groups_cover}
use Rattle.outlines.proofs.ByOutline.{path_begins, piece_begins}
use Rattle.fare_ends.specs.Floors.{CostsOn}
use Rattle.fare_ends.specs.Legs.{HasLegs}
use Rattle.residual_keys.specs.Steps.{MarketOver}
use Rattle.residual_keys.proofs.NamesKept.{day_within}
use Rattle.residual_keys.proofs.OneNext.{first_one, last_one}
use Rattle.residual_keys.proofs.Runs.{flies_numbers}
use Rattle.residual_keys.proofs.StepFacts.{two_ends}
use Rattle.fare_rules.specs.Ranges.{IsDayWithin}

pub first_by : {X : Type 0} (P Q : X → Type 0) (xs : List X) → ((x : X) → P x → Q x) → OnFirst P xs → OnFirst Q xs
first_by P Q [] to h = absurd h
first_by P Q (x ∷ xs) to h = to x h

pub same_key : (j k : GroupKey) → j.carrier ≡ k.carrier → j.number ≡ k.number → j.kind ≡ k.kind → j ≡ k
same_key j k c n d = λ i. record { carrier = c i; number = n i; kind = d i }

-- the flights of a list of the book's are within their limits
pub flights_within : (b : Book) (ns : List ℕ) (fs : List Flight) → Each IsFlight b.timetable.flights → Numbers b ns fs → Each IsFlight fs
flights_within b [] [] limits n = tt
flights_within b [] (f ∷ fs) limits n = absurd n
flights_within b (m ∷ ns) [] limits n = absurd n
flights_within b (m ∷ ns) (f ∷ fs) limits n = (each_got IsFlight b.timetable.flights m f limits n.0, flights_within b ns fs limits n.1)

pub first_within : (P : Flight → Type 0) (d : ℤ) (fs : List Flight) → ((f : Flight) → P f → d ≡ f.day) → Each IsFlight fs → OnFirst P fs → IsDayWithin (pos 99000) d
first_within P d [] to limits h = absurd h
first_within P d (f ∷ fs) to limits h = subst (IsDayWithin (pos 99000)) (sym (to f h)) (day_within f.day limits.0.day)

pub last_within : (P : Flight → Type 0) (d : ℤ) (fs : List Flight) → ((f : Flight) → P f → d ≡ f.day) → Each IsFlight fs → OnLast P fs → IsDayWithin (pos 99000) d
last_within P d [] to limits h = absurd h
last_within P d (f ∷ []) to limits h = subst (IsDayWithin (pos 99000)) (sym (to f h)) (day_within f.day limits.0.day)
last_within P d (f ∷ g ∷ fs) to limits h = last_within P d (g ∷ fs) to limits.1 h

-- a component's outline, with the live rule, is an entry
pub entry_right : (b : Book) (q : Request) (at : Position) (e : Entry) → Each IsFlight b.timetable.flights → Limited b → Outlined b q at e.outline e.price → HasRule b e → IsEntry b q at e
entry_right b q at e flights limited h rule = record {
  outlined = h;
  rule = rule;
  within = record {
    first = first_within (λ f. (h.piece.begin ≡ f.from) × (h.piece.first_day ≡ f.day)) e.outline.first h.flights (λ f x. h.outline.first ∙ x.1) limits h.stands.begins;
    last = last_within (λ f. (h.piece.end ≡ f.to) × (h.piece.last_day ≡ f.day)) e.outline.last h.flights (λ f x. h.outline.last ∙ x.1) limits h.stands.ends;
    rule = limited.rules e.outline.carrier e.outline.number e.rule rule;
  };
}
  where
    limits : Each IsFlight h.flights
    limits = flights_within b h.numbers h.flights flights (flies_numbers b q.slices (Some at) e.outline.after h.numbers h.flights h.path.flies)

-- a group's outline on some flights is one
pub outline_one : (o p : Outline) (after : Option Position) (fs : List Flight) (key : GroupKey) (reverse : Bool) → OutlineOver o after fs key reverse → OutlineOver p after fs key reverse → o ≡ p
outline_one o p after fs key reverse h k =
    let ends = last_one (λ f. (o.end ≡ f.to) × (o.last ≡ f.day)) (λ f. (p.end ≡ f.to) × (p.last ≡ f.day)) ((o.end ≡ p.end) × (o.last ≡ p.last)) (λ f x y. (x.0 ∙ sym y.0, x.1 ∙ sym y.1)) fs h.ends k.ends in
    let first = first_one (λ f. o.first ≡ f.day) (λ f. p.first ≡ f.day) (o.first ≡ p.first) (λ f x y. x ∙ sym y) fs h.first k.first in
    let after_is = h.after_is ∙ sym k.after_is in
    let carrier = h.carrier ∙ sym k.carrier in
    let number = h.number ∙ sym k.number in
    let kind = h.kind ∙ sym k.kind in
    let way = h.reverse_is ∙ sym k.reverse_is in
    λ i. record { after = after_is i; end = ends.0 i; first = first i; last = ends.1 i; carrier = carrier i; number = number i; kind = kind i; reverse = way i }

-- fares are filed over flights from where they begin to where they end, or in reverse
pub market_between : (reverse : Bool) (fs : List Flight) (from to : Place) → OnFirst (λ f. f.from ≡ from) fs → OnLast (λ f. f.to ≡ to) fs → MarketOver reverse fs (end_from reverse from to) (end_to reverse from to)
market_between true fs from to first last = two_ends (λ f. f.from ≡ from) (λ f. f.to ≡ to) (λ f z. (to ≡ z.to) × (from ≡ f.from)) fs first last (λ f z x y. (sym y, sym x))
market_between false fs from to first last = two_ends (λ f. f.from ≡ from) (λ f. f.to ≡ to) (λ f z. (from ≡ f.from) × (to ≡ z.to)) fs first last (λ f z x y. (sym x, sym y))

-- a path of a position, with its flights and the classes that are open on them, which begins with a flight of the carrier of an end and leads to its place
module _ (b : Book) (q : Request) (at : Position) (path : Path) (fs : List Flight) (classes : ℕ) (path_is : IsPath b q.slices at path.flights fs path.after) (legs : HasLegs b q fs classes)
    (key : EndKey) (from : key.from ≡ at.place) (first : OnFirst (λ f. f.carrier ≡ key.carrier) fs) (ends : OnLast (λ f. f.to ≡ key.to) fs)
    (known : FareEnds) (rules : AreKnownRules b known.rules.of.items) (limited : Limited b) where
  begins : OnFirst (λ f. f.from ≡ key.from) fs
  begins = first_by (λ f. f.from ≡ at.place) (λ f. f.from ≡ key.from) fs (λ f e. e ∙ sym from) (path_begins b q.slices at path.flights fs path.after path_is)

  pub path_over : (reverse : Bool) (sheet : Sheet) (groups : List FareGroup) → IsSheetOfEnd b key reverse sheet groups → OverMarket b q at path fs legs.legs classes reverse sheet groups
  path_over reverse sheet groups is = record {
    path_is = path_is;
    legs_are = legs.legs_are;
    classes_are = legs.classes_are;
    market = subst (λ p. MarketOver reverse fs sheet.from p) (sym is.sheet_is.filed_to) (subst (λ p. MarketOver reverse fs p (end_to reverse key.from key.to)) (sym is.sheet_is.filed_from) (market_between reverse fs key.from key.to begins ends));
    sheet_is = own_sheet b (end_from reverse key.from key.to) (end_to reverse key.from key.to) sheet is.sheet_is;
    groups_are = is.groups_are;
    limited = limited;
  }

  -- a component on the path is of one of the groups that are filed its way
  pub way_found : (groups : List EndGroup) → ((reverse : Bool) → HasWay b key known reverse groups) → (o : Outline) (price : ℕ) (h : Outlined b q at o price) → h.numbers ≡ path.flights → (g : EndGroup) × IsIn g groups × IsOfGroup g o
  way_found groups ways o price h e = by (ways o.reverse)
    where
      fs_are : h.flights ≡ fs
      fs_are = numbers_one b path.flights h.flights fs (subst (λ ns. Numbers b ns h.flights) e (flies_numbers b q.slices (Some at) o.after h.numbers h.flights h.path.flies)) (flies_numbers b q.slices (Some at) path.after path.flights fs path_is.flies)

      begin_is : h.piece.begin ≡ key.from
      begin_is = piece_begins b q at h.numbers h.flights o.after h.piece h.path h.stands ∙ sym from

      end_is : h.piece.end ≡ key.to
      end_is = last_one (λ f. (h.piece.end ≡ f.to) × (h.piece.last_day ≡ f.day)) (λ f. f.to ≡ key.to) (h.piece.end ≡ key.to) (λ f x y. x.0 ∙ y) h.flights h.stands.ends (subst (OnLast (λ f. f.to ≡ key.to)) (sym fs_are) ends)

      some : fs ≢ []
      some none = subst (OnFirst (λ f. f.carrier ≡ key.carrier)) none first

      by : HasWay b key known o.reverse groups → (g : EndGroup) × IsIn g groups × IsOfGroup g o
      by (inl none) = absurd (filed_some b q at o price h key.from key.to begin_is end_is none)
      by (inr s) =
          let c = groups_cover b q at path fs legs.legs classes o.reverse s.sheet s.of_sheet (path_over o.reverse s.sheet s.of_sheet s.sheet_is) o price h e refl in
          let own : c.group.key.carrier ≡ key.carrier = first_one (λ f. f.carrier ≡ c.group.key.carrier) (λ f. f.carrier ≡ key.carrier) (c.group.key.carrier ≡ key.carrier) (λ f x y. sym x ∙ y) fs (transfers_first c.rule c.group.key.carrier fs some c.permits.transfers) first in
          let x = s.all c.group c.within own in
          let is = x.2 in (
            x.0,
            x.1,
            record {
              carrier = c.outline.carrier ∙ ap (λ (k : GroupKey). k.carrier) (sym is.key);
              number = c.outline.number ∙ ap (λ (k : GroupKey). k.number) (sym is.key);
              kind = c.outline.kind ∙ ap (λ (k : GroupKey). k.kind) (sym is.key);
              reverse = sym is.way;
            },
          )

  -- a group of the end, with its rule
  module _ (g : EndGroup) (one : IsOneOfEnd b key known g) (rule : KnownRule) (stands : slice_get known.rules.of.items g.rule ≡ Some rule) where
    over : OverMarket b q at path fs legs.legs classes g.reverse one.sheet one.groups
    over = path_over g.reverse one.sheet one.groups one.sheet_is

    right : IsKnownRule b rule
    right = each_got (IsKnownRule b) known.rules.of.items g.rule rule rules stands

    -- what it costs on the path some component of its outline costs
    pub group_outlined : (price : ℕ) → CostsOn rule.rule rule.carrier (first_share (between known.rungs.items g.from g.to)) (record { flights = fs; classes = classes }) price → (o : Outline) → OutlineOver o path.after fs g.key g.reverse → Outlined b q at o price
    group_outlined price c o oo = costs_outlined b q at path fs legs.legs classes g.reverse one.sheet one.groups over known one.group g one.is rule stands right one.within price c o (subst (λ k. OutlineOver o path.after fs k g.reverse) one.is.key oo)

    -- and a component of its outline costs no less than it does
    pub group_below : (o : Outline) (price : ℕ) (h : Outlined b q at o price) → h.numbers ≡ path.flights → IsOfGroup g o
        → (least : ℕ) × CostsOn rule.rule rule.carrier (first_share (between known.rungs.items g.from g.to)) (record { flights = fs; classes = classes }) least × (least ≤ price) × OutlineOver o path.after fs g.key g.reverse
    group_below o price h e of =
        let c = groups_cover b q at path fs legs.legs classes g.reverse one.sheet one.groups over o price h e of.reverse in
        let own : c.group.key ≡ one.group.key = same_key c.group.key one.group.key
        (sym c.outline.carrier ∙ of.carrier ∙ ap (λ (k : GroupKey). k.carrier) one.is.key)
        (sym c.outline.number ∙ of.number ∙ ap (λ (k : GroupKey). k.number) one.is.key)
        (sym c.outline.kind ∙ of.kind ∙ ap (λ (k : GroupKey). k.kind) one.is.key) in
        let same = one_group one.groups one.sheet_is.groups_are.apart c.group one.group c.within one.within own in
        let x = covered_costs b q at path fs legs.legs classes g.reverse one.sheet one.groups over known one.group g one.is rule stands right o price c same in
        (x.0, x.1, x.2, subst (λ k. OutlineOver o path.after fs k g.reverse) (own ∙ sym one.is.key) c.outline)
