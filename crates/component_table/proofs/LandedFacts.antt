-- The components on the landings of a class are of the groups of its end, and their outlines are added.
use Rattle.std.proofs.Common.{◌≡◌, ℕ, zero, suc, ◌-◌, ◌<◌, ◌≤◌, Bool, List, [], ◌∷◌, ◌++◌, length, take, drop, slice_get, Option, Some, None, refl, sym, ap, subst, ◌∙◌, inl, arith}
use Rattle.component_table.specs.declared.begun.Known.{Known}
use Rattle.component_table.specs.declared.begun.Origin.{Origin}
use Rattle.component_table.specs.declared.landed.LandedClass.{LandedClass}
use Rattle.component_table.specs.declared.landed.Landing.{Landing}
use Rattle.component_table.specs.Begun.{AreLandings, IsLanding, IsOrigin, LandedPaths, StaysKnown, key_to}
use Rattle.component_table.specs.Landed.{AreAlike, GroupLanded, IsGroupOfClass, IsLandedClass, IsLandedGroup, IsLandedOf, IsOfGroup, IsOutlineOfClass}
use Rattle.component_table.specs.Tables.{AddsThose, CoversThose, IsEntry}
use Rattle.component_table.proofs.Added.{IsOfOne, adds_like, adds_none, adds_range}
use Rattle.component_table.proofs.PathGroups.{entry_right, first_by, group_below, group_outlined, outline_one, way_found}
use Rattle.fare_book.specs.Keeping.{Limited}
use Rattle.fare_ends.specs.declared.ends.EndGroup.{EndGroup}
use Rattle.fare_ends.specs.declared.ends.FareEnds.{FareEnds}
use Rattle.fare_ends.specs.declared.rule_numbers.KnownRule.{KnownRule}
use Rattle.fare_ends.specs.Ends.{HasWay, IsFareEnd, IsOneOfEnd, between}
use Rattle.fare_ends.specs.Rules.{AreKnownRules, IsKnownRule}
use Rattle.fare_ends.proofs.EndFacts.{knows_on, knows_self}
use Rattle.fare_groups.specs.declared.group.GroupKey.{GroupKey}
use Rattle.fare_law.specs.declared.flights.Flight.{Flight}
use Rattle.fare_law.specs.declared.requests.Request.{Request}
use Rattle.fare_law.specs.Book.{Book, flight_at, live_rule}
use Rattle.fare_law.specs.Limits.{IsFlight}
use Rattle.fare_law.specs.Lists.{Each, IsIn, IsPrefix, OnFirst, OnLast}
use Rattle.fare_law.specs.Parts.{Numbers}
use Rattle.flight_paths.specs.declared.positions.Path.{Path}
use Rattle.flight_paths.specs.declared.positions.Position.{Position}
use Rattle.flight_paths.specs.Positions.{IsPath}
use Rattle.flight_paths.proofs.Joining.{head_flights}
use Rattle.joint_paths.specs.Costs.{Costs, CostsLeast}
use Rattle.joint_paths.proofs.Ranged.{got_between, in_between, of_between}
use Rattle.law_lemmas.proofs.EachOne.{each_from, each_got, each_in}
use Rattle.law_lemmas.proofs.Ends.{on_last}
use Rattle.law_lemmas.proofs.LawFacts.{numbers_one}
use Rattle.law_lemmas.proofs.Lists.{got_within, prefix_self, prefix_trans}
use Rattle.law_lemmas.proofs.Members.{got_in, in_got}
use Rattle.law_lemmas.proofs.Numbers.{le_on}
use Rattle.law_lemmas.proofs.Options.{some_one}
use Rattle.outline_tables.specs.declared.outline_numbers.Priced.{Priced}
use Rattle.outline_tables.specs.declared.outline_numbers.RuledOutline.{RuledOutline}
use Rattle.outline_tables.specs.Numbers.{AreRuled, OutlineStands, entries_of, entry_at}
use Rattle.outline_tables.proofs.NumberFacts.{entries_last}
use Rattle.outlines.specs.declared.outline.Entry.{Entry}
use Rattle.outlines.specs.declared.outline.Outline.{Outline}
use Rattle.outlines.specs.ByGroups.{OutlineOver}
use Rattle.outlines.specs.Outlines.{Outlined}
use Rattle.fare_ends.specs.Floors.{OpenPath}
use Rattle.fare_ends.specs.Legs.{AreAmong, HasLegs}
use Rattle.fare_ends.proofs.FirstFlights.{begins_with}

pub stays_self : (known : Known) → StaysKnown known known
stays_self known = record { fares = knows_self known.fares; outlines = prefix_self known.outlines.of.items }

pub stays_on : (one two three : Known) → StaysKnown one two → StaysKnown two three → StaysKnown one three
stays_on one two three h k = record { fares = knows_on one.fares two.fares three.fares h.fares k.fares; outlines = prefix_trans one.outlines.of.items two.outlines.of.items three.outlines.of.items h.outlines k.outlines }

-- the flight that an origin takes is the first one of its paths
pub origin_first : (o : Origin) → IsOrigin o → (ns : List ℕ) (fs : List Flight) (next : Option Position) → IsPath o.case.now.book.now o.case.now.request.now.slices o.at.now ns fs next → OnFirst (λ f. f ≡ o.first.now) fs
origin_first o is ns fs next h =
    let b = o.case.now.book.now in
    let w = begins_with b o.case.now.request.now.slices o.at.now ns fs next h in
    let here : w.number ≡ o.at.now.lo = one w.number w.takes.low w.takes.high is.one in
    let same : w.flight ≡ o.first.now = some_one (flight_at b o.at.now.lo) w.flight o.first.now (ap (flight_at b) (sym here) ∙ w.takes.known) is.first in
    first_by (λ f. f ≡ w.flight) (λ f. f ≡ o.first.now) fs (λ f e. e ∙ same) w.first
  where
    one : (n : ℕ) → o.at.now.lo ≤ n → n < o.at.now.hi → o.at.now.hi ≡ suc o.at.now.lo → n ≡ o.at.now.lo
    one n low high e = omega (arith, low, high, e)

-- a group of the end of a class, with its rule
pub landed_group : (o : Origin) (fares : FareEnds) (c : LandedClass) (g : EndGroup) → AreKnownRules o.case.now.book.now fares.rules.of.items → Limited o.case.now.book.now → (is : IsLandedClass o fares c) → IsGroupOfClass o fares c g → IsLandedGroup o fares g
landed_group o fares c g rules limited is group =
    let b = o.case.now.book.now in
    let one = group is.first is.stands in
    let r = one.is.rule in
    let right = each_got (IsKnownRule b) fares.rules.of.items g.rule r.rule rules r.stands in
    record {
      range = one.is.range;
      of = one.group.fares;
      rungs = one.is.rungs;
      rule = r.rule;
      stands = r.stands;
      own = record { free = right.free; limits = limited.rules r.rule.carrier r.rule.number r.rule.rule right.live; carrier = r.carrier_is ∙ one.carrier };
    }

-- the rule of an outline of a group is live
pub group_live : (o : Origin) (fares : FareEnds) (c : LandedClass) (g : EndGroup) → AreKnownRules o.case.now.book.now fares.rules.of.items → (is : IsLandedClass o fares c) → IsGroupOfClass o fares c g → (x : Outline) → x.carrier ≡ g.key.carrier → x.number ≡ g.key.number → (rule : KnownRule) → slice_get fares.rules.of.items g.rule ≡ Some rule
    → live_rule o.case.now.book.now x.carrier x.number ≡ Some rule.rule
group_live o fares c g rules is group x carrier number rule stands =
    let b = o.case.now.book.now in
    let one = group is.first is.stands in
    let r = one.is.rule in
    let same : r.rule ≡ rule = some_one (slice_get fares.rules.of.items g.rule) r.rule rule r.stands stands in
    let right = each_got (IsKnownRule b) fares.rules.of.items g.rule rule rules stands in
    let carriers : rule.carrier ≡ x.carrier = ap (λ (y : KnownRule). y.carrier) (sym same) ∙ r.carrier_is ∙ ap (λ (k : GroupKey). k.carrier) (sym one.is.key) ∙ sym carrier in
    let numbers : rule.number ≡ x.number = ap (λ (y : KnownRule). y.number) (sym same) ∙ r.number_is ∙ ap (λ (k : GroupKey). k.number) (sym one.is.key) ∙ sym number in
    subst (λ n. live_rule b x.carrier n ≡ Some rule.rule) numbers (subst (λ k. live_rule b k rule.number ≡ Some rule.rule) carriers right.live)

module _ (o : Origin) (origin : IsOrigin o) (fares : FareEnds) (rules : AreKnownRules o.case.now.book.now fares.rules.of.items) (limited : Limited o.case.now.book.now) (c : LandedClass) (is : IsLandedClass o fares c) where
  abbrev b : Book
  b = o.case.now.book.now

  abbrev q : Request
  q = o.case.now.request.now

  abbrev at : Position
  at = o.at.now

  abbrev Paths : OpenPath → Type 0
  Paths = IsLandedOf o c.paths.now c.landings.now

  -- one of its landings
  module _ (l : Landing) (i : IsIn l c.landings.now) (path : Path) (stands : slice_get c.paths.now l.path ≡ Some path) (h : IsLanding o fares path l) where
    abbrev fs : List Flight
    fs = h.head.0

    alike : AreAlike c.paths.now is.first l
    alike = each_in (AreAlike c.paths.now is.first) c.landings.now l is.alike i

    path_is : IsPath b q.slices at path.flights h.head.0 path.after
    path_is = h.head.1.path

    numbers : Numbers b path.flights h.head.0
    numbers = head_flights b q.slices at path.flights h.head.0 path.after h.head.1

    legs : HasLegs b q h.head.0 l.classes
    legs = h.legs h.head.0 numbers

    first : OnFirst (λ f. f ≡ o.first.now) h.head.0
    first = origin_first o origin path.flights h.head.0 path.after path_is

    carrier : OnFirst (λ f. f.carrier ≡ o.first.now.carrier) h.head.0
    carrier = first_by (λ f. f ≡ o.first.now) (λ f. f.carrier ≡ o.first.now.carrier) h.head.0 (λ f e. ap (λ (x : Flight). x.carrier) e) first

    ends : OnLast (λ f. (f.to ≡ is.first.place) × (f.day ≡ is.first.last)) h.head.0
    ends = on_last (λ f. (f.to ≡ l.place) × (f.day ≡ l.last)) (λ f. (f.to ≡ is.first.place) × (f.day ≡ is.first.last)) (λ f x. (x.0 ∙ sym alike.place, x.1 ∙ sym alike.last)) h.head.0 (h.ends h.head.0 numbers)

    end_place : OnLast (λ f. f.to ≡ is.first.place) h.head.0
    end_place = on_last (λ f. (f.to ≡ is.first.place) × (f.day ≡ is.first.last)) (λ f. f.to ≡ is.first.place) (λ f x. x.0) h.head.0 ends

    -- its path, open
    pub here : Paths (record { flights = h.head.0; classes = l.classes })
    here = record { landing = l; within = i; path = path; stands = stands; numbers = numbers; classes = refl }

    -- the outline of a group of the class is over it
    pub landing_outline : (g : EndGroup) (x : Outline) → IsOutlineOfClass o g c x → OutlineOver x path.after h.head.0 g.key g.reverse
    landing_outline g x of =
        let one = each_in (λ (l : Landing). (path : Path) × (slice_get c.paths.now l.path ≡ Some path) × IsLanding o fares path l) c.landings.now is.first is.landings (got_in c.landings.now 0 is.first is.stands) in
        let e = of.ends is.first is.stands in
        record {
          after_is = of.after is.first is.stands one.0 one.1 ∙ alike.after one.0 path one.1 stands;
          first = first_by (λ f. f ≡ o.first.now) (λ f. x.first ≡ f.day) h.head.0 (λ f y. of.first ∙ ap (λ (z : Flight). z.day) (sym y)) first;
          ends = on_last (λ f. (f.to ≡ is.first.place) × (f.day ≡ is.first.last)) (λ f. (x.end ≡ f.to) × (x.last ≡ f.day)) (λ f y. (e.0 ∙ sym y.0, e.1 ∙ sym y.1)) h.head.0 ends;
          carrier = of.carrier;
          number = of.number;
          kind = of.kind;
          reverse_is = of.reverse;
        }

    -- a component on it is of one of the groups of the end
    pub landing_found : (groups : List EndGroup) → ((reverse : Bool) → HasWay b (key_to o is.first.place) fares reverse groups) → (x : Outline) (price : ℕ) (w : Outlined b q at x price) → w.numbers ≡ path.flights → (g : EndGroup) × IsIn g groups × IsOfGroup g x
    landing_found groups ways x price w e = way_found b q at path h.head.0 l.classes path_is legs (key_to o is.first.place) refl carrier end_place fares rules limited groups ways x price w e

    module _ (g : EndGroup) (one : IsOneOfEnd b (key_to o is.first.place) fares g) (rule : KnownRule) (there : slice_get fares.rules.of.items g.rule ≡ Some rule) where
      -- a component of a group's outline costs no less than the group does
      pub landing_below : (x : Outline) (price : ℕ) (w : Outlined b q at x price) → w.numbers ≡ path.flights → IsOfGroup g x
          → (least : ℕ) × Costs rule (between fares.rungs.items g.from g.to) (record { flights = h.head.0; classes = l.classes }) least × (least ≤ price) × OutlineOver x path.after h.head.0 g.key g.reverse
      landing_below x price w e of = group_below b q at path h.head.0 l.classes path_is legs (key_to o is.first.place) refl carrier end_place fares rules limited g one rule there x price w e of

      -- and what the group costs on the path some component of the outline costs
      pub landing_outlined : (p : OpenPath) (price : ℕ) → Numbers b path.flights p.flights → p.classes ≡ l.classes → Costs rule (between fares.rungs.items g.from g.to) p price → (x : Outline) → IsOutlineOfClass o g c x → Outlined b q at x price
      landing_outlined p price n classes costs x of =
          let flights = numbers_one b path.flights p.flights h.head.0 n numbers in
          let same : ◌≡◌ {A = OpenPath} p (record { flights = h.head.0; classes = l.classes }) = λ i. record { flights = flights i; classes = classes i } in
          group_outlined b q at path h.head.0 l.classes path_is legs (key_to o is.first.place) refl carrier end_place fares rules limited g one rule there price (subst (λ y. Costs rule (between fares.rungs.items g.from g.to) y price) same costs) x (landing_outline g x of)

  landing_of : (l : Landing) (i : IsIn l c.landings.now) (path : Path) → slice_get c.paths.now l.path ≡ Some path → IsLanding o fares path l
  landing_of l i path stands =
      let x = each_in (λ (l : Landing). (path : Path) × (slice_get c.paths.now l.path ≡ Some path) × IsLanding o fares path l) c.landings.now l is.landings i in
      subst (λ (y : Path). IsLanding o fares y l) (some_one (slice_get c.paths.now l.path) x.0 path x.1 stands) x.2

  -- a group of its end, with its rule
  module _ (g : EndGroup) (group : IsGroupOfClass o fares c g) (rule : KnownRule) (there : slice_get fares.rules.of.items g.rule ≡ Some rule) where
    one : IsOneOfEnd b (key_to o is.first.place) fares g
    one = group is.first is.stands

    -- nothing is added where it costs nothing
    pub group_none : CostsLeast rule (between fares.rungs.items g.from g.to) Paths None → (known : List RuledOutline) (table : List Priced) → AddsThose b q at (GroupLanded c.paths.now c.landings.now g) known table table
    group_none none known table = adds_none b q at (GroupLanded c.paths.now c.landings.now g) known table (λ x price w of.
        let l = of.0.0 in
        let i = of.0.1 in
        let path = of.0.2 in
        let stands = of.0.3 in
        let h = landing_of l i path stands in
        let low = landing_below l i path stands h g one rule there x price w (sym of.0.4) of.1 in
        none low.0 (record { path = record { flights = h.head.0; classes = l.classes }; one_of = here l i path stands h; costs = low.1 }))

    -- else its outline at its least price
    module _ (least : ℕ) (costs : CostsLeast rule (between fares.rungs.items g.from g.to) Paths (Some least)) (outline : Outline) (of : IsOutlineOfClass o g c outline) (flights : Each IsFlight b.timetable.flights)
        (known : List RuledOutline) (ruled : AreRuled b known) (number : ℕ) (at_number : OutlineStands known outline number) where
      outlined : Outlined b q at outline least
      outlined =
          let i = costs.some.one_of in
          landing_outlined i.landing i.within i.path i.stands (landing_of i.landing i.within i.path i.stands) g one rule there costs.some.path least i.numbers i.classes costs.some.costs outline of

      abbrev entry : Entry
      entry = entry_at least at_number.one

      abbrev priced : Priced
      priced = record { outline = number; price = least }

      right : IsEntry b q at entry
      right = entry_right b q at entry flights limited (subst (λ (x : Outline). Outlined b q at x least) (sym at_number.is) outlined) (each_got (λ (x : RuledOutline). live_rule b x.outline.carrier x.outline.number ≡ Some x.rule) known number at_number.one ruled at_number.stands)

      entries : entries_of known (priced ∷ []) ≡ entry ∷ []
      entries = entries_last known [] priced at_number.one at_number.stands

      covers : CoversThose b q at (GroupLanded c.paths.now c.landings.now g) (entry ∷ [])
      covers x price w these =
          let l = these.0.0 in
          let i = these.0.1 in
          let path = these.0.2 in
          let stands = these.0.3 in
          let h = landing_of l i path stands in
          let low = landing_below l i path stands h g one rule there x price w (sym these.0.4) these.1 in
          let same = outline_one outline x path.after h.head.0 g.key g.reverse (landing_outline l i path stands h g outline of) low.3 in
          record {
            entry = entry;
            within = inl refl;
            outline = at_number.is ∙ same;
            below = le_on least low.0 price (costs.floor (record { flights = h.head.0; classes = l.classes }) (here l i path stands h) low.0 low.1) low.2;
          }

      pub group_added : (old new : List Priced) → new ≡ old ++ record { outline = number; price = least } ∷ [] → AddsThose b q at (GroupLanded c.paths.now c.landings.now g) known old new
      group_added old new e = record {
        more = priced ∷ [];
        joined = e;
        has = record {
          numbers = (got_within known number at_number.one at_number.stands, tt);
          right = subst (Each (IsEntry b q at)) (sym entries) (right, tt);
          covers = subst (CoversThose b q at (GroupLanded c.paths.now c.landings.now g)) (sym entries) covers;
        };
      }

  -- the end of the class
  pub class_end : IsFareEnd b (key_to o is.first.place) fares is.first.end
  class_end =
      let x = each_in (λ (l : Landing). (path : Path) × (slice_get c.paths.now l.path ≡ Some path) × IsLanding o fares path l) c.landings.now is.first is.landings (got_in c.landings.now 0 is.first is.stands) in
      x.2.end

  -- all groups of the end are all components
  pub class_added : (known : List RuledOutline) (old new : List Priced) → AddsThose b q at (IsOfOne (GroupLanded c.paths.now c.landings.now) fares.groups.items is.first.end.from is.first.end.to) known old new → AddsThose b q at (LandedPaths c.paths.now c.landings.now) known old new
  class_added known old new = adds_like b q at (IsOfOne (GroupLanded c.paths.now c.landings.now) fares.groups.items is.first.end.from is.first.end.to) (LandedPaths c.paths.now c.landings.now) known old new (λ x price w these.
      let l = these.0 in
      let i = these.1 in
      let path = these.2 in
      let stands = these.3 in
      let f = landing_found l i path stands (landing_of l i path stands) (between fares.groups.items is.first.end.from is.first.end.to) class_end.ways x price w (sym these.4) in
      let n = of_between fares.groups.items is.first.end.from is.first.end.to f.0 f.1 in
      record { place = n.0; low = n.2; high = n.3; one = f.0; stands = n.1; is = (these, f.2) })

  -- a group that stands there
  pub class_group : (n : ℕ) (g : EndGroup) → is.first.end.from ≤ n → n < is.first.end.to → slice_get fares.groups.items n ≡ Some g → IsGroupOfClass o fares c g
  class_group n g low high got l stands =
      let same : is.first ≡ l = some_one (slice_get c.landings.now 0) is.first l is.stands stands in
      subst (λ (x : Landing). IsOneOfEnd b (key_to o x.place) fares g) same (each_in (IsOneOfEnd b (key_to o is.first.place) fares) (between fares.groups.items is.first.end.from is.first.end.to) g class_end.each (got_between fares.groups.items is.first.end.from is.first.end.to n g got low high))

-- the flights are those of a landing
abbrev pub IsLandedAt : List Path → Landing → Outline → List ℕ → Type 0
IsLandedAt paths l o ns = (path : Path) × (slice_get paths l.path ≡ Some path) × (path.flights ≡ ns)

pub alike_self : (paths : List Path) (l : Landing) → AreAlike paths l l
alike_self paths l = record { last = refl; place = refl; after = λ p r e f. ap (λ (x : Path). x.after) (some_one (slice_get paths l.path) p r e f) }

-- what stands first from a place on
got_first : {X : Type 0} (xs : List X) (from to : ℕ) (x : X) → slice_get xs from ≡ Some x → from < to → slice_get (between xs from to) 0 ≡ Some x
got_first {X} xs from to x e lt = taken (drop from xs) (to - from) (let z : 0 < to - from = omega (arith, lt) in z) (dropped xs from e)
  where
    dropped : (ys : List X) (n : ℕ) → slice_get ys n ≡ Some x → slice_get (drop n ys) 0 ≡ Some x
    dropped ys zero h = h
    dropped [] (suc n) h = h
    dropped (y ∷ ys) (suc n) h = dropped ys n h

    taken : (ys : List X) (n : ℕ) → 0 < n → slice_get ys 0 ≡ Some x → slice_get (take n ys) 0 ≡ Some x
    taken ys zero lt h = absurd (omega (arith, lt))
    taken [] (suc n) lt h = h
    taken (y ∷ ys) (suc n) lt h = h

-- the landings of a class, from one place up to another
pub landed_class : (o : Origin) (fares : FareEnds) (paths : List Path) (landings : List Landing) (from to : ℕ) → AreLandings o fares paths landings → (c : LandedClass) → c.paths.now ≡ paths → c.landings.now ≡ between landings from to → (first : Landing) → slice_get landings from ≡ Some first → from < to
    → Each (AreAlike paths first) (between landings from to) → ((l : Landing) → IsIn l (between landings from to) → AreAmong l.classes c.classes) → IsLandedClass o fares c
landed_class o fares paths landings from to are c paths_are landings_are first stands lt alike classes = record {
  landings = subst (λ ls. AreLandings o fares c.paths.now ls) (sym landings_are) (subst (λ ps. AreLandings o fares ps (between landings from to)) (sym paths_are) (each_from (λ (l : Landing). (path : Path) × (slice_get paths l.path ≡ Some path) × IsLanding o fares path l) (between landings from to) (λ l i.
      each_in (λ (l : Landing). (path : Path) × (slice_get paths l.path ≡ Some path) × IsLanding o fares path l) landings l are (in_between landings from to l i))));
  first = first;
  stands = ap (λ ls. slice_get ls 0) landings_are ∙ got_first landings from to first stands lt;
  alike = subst (λ ls. Each (AreAlike c.paths.now first) ls) (sym landings_are) (subst (λ ps. Each (AreAlike ps first) (between landings from to)) (sym paths_are) alike);
  classes = λ l i. classes l (subst (IsIn l) landings_are i);
}

module _ (b : Book) (q : Request) (at : Position) (paths : List Path) (landings : List Landing) where
  -- the classes that are done, and one more
  pub landings_added : (from to : ℕ) (c : LandedClass) (known wider : List RuledOutline) (old mid new : List Priced) → c.paths.now ≡ paths → c.landings.now ≡ between landings from to → IsPrefix known wider → AddsThose b q at (IsOfOne (IsLandedAt paths) landings 0 from) known old mid → AddsThose b q at (LandedPaths c.paths.now c.landings.now) wider mid new
      → AddsThose b q at (IsOfOne (IsLandedAt paths) landings 0 to) wider old new
  landings_added from to c known wider old mid new paths_are landings_are prefix h k = adds_range b q at (IsLandedAt paths) landings 0 from to (LandedPaths c.paths.now c.landings.now) known wider old mid new prefix h k (λ x ns w.
      (w.one, subst (IsIn w.one) (sym landings_are) (got_between landings from to w.place w.one w.stands w.low w.high), w.is.0, subst (λ ps. slice_get ps w.one.path ≡ Some w.is.0) (sym paths_are) w.is.1, w.is.2))

  -- all of them
  pub landings_whole : (to : ℕ) (known : List RuledOutline) (old new : List Priced) → length landings ≤ to → AddsThose b q at (IsOfOne (IsLandedAt paths) landings 0 to) known old new → AddsThose b q at (LandedPaths paths landings) known old new
  landings_whole to known old new long = adds_like b q at (IsOfOne (IsLandedAt paths) landings 0 to) (LandedPaths paths landings) known old new (λ x price h w.
      let n = in_got landings w.0 w.1 in
      let lt = got_within landings n.0 w.0 n.1 in
      record { place = n.0; low = omega arith; high = omega (arith, lt, long); one = w.0; stands = n.1; is = (w.2, w.3, w.4) })
