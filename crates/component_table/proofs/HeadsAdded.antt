-- Heads of an origin, added one after another: the landings that have fares and the heads that cross.
use Rattle.std.proofs.Common.{◌≡◌, ◌≢◌, ◌⊎◌, ℕ, ◌+◌, ◌-◌, ◌<◌, ◌≤◌, Bool, List, [], ◌∷◌, ◌++◌, length, take, drop, slice_get, Option, Some, IsBitSet, append-nil, append_assoc, refl, sym, ap, subst, ◌∙◌, inl, inr, arith}
use Rattle.std.specs.List.Sorted.{IsPermutation}
use Rattle.component_table.specs.declared.begun.Origin.{Origin}
use Rattle.component_table.specs.declared.landed.Landing.{Landing}
use Rattle.component_table.specs.Begun.{AddsCrossing, AddsHeads, AddsLanding, AreCrossingHeads, AreHeadsOf, AreLandings, HeadPaths, IsCrossingGathered, IsGathered, IsLanding, IsOrigin, LacksFares, LandedPaths, key_to}
use Rattle.component_table.specs.Tables.{AddsThose, HasThose}
use Rattle.component_table.proofs.LandedFacts.{origin_first}
use Rattle.component_table.proofs.OpenFacts.{class_low, class_open}
use Rattle.component_table.proofs.PathGroups.{first_by, way_found}
use Rattle.fare_book.specs.Keeping.{Limited}
use Rattle.fare_ends.specs.declared.ends.EndGroup.{EndGroup}
use Rattle.fare_ends.specs.declared.ends.FareEnd.{FareEnd}
use Rattle.fare_ends.specs.declared.ends.FareEnds.{FareEnds}
use Rattle.fare_ends.specs.Ends.{HasWay, IsFareEnd, KnowsMore, between}
use Rattle.fare_ends.specs.NumberedFlights.{BeginsWith, EndsWith}
use Rattle.fare_ends.specs.Rules.{AreKnownRules}
use Rattle.fare_ends.proofs.BitFacts.{none_set}
use Rattle.fare_ends.proofs.EndFacts.{end_more, way_more}
use Rattle.fare_ends.proofs.LegFacts.{legs_exist}
use Rattle.fare_ends.proofs.Reordered.{each_reordered, in_reordered}
use Rattle.fare_law.specs.declared.flights.Flight.{Flight}
use Rattle.fare_law.specs.declared.requests.Request.{Request}
use Rattle.fare_law.specs.Book.{Book}
use Rattle.fare_law.specs.Lists.{IsIn, OnFirst, OnLast}
use Rattle.fare_law.specs.Parts.{Numbers}
use Rattle.flight_paths.specs.declared.positions.Path.{Path}
use Rattle.flight_paths.specs.declared.positions.Position.{Position}
use Rattle.flight_paths.specs.Heads.{AreHeads, Follows, IsHead}
use Rattle.flight_paths.proofs.Joining.{head_flights}
use Rattle.joint_paths.specs.declared.crossing_heads.CrossingHead.{CrossingHead}
use Rattle.joint_paths.specs.declared.tail_classes.NumberedPath.{NumberedPath}
use Rattle.joint_paths.specs.Heads.{IsCrossingHead}
use Rattle.joint_paths.specs.Tails.{IsOpen}
use Rattle.law_lemmas.proofs.EachOne.{each_append, each_by, each_from}
use Rattle.law_lemmas.proofs.Ends.{on_last}
use Rattle.law_lemmas.proofs.LawFacts.{numbers_one}
use Rattle.law_lemmas.proofs.Lists.{got_within}
use Rattle.law_lemmas.proofs.Members.{in_got, in_left, in_right}
use Rattle.law_lemmas.proofs.Numbers.{here_or_before}
use Rattle.law_lemmas.proofs.Options.{some_one}
use Rattle.outline_tables.specs.declared.outline_numbers.Priced.{Priced}
use Rattle.outline_tables.specs.declared.outline_numbers.RuledOutline.{RuledOutline}
use Rattle.outlines.specs.declared.outline.Outline.{Outline}
use Rattle.outlines.specs.Outlines.{Outlined}
use Rattle.fare_ends.specs.Legs.{HasLegs}
use Rattle.fare_ends.proofs.OpenClasses.{legs_are_one}
use Rattle.residual_keys.proofs.Runs.{flies_numbers}

-- a path on which no class is open
pub closed_path : (b : Book) (q : Request) (path : Path) (classes : ℕ) → classes ≡ 0 → ((fs : List Flight) → Numbers b path.flights fs → HasLegs b q fs classes) → IsOpen b q path → ⊥
closed_path b q path classes none legs o = none_set o.class (subst (λ n. IsBitSet n o.class) none (legs_are_one b q o.flights o.classes classes o.legs (legs o.flights o.numbers) o.class o.low o.open_class))

-- a component's path is open
pub open_path : (b : Book) (q : Request) (at : Position) (o : Outline) (price : ℕ) (h : Outlined b q at o price) → Limited b → IsOpen b q (record { flights = h.numbers; after = o.after })
open_path b q at o price h limited =
    let legs = legs_exist b q h.flights in
    record {
      flights = h.flights;
      numbers = flies_numbers b q.slices (Some at) o.after h.numbers h.flights h.path.flies;
      classes = legs.0;
      legs = legs.1;
      class = h.piece.fare.class;
      low = class_low b q at o price h limited;
      open_class = class_open b q at o price h limited legs.0 legs.1;
    }

-- the last flight of which something holds
last_flight_of : (P : Flight → Type 0) (fs : List Flight) → OnLast P fs → (f : Flight) × P f × OnLast (λ g. g ≡ f) fs
last_flight_of P [] h = absurd h
last_flight_of P (f ∷ []) h = (f, h, refl)
last_flight_of P (f ∷ g ∷ fs) h = last_flight_of P (g ∷ fs) h

-- an origin's head begins with its flight
pub head_begins : (o : Origin) → IsOrigin o → (ns : List ℕ) (fs : List Flight) (next : Option Position) → IsHead o.case.now.book.now o.case.now.request.now.slices o.at.now ns fs next → BeginsWith o.case.now.book.now ns o.first.now
head_begins o is ns fs next h gs n =
    let b = o.case.now.book.now in
    subst (λ xs. OnFirst (λ f. f ≡ o.first.now) xs) (numbers_one b ns fs gs (head_flights b o.case.now.request.now.slices o.at.now ns fs next h) n) (origin_first o is ns fs next h.path)

-- nothing is added, to landings or to heads that cross
pub landing_none : (o : Origin) (fares : FareEnds) (p : NumberedPath) (landings : List Landing) → (IsOpen o.case.now.book.now o.case.now.request.now p.path.now → ⊥) ⊎ LacksFares o fares p.path.now → AddsLanding o fares p landings landings
landing_none o fares p landings none = record { more = []; joined = sym (append-nil landings); each = tt; gathered = inr none }

pub crossing_none : (b : Book) (q : Request) (at : Position) (path : Path) (heads : List CrossingHead) → (IsOpen b q path → (tail : Path) → Follows b q.slices at path tail → ⊥) → AddsCrossing b q at path heads heads
crossing_none b q at path heads none = record { more = []; joined = sym (append-nil heads); each = tt; all = λ opened tail f. absurd (none opened tail f) }

pub crossing_one : (b : Book) (q : Request) (at : Position) (path : Path) (old new : List CrossingHead) (h : CrossingHead) → IsCrossingHead b q at path h → new ≡ old ++ h ∷ [] → AddsCrossing b q at path old new
crossing_one b q at path old new h is e = record { more = h ∷ []; joined = e; each = (is, tt); all = λ opened tail f. (h, inl refl, is) }

-- a head without fares for its end
pub lacks_empty : (o : Origin) (fares : FareEnds) (path : Path) (last : Flight) (e : FareEnd) → EndsWith o.case.now.book.now path.flights last → IsFareEnd o.case.now.book.now (key_to o last.to) fares e → e.to ≤ e.from → LacksFares o fares path
lacks_empty o fares path last e ends is empty fs n = on_last (λ f. f ≡ last) (λ f. (reverse : Bool) → HasWay o.case.now.book.now (key_to o f.to) fares reverse []) (λ f same reverse.
    subst (λ (x : Flight). HasWay o.case.now.book.now (key_to o x.to) fares reverse []) (sym same) (subst (λ gs. HasWay o.case.now.book.now (key_to o last.to) fares reverse gs) (none fares.groups.items e.from e.to empty) (is.ways reverse))) fs (ends fs n)
  where
    none : (xs : List EndGroup) (from to : ℕ) → to ≤ from → between xs from to ≡ []
    none xs from to le = let z : ◌≡◌ {A = ℕ} (to - from) 0 = omega (arith, le) in ap (λ n. take n (drop from xs)) z

-- a path that has no last flight is no head
pub lacks_last : (o : Origin) (fares : FareEnds) (path : Path) → (fs : List Flight) → IsHead o.case.now.book.now o.case.now.request.now.slices o.at.now path.flights fs path.after → ((fs : List Flight) → Numbers o.case.now.book.now path.flights fs → path.flights ≢ [] → ⊥) → LacksFares o fares path
lacks_last o fares path fs h none gs n = absurd (none gs n h.path.some)

-- or its landing is added
pub landing_one : (o : Origin) (fares : FareEnds) (p : NumberedPath) (old new : List Landing) (last : Flight) (l : Landing) → (fs : List Flight) → IsHead o.case.now.book.now o.case.now.request.now.slices o.at.now p.path.now.flights fs p.path.now.after
    → ((fs : List Flight) → Numbers o.case.now.book.now p.path.now.flights fs → HasLegs o.case.now.book.now o.case.now.request.now fs l.classes) → EndsWith o.case.now.book.now p.path.now.flights last → IsFareEnd o.case.now.book.now (key_to o last.to) fares l.end
    → l.path ≡ p.number → l.place ≡ last.to → l.last ≡ last.day → new ≡ old ++ l ∷ [] → AddsLanding o fares p old new
landing_one o fares p old new last l fs head legs ends end number place day e = record {
  more = l ∷ [];
  joined = e;
  each = (
    (
      number,
      record {
        head = (fs, head);
        legs = legs;
        ends = λ gs n. on_last (λ f. f ≡ last) (λ f. (f.to ≡ l.place) × (f.day ≡ l.last)) (λ f same. (ap (λ (x : Flight). x.to) same ∙ sym place, ap (λ (x : Flight). x.day) same ∙ sym day)) gs (ends gs n);
        end = subst (λ to. IsFareEnd o.case.now.book.now (key_to o to) fares l.end) (sym place) end;
      },
    ),
    tt,
  );
  gathered = inl (l, inl refl, number);
}

-- as more fares are known
module _ (o : Origin) (old new : FareEnds) (more : KnowsMore old new) where
  landing_more : (path : Path) (l : Landing) → IsLanding o old path l → IsLanding o new path l
  landing_more path l h = record { head = h.head; legs = h.legs; ends = h.ends; end = end_more o.case.now.book.now (key_to o l.place) old new more l.end h.end }

  pub landings_more : (paths : List Path) (landings : List Landing) → AreLandings o old paths landings → AreLandings o new paths landings
  landings_more paths landings h = each_by (λ (l : Landing). (path : Path) × (slice_get paths l.path ≡ Some path) × IsLanding o old path l) (λ (l : Landing). (path : Path) × (slice_get paths l.path ≡ Some path) × IsLanding o new path l) landings (λ l x. (x.0, x.1, landing_more x.0 l x.2)) h

  lacks_more : (path : Path) → LacksFares o old path → LacksFares o new path
  lacks_more path h fs n = on_last (λ f. (reverse : Bool) → HasWay o.case.now.book.now (key_to o f.to) old reverse []) (λ f. (reverse : Bool) → HasWay o.case.now.book.now (key_to o f.to) new reverse []) (λ f ways reverse.
      way_more o.case.now.book.now (key_to o f.to) old new more reverse [] [] (λ g i. i) (ways reverse)) fs (h fs n)

  gathered_more : (landings wider : List Landing) → ((l : Landing) → IsIn l landings → IsIn l wider) → (number : ℕ) (path : Path) → IsGathered o old landings number path → IsGathered o new wider number path
  gathered_more landings wider among number path (inl x) = inl (x.0, among x.0 x.1, x.2)
  gathered_more landings wider among number path (inr (inl closed)) = inr (inl closed)
  gathered_more landings wider among number path (inr (inr lacks)) = inr (inr (lacks_more path lacks))

gathered_wider : (o : Origin) (fares : FareEnds) (landings wider : List Landing) → ((l : Landing) → IsIn l landings → IsIn l wider) → (number : ℕ) (path : Path) → IsGathered o fares landings number path → IsGathered o fares wider number path
gathered_wider o fares landings wider among number path (inl x) = inl (x.0, among x.0 x.1, x.2)
gathered_wider o fares landings wider among number path (inr x) = inr x

crossing_wider : (b : Book) (q : Request) (at : Position) (heads wider : List CrossingHead) → ((h : CrossingHead) → IsIn h heads → IsIn h wider) → (path : Path) → IsCrossingGathered b q at heads path → IsCrossingGathered b q at wider path
crossing_wider b q at heads wider among path h opened tail f = let x = h opened tail f in (x.0, among x.0 x.1, x.2)

-- none at first
pub heads_none : (o : Origin) (fares : FareEnds) (paths : List Path) (landings : List Landing) (heads : List CrossingHead) → landings ≡ [] → AddsHeads o fares paths 0 landings heads heads
heads_none o fares paths landings heads none = record {
  landed = subst (AreLandings o fares paths) (sym none) tt;
  gathered = λ n path lt got. absurd (omega (arith, lt));
  more = [];
  joined = sym (append-nil heads);
  each = tt;
  all = λ n path lt got. absurd (omega (arith, lt));
}

-- one head more
pub heads_next : (o : Origin) (one two : FareEnds) (paths : List Path) (count : ℕ) (landings wider : List Landing) (old mid new : List CrossingHead) (p : NumberedPath) → KnowsMore one two → slice_get paths count ≡ Some p.path.now → p.number ≡ count → AddsHeads o one paths count landings old mid
    → AddsLanding o two p landings wider → AddsCrossing o.case.now.book.now o.case.now.request.now o.at.now p.path.now mid new → AddsHeads o two paths (count + 1) wider old new
heads_next o one two paths count landings wider old mid new p more stands number h l c = record {
  landed = subst (AreLandings o two paths) (sym l.joined) (each_append (λ (x : Landing). (path : Path) × (slice_get paths x.path ≡ Some path) × IsLanding o two path x) landings l.more (landings_more o one two more paths landings h.landed)
      (each_by (λ (x : Landing). (x.path ≡ p.number) × IsLanding o two p.path.now x) (λ (x : Landing). (path : Path) × (slice_get paths x.path ≡ Some path) × IsLanding o two path x) l.more (λ x is. (p.path.now, ap (slice_get paths) (is.0 ∙ number) ∙ stands, is.1)) l.each));
  gathered = λ n path lt got. elim (here_or_before n count lt) [
    | inl before ↦ gathered_more o one two more landings wider (λ x i. subst (IsIn x) (sym l.joined) (in_left x landings l.more i)) n path (h.gathered n path before got)
    | inr same ↦ subst (λ (y : Path). IsGathered o two wider n y) (some_one (slice_get paths count) p.path.now path stands (ap (slice_get paths) (sym same) ∙ got))
        (subst (λ m. IsGathered o two wider m p.path.now) (number ∙ sym same) (gathered_wider o two l.more wider (λ x i. subst (IsIn x) (sym l.joined) (in_right x landings l.more i)) p.number p.path.now l.gathered))
  ];
  more = h.more ++ c.more;
  joined = c.joined ∙ ap (λ xs. xs ++ c.more) h.joined ∙ append_assoc old h.more c.more;
  each = each_append (λ (x : CrossingHead). (path : Path) × IsCrossingHead o.case.now.book.now o.case.now.request.now o.at.now path x) h.more c.more h.each (each_by (IsCrossingHead o.case.now.book.now o.case.now.request.now o.at.now p.path.now) (λ (x : CrossingHead). (path : Path) × IsCrossingHead o.case.now.book.now o.case.now.request.now o.at.now path x) c.more (λ x is. (p.path.now, is)) c.each);
  all = λ n path lt got. elim (here_or_before n count lt) [
    | inl before ↦ crossing_wider o.case.now.book.now o.case.now.request.now o.at.now h.more (h.more ++ c.more) (λ x i. in_left x h.more c.more i) path (h.all n path before got)
    | inr same ↦ subst (IsCrossingGathered o.case.now.book.now o.case.now.request.now o.at.now (h.more ++ c.more)) (some_one (slice_get paths count) p.path.now path stands (ap (slice_get paths) (sym same) ∙ got)) (crossing_wider o.case.now.book.now o.case.now.request.now o.at.now c.more (h.more ++ c.more) (λ x i. in_right x h.more c.more i) p.path.now c.all)
  ];
}

-- all heads of the origin
module _ (o : Origin) (origin : IsOrigin o) (fares : FareEnds) (rules : AreKnownRules o.case.now.book.now fares.rules.of.items) (limited : Limited o.case.now.book.now) (paths : List Path) (are : AreHeads o.case.now.book.now o.case.now.request.now.slices o.at.now paths)
    (landings : List Landing) (old new : List CrossingHead) (h : AddsHeads o fares paths (length paths) landings old new) where
  abbrev b : Book
  b = o.case.now.book.now

  abbrev q : Request
  q = o.case.now.request.now

  abbrev at : Position
  at = o.at.now

  place_of : (path : Path) (fs : List Flight) → IsHead b q.slices at path.flights fs path.after → (n : ℕ) × (slice_get paths n ≡ Some path) × (n < length paths)
  place_of path fs is = let n = in_got paths path ((are.are path).1 (fs, is)) in (n.0, n.1, got_within paths n.0 path n.1)

  pub heads_cross : AreCrossingHeads b q at h.more
  heads_cross = record { each = h.each; all = λ path fs is. let n = place_of path fs is in h.all n.0 path n.2 n.1 }

  -- the components on them are those on the landings
  head_landed : (x : Outline) (price : ℕ) (w : Outlined b q at x price) → HeadPaths b q at x w.numbers → LandedPaths paths landings x w.numbers
  head_landed x price w head = by (h.gathered n.0 path n.2 n.1)
    where
      path : Path
      path = record { flights = w.numbers; after = x.after }

      n : (n : ℕ) × (slice_get paths n ≡ Some path) × (n < length paths)
      n = place_of path head.0 head.1

      numbers : Numbers b w.numbers head.0
      numbers = head_flights b q.slices at w.numbers head.0 x.after head.1

      carrier : OnFirst (λ f. f.carrier ≡ o.first.now.carrier) head.0
      carrier = first_by (λ f. f ≡ o.first.now) (λ f. f.carrier ≡ o.first.now.carrier) head.0 (λ f e. ap (λ (y : Flight). y.carrier) e) (origin_first o origin w.numbers head.0 x.after head.1.path)

      lacks : LacksFares o fares path → ⊥
      lacks none =
          let last = last_flight_of (λ f. (reverse : Bool) → HasWay b (key_to o f.to) fares reverse []) head.0 (none head.0 numbers) in
          let legs = legs_exist b q head.0 in
          let ends = on_last (λ f. f ≡ last.0) (λ f. f.to ≡ last.0.to) (λ f e. ap (λ (y : Flight). y.to) e) head.0 last.2 in
          (way_found b q at path head.0 legs.0 head.1.path legs.1 (key_to o last.0.to) refl carrier ends fares rules limited [] last.1 x price w refl).1

      by : IsGathered o fares landings n.0 path → LandedPaths paths landings x w.numbers
      by (inl l) = (l.0, l.1, path, ap (slice_get paths) l.2 ∙ n.1, refl)
      by (inr (inl closed)) = absurd (closed (open_path b q at x price w limited))
      by (inr (inr none)) = absurd (lacks none)

  pub heads_landed : (known : List RuledOutline) (table : List Priced) → HasThose b q at (LandedPaths paths landings) known table → HasThose b q at (HeadPaths b q at) known table
  heads_landed known table has = record { numbers = has.numbers; right = has.right; covers = λ x price w head. has.covers x price w (head_landed x price w head) }

-- landings in another order
pub landings_sorted : (o : Origin) (fares : FareEnds) (paths : List Path) (landings sorted : List Landing) → IsPermutation landings sorted → AreLandings o fares paths landings → AreLandings o fares paths sorted
landings_sorted o fares paths landings sorted order are = each_reordered (λ (l : Landing). (path : Path) × (slice_get paths l.path ≡ Some path) × IsLanding o fares path l) landings sorted order are

-- have the same components
pub sorted_found : (b : Book) (q : Request) (at : Position) (paths : List Path) (landings sorted : List Landing) (known : List RuledOutline) (before table : List Priced) → IsPermutation landings sorted → before ≡ [] → AddsThose b q at (LandedPaths paths sorted) known before table → HasThose b q at (LandedPaths paths landings) known table
sorted_found b q at paths landings sorted known before table order none a =
    subst (HasThose b q at (LandedPaths paths landings) known) (sym (a.joined ∙ ap (λ xs. xs ++ a.more) none)) (record {
      numbers = a.has.numbers;
      right = a.has.right;
      covers = λ x price w these. a.has.covers x price w (these.0, in_reordered landings sorted these.0 order these.1, these.2, these.3, these.4);
    })

-- the paths of a position that are heads
pub are_heads : (o : Origin) (paths : List Path) → AreHeads o.case.now.book.now o.case.now.request.now.slices o.at.now paths → AreHeadsOf o paths
are_heads o paths are = each_from (λ (path : Path). (fs : List Flight) × IsHead o.case.now.book.now o.case.now.request.now.slices o.at.now path.flights fs path.after) paths (λ path i. (are.are path).0 i)
