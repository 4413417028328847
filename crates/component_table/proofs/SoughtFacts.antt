-- The least price of a group on landings goes down as they are done, one after another.
use Rattle.std.proofs.Common.{◌≡◌, ◌⊎◌, ℕ, ◌+◌, ◌≤◌, Bool, true, false, List, [], ◌∷◌, ◌++◌, length, take, get_or, slice_get, Option, Some, None, IfNone, IfSome, refl, sym, ap, subst, ◌∙◌, inl, inr, arith}
use Rattle.component_table.specs.declared.begun.Origin.{Origin}
use Rattle.component_table.specs.declared.landed.LandedClass.{LandedClass}
use Rattle.component_table.specs.declared.landed.LandedSought.{LandedSought}
use Rattle.component_table.specs.declared.landed.Landing.{Landing}
use Rattle.component_table.specs.Begun.{AreLandings, IsLanding, IsOrigin}
use Rattle.component_table.specs.Landed.{IsLandedClass, IsLandedGroup, IsLandedOf, IsLandedSought, IsOriginRule, IsSaidOfRule, SaysOfFlights, SaysOfLanded, SaysOfLandings}
use Rattle.component_table.proofs.LandedFacts.{origin_first}
use Rattle.component_table.proofs.PathGroups.{first_by}
use Rattle.fare_ends.specs.declared.ends.EndGroup.{EndGroup}
use Rattle.fare_ends.specs.declared.ends.FareEnds.{FareEnds}
use Rattle.fare_ends.specs.declared.rule_numbers.KnownRule.{KnownRule}
use Rattle.fare_ends.specs.Ends.{between}
use Rattle.fare_ends.specs.Rules.{TestsNothing}
use Rattle.fare_ends.specs.Rungs.{AreRungs}
use Rattle.fare_ends.proofs.RungFacts.{rungs_fall, share_low}
use Rattle.fare_groups.specs.declared.group.GroupedFare.{GroupedFare}
use Rattle.fare_groups.specs.declared.rungs.Rung.{Rung}
use Rattle.fare_groups.specs.Grouping.{first_share}
use Rattle.fare_groups.specs.Groups.{Permits, extra_of}
use Rattle.fare_law.specs.declared.flights.Flight.{Flight}
use Rattle.fare_law.specs.declared.names.Carrier.{Carrier}
use Rattle.fare_law.specs.Lists.{IsIn, OnFirst}
use Rattle.fare_law.specs.Parts.{Numbers}
use Rattle.flight_paths.specs.declared.positions.Path.{Path}
use Rattle.flight_paths.proofs.Joining.{head_flights}
use Rattle.joint_paths.specs.declared.rule_charges.Charged.{Charged}
use Rattle.joint_paths.specs.declared.rule_charges.Charged.TheVariants.{NotAsked, Refused, Permitted}
use Rattle.joint_paths.specs.declared.rule_charges.RuleCharges.{RuleCharges}
use Rattle.joint_paths.specs.Costs.{Costs, CostsLeast, CostsNoLess, GoesDown, IsAtLeast}
use Rattle.joint_paths.specs.Said.{AreSaid, IsSaid, PutsCharged}
use Rattle.joint_paths.proofs.CostFacts.{at_least_on, down_free, down_kept, down_none, down_on, down_taken, least_down}
use Rattle.joint_paths.proofs.FreeFacts.{free_extra, free_permits}
use Rattle.joint_paths.proofs.SaidFacts.{said_put}
use Rattle.law_lemmas.proofs.EachOne.{each_got, each_in}
use Rattle.law_lemmas.proofs.LawFacts.{numbers_one}
use Rattle.law_lemmas.proofs.Lists.{get_is}
use Rattle.law_lemmas.proofs.Members.{got_in, in_either, in_one}
use Rattle.law_lemmas.proofs.Options.{not_both, some_one, some_same}
use Rattle.fare_ends.specs.Floors.{OpenPath}
use Rattle.fare_ends.specs.Legs.{AreAmong}
use Rattle.fare_ends.proofs.Shares.{least_of_closed}

-- a landing's path, as a path of landings
pub landed_path : (o : Origin) (fares : FareEnds) (paths : List Path) (landings : List Landing) (l : Landing) → AreLandings o fares paths landings → IsIn l landings → (p : OpenPath) × IsLandedOf o paths (l ∷ []) p × IsLandedOf o paths landings p
landed_path o fares paths landings l are i =
    let x = each_in (λ (l : Landing). (path : Path) × (slice_get paths l.path ≡ Some path) × IsLanding o fares path l) landings l are i in
    let path = x.0 in
    let h = x.2.head in
    let numbers = head_flights o.case.now.book.now o.case.now.request.now.slices o.at.now path.flights h.0 path.after h.1 in (
      record { flights = h.0; classes = l.classes },
      record { landing = l; within = inl refl; path = path; stands = x.1; numbers = numbers; classes = refl },
      record { landing = l; within = i; path = path; stands = x.1; numbers = numbers; classes = refl },
    )

module _ (o : Origin) (paths : List Path) (rule : KnownRule) (fares : List GroupedFare) (rungs : List Rung) (are : AreRungs fares rungs) (all : OpenPath → Type 0) (l : Landing) where
  abbrev One : OpenPath → Type 0
  One = IsLandedOf o paths (l ∷ [])

  -- a price on the path of a landing has the share of its classes
  share_of : (p : OpenPath) → One p → (price : ℕ) (c : Costs rule rungs p price) → first_share rungs l.classes ≡ Some c.share
  share_of p i price c = subst (λ n. first_share rungs n ≡ Some c.share) (i.classes ∙ ap (λ (x : Landing). x.classes) (in_one i.landing l i.within)) c.open_share

  says_of : (said : Option ℕ) → SaysOfLanded o rule paths l said → (p : OpenPath) → One p → SaysOfFlights rule p.flights said
  says_of said says p i = says i.path (ap (λ (x : Landing). slice_get paths x.path) (sym (in_one i.landing l i.within)) ∙ i.stands) p.flights i.numbers

  -- no fare is open on it
  pub landing_closed : (least : Option ℕ) → first_share rungs l.classes ≡ None → GoesDown rule rungs all One least least
  landing_closed least none = down_free rule rungs all One least (λ p i price c. not_both (first_share rungs l.classes) c.share (share_of p i price c) none)

  -- the cheapest fare is too dear
  pub landing_dear : (least : Option ℕ) (share : ℕ) → first_share rungs l.classes ≡ Some share → IsAtLeast least share → GoesDown rule rungs all One least least
  landing_dear least share e h = down_kept rule rungs all One share least (λ p i price c. most price c.share (extra_of rule.rule p.flights) (some_one (first_share rungs l.classes) share c.share e (share_of p i price c)) c.price_is) h
    where
      most : (price own extra : ℕ) → share ≡ own → price ≡ own + extra → share ≤ price
      most price own extra s q = omega (arith, s, q)

  -- its rule doesn't permit the flights
  pub landing_refused : (least : Option ℕ) → SaysOfLanded o rule paths l None → GoesDown rule rungs all One least least
  landing_refused least says = down_free rule rungs all One least (λ p i price c. says_of None says p i c.permits)

  -- or it has a price
  module _ (share charges : ℕ) (e : first_share rungs l.classes ≡ Some share) (says : SaysOfLanded o rule paths l (Some charges)) (path : OpenPath) (one : One path) where
    told : SaysOfFlights rule path.flights (Some charges)
    told = says_of (Some charges) says path one

    -- which is low
    pub price_low : (share ≤ 1000000000) × (charges ≤ 35000000)
    price_low = (share_low fares rungs l.classes share are e, told.2)

    costs : Costs rule rungs path (share + charges)
    costs = record {
      permits = told.0;
      share = share;
      open_share = subst (λ n. first_share rungs n ≡ Some share) (sym (one.classes ∙ ap (λ (x : Landing). x.classes) (in_one one.landing l one.within))) e;
      price_is = ap (λ n. share + n) told.1;
    }

    none_less : CostsNoLess rule rungs One (share + charges)
    none_less p i price c =
        let said = says_of (Some charges) says p i in
        same price c.share (extra_of rule.rule p.flights) (some_one (first_share rungs l.classes) share c.share e (share_of p i price c)) said.1 c.price_is
      where
        same : (price own extra : ℕ) → share ≡ own → charges ≡ extra → price ≡ own + extra → share + charges ≤ price
        same price own extra s x q = omega (arith, s, x, q)

    pub landing_taken : all path → (least : Option ℕ) (result : ℕ) → result ≤ share + charges → IfSome least (λ l. result ≤ l) → (result ≡ share + charges) ⊎ (least ≡ Some result) → GoesDown rule rungs all One least (Some result)
    landing_taken within least result le low is =
        let few = price_low in
        down_taken rule rungs all One (share + charges) result least (let x = few.0 in let y = few.1 in omega (arith, x, y)) (record { path = path; one_of = within; costs = costs }) none_less le low is

-- one landing more is done
pub landings_next : (o : Origin) (paths : List Path) (landings : List Landing) (rule : KnownRule) (rungs : List Rung) (all : OpenPath → Type 0) (at : ℕ) (l : Landing) (old mid new : Option ℕ) → take (at + 1) landings ≡ take at landings ++ l ∷ [] → GoesDown rule rungs all (IsLandedOf o paths (take at landings)) old mid → GoesDown rule rungs all (IsLandedOf o paths (l ∷ [])) mid new
    → GoesDown rule rungs all (IsLandedOf o paths (take (at + 1) landings)) old new
landings_next o paths landings rule rungs all at l old mid new e h k = down_on rule rungs all (IsLandedOf o paths (take at landings)) (IsLandedOf o paths (l ∷ [])) (IsLandedOf o paths (take (at + 1) landings)) old mid new
    (λ p i. elim (in_either i.landing (take at landings) (l ∷ []) (subst (IsIn i.landing) e i.within)) [
      | inl x ↦ inl (record { landing = i.landing; within = x; path = i.path; stands = i.stands; numbers = i.numbers; classes = i.classes })
      | inr y ↦ inr (record { landing = i.landing; within = y; path = i.path; stands = i.stands; numbers = i.numbers; classes = i.classes })
    ]) h k

-- of none at first
pub landings_none : (o : Origin) (paths : List Path) (rule : KnownRule) (rungs : List Rung) (all : OpenPath → Type 0) (least : Option ℕ) → GoesDown rule rungs all (IsLandedOf o paths []) least least
landings_none o paths rule rungs all least = down_none rule rungs all (IsLandedOf o paths []) least (λ p i. i.within)

-- the others aren't below the least price, where no path is
pub landings_stop : (o : Origin) (c : LandedClass) (rule : KnownRule) (rungs : List Rung) (more : OpenPath → Type 0) (floor : ℕ) (least : Option ℕ) → CostsNoLess rule rungs (IsLandedOf o c.paths.now c.landings.now) floor → IsAtLeast least floor
    → GoesDown rule rungs (IsLandedOf o c.paths.now c.landings.now) more None least → CostsLeast rule rungs (IsLandedOf o c.paths.now c.landings.now) least
landings_stop o c rule rungs more floor least none low h = least_down rule rungs (IsLandedOf o c.paths.now c.landings.now) least (record { some = h.some; low = h.low; falls = h.falls; done = λ p i price cost. at_least_on least floor price low (none p i price cost) })

-- a group of the end of a class, on its landings
module _ (o : Origin) (fares : FareEnds) (c : LandedClass) (is : IsLandedClass o fares c) (g : EndGroup) (group : IsLandedGroup o fares g) (rungs : List Rung) (same : rungs ≡ between fares.rungs.items g.from g.to) where
  abbrev Paths : OpenPath → Type 0
  Paths = IsLandedOf o c.paths.now c.landings.now

  own : AreRungs group.of rungs
  own = subst (AreRungs group.of) (sym same) group.rungs

  open_within : (p : OpenPath) → Paths p → AreAmong p.classes c.classes
  open_within p i = subst (λ n. AreAmong n c.classes) (sym i.classes) (is.classes i.landing i.within)

  -- none of its fares is open on any path
  pub group_closed : (rule : KnownRule) → first_share rungs c.classes ≡ None → CostsLeast rule (between fares.rungs.items g.from g.to) Paths None
  group_closed rule e = subst (λ rs. CostsLeast rule rs Paths None) same (least_of_closed rule.rule rule.carrier (first_share rungs) (rungs_fall group.of rungs own) Paths c.classes e (λ p i permits. open_within p i))

  -- the cheapest fare is a floor
  pub group_floor : (rule : KnownRule) (floor : ℕ) → first_share rungs c.classes ≡ Some floor → CostsNoLess rule rungs Paths floor
  group_floor rule floor e p i price cost =
      let low = rungs_fall group.of rungs own p.classes c.classes (open_within p i) cost.share cost.open_share in
      most low.0 cost.share (extra_of rule.rule p.flights) price (some_one (first_share rungs c.classes) floor low.0 e low.1) low.2 cost.price_is
    where
      most : (low own extra price : ℕ) → floor ≡ low → low ≤ own → price ≡ own + extra → floor ≤ price
      most low own extra price a b d = omega (arith, a, b, d)

  -- what is sought of it
  pub group_sought : (rule : KnownRule) → slice_get fares.rules.of.items g.rule ≡ Some rule → (s : LandedSought) → s.rungs.now ≡ rungs → s.rule.now ≡ rule → s.number ≡ g.rule → first_share rungs c.classes ≡ Some s.floor → IsLandedSought o c s
  group_sought rule stands s rungs_are rule_is number e = record {
    landings = (fares, is.landings);
    fares = group.of;
    rungs = subst (AreRungs group.of) (sym rungs_are) own;
    rules = fares.rules.of.items;
    stands = subst (λ n. slice_get fares.rules.of.items n ≡ Some s.rule.now) (sym number) (subst (λ r. slice_get fares.rules.of.items g.rule ≡ Some r) (sym rule_is) stands);
    own = subst (IsOriginRule o) (some_one (slice_get fares.rules.of.items g.rule) group.rule rule group.stands stands ∙ sym rule_is) group.own;
    floor = subst (λ rs. CostsNoLess s.rule.now rs Paths s.floor) (sym rungs_are) (group_floor s.rule.now s.floor e);
  }

-- what the rule of a number says of landings
module _ (o : Origin) (c : LandedClass) (s : LandedSought) where
  abbrev Says : List KnownRule → ℕ → ℕ → Option ℕ → Type 0
  Says rules = SaysOfLandings o rules c

  says_alike : (rules other : List KnownRule) → slice_get rules s.number ≡ Some s.rule.now → slice_get other s.number ≡ Some s.rule.now → (number at : ℕ) (said : Option ℕ) → number ≡ s.number → Says rules number at said → Says other number at said
  says_alike rules other here there number at said e h r got l stands =
      let same : s.rule.now ≡ r = some_one (slice_get other number) s.rule.now r (ap (slice_get other) e ∙ there) got in
      subst (λ x. SaysOfLanded o x c.paths.now l said) same (h s.rule.now (ap (slice_get rules) e ∙ here) l stands)

  said_alike : (rules other : List KnownRule) → slice_get rules s.number ≡ Some s.rule.now → slice_get other s.number ≡ Some s.rule.now → (number at : ℕ) (ch : Charged) → number ≡ s.number → IsSaid (Says rules number at) ch → IsSaid (Says other number at) ch
  said_alike rules other here there number at NotAsked e h = tt
  said_alike rules other here there number at Refused e h = says_alike rules other here there number at None e h
  said_alike rules other here there number at (Permitted x) e h = says_alike rules other here there number at (Some x) e h

  -- whichever rules are listed
  pub said_of_rule : (rules : List KnownRule) (charges : RuleCharges) → slice_get rules s.number ≡ Some s.rule.now → charges.rule ≡ Some s.number → AreSaid (Says rules) (length c.landings.now) charges → IsSaidOfRule o c s charges
  said_of_rule rules charges here turned h tests = (
    turned,
    λ other there number is.
        let a = h number is in
        (a.0, λ at ch e. said_alike rules other here there number at ch (some_same number s.number (sym is ∙ turned)) (a.1 at ch e)),
  )

  module _ (rules : List KnownRule) (stands : slice_get rules s.number ≡ Some s.rule.now) (charges : RuleCharges) (turned : charges.rule ≡ Some s.number) (are : AreSaid (Says rules) (length c.landings.now) charges) where
    -- there is a place for each landing
    pub said_many : length charges.of.items ≡ length c.landings.now
    said_many = (are s.number turned).0

    -- at which stands what is said of it
    pub said_at : (at : ℕ) (ch : Charged) (l : Landing) → slice_get charges.of.items at ≡ Some ch → slice_get c.landings.now at ≡ Some l → IsSaid (SaysOfLanded o s.rule.now c.paths.now l) ch
    said_at at ch l e got = by ch ((are s.number turned).1 at ch e)
      where
        by : (x : Charged) → IsSaid (Says rules s.number at) x → IsSaid (SaysOfLanded o s.rule.now c.paths.now l) x
        by NotAsked h = tt
        by Refused h = h s.rule.now stands l got
        by (Permitted n) h = h s.rule.now stands l got

  -- and it stays so as one more is asked
  pub said_asked : (old new : RuleCharges) (at : ℕ) (l : Landing) (said : Option ℕ) → IsSaidOfRule o c s old → new.rule ≡ old.rule → PutsCharged at said old.of.items new.of.items → slice_get c.landings.now at ≡ Some l → SaysOfLanded o s.rule.now c.paths.now l said → IsSaidOfRule o c s new
  said_asked old new at l said h same puts got says tests =
      let x = h tests in (
        same ∙ x.0,
        λ rules here. said_put (Says rules) (length c.landings.now) at said old new same puts (λ number is r rgot l' lgot.
            let e = some_same number s.number (sym is ∙ x.0) in
            let rule : s.rule.now ≡ r = some_one (slice_get rules number) s.rule.now r (ap (slice_get rules) e ∙ here) rgot in
            let landing : l ≡ l' = some_one (slice_get c.landings.now at) l l' got lgot in
            subst (λ y. SaysOfLanded o y c.paths.now l' said) rule (subst (λ y. SaysOfLanded o s.rule.now c.paths.now y said) landing says)) (x.1 rules here),
      )

-- a landing that was read by its place, with its path
pub read_landing : (o : Origin) (fares : FareEnds) (paths : List Path) (landings : List Landing) (at : ℕ) (l d : Landing) (path e : Path) → AreLandings o fares paths landings → slice_get landings at ≡ Some l → path ≡ get_or paths (get_or landings at d).path e → (slice_get paths l.path ≡ Some path) × IsLanding o fares path l
read_landing o fares paths landings at l d path e are got is =
    let y = each_got (λ (l : Landing). (path : Path) × (slice_get paths l.path ≡ Some path) × IsLanding o fares path l) landings at l are got in
    let same : path ≡ y.0 = is ∙ ap (λ (x : Landing). get_or paths x.path e) (get_is landings at l d got) ∙ get_is paths l.path y.0 e y.1 in
    (subst (λ (p : Path). slice_get paths l.path ≡ Some p) (sym same) y.1, subst (λ (p : Path). IsLanding o fares p l) (sym same) y.2)

-- the path of a landing that was found by its place
pub landing_at : (o : Origin) (fares : FareEnds) (paths : List Path) (landings : List Landing) (l : Landing) (at : ℕ) (path : Path) → AreLandings o fares paths landings → slice_get landings at ≡ Some l → slice_get paths l.path ≡ Some path → IsLanding o fares path l
landing_at o fares paths landings l at path are got stands =
    let y = each_got (λ (l : Landing). (path : Path) × (slice_get paths l.path ≡ Some path) × IsLanding o fares path l) landings at l are got in
    subst (λ (p : Path). IsLanding o fares p l) (some_one (slice_get paths l.path) y.0 path y.1 stands) y.2

-- the flights of a landing
module _ (o : Origin) (origin : IsOrigin o) (fares : FareEnds) (path : Path) (l : Landing) (h : IsLanding o fares path l) where
  pub flights_are : (fs : List Flight) → Numbers o.case.now.book.now path.flights fs → h.head.0 ≡ fs
  flights_are fs n = numbers_one o.case.now.book.now path.flights h.head.0 fs (head_flights o.case.now.book.now o.case.now.request.now.slices o.at.now path.flights h.head.0 path.after h.head.1) n

  pub flights_few : (fs : List Flight) → Numbers o.case.now.book.now path.flights fs → (1 ≤ length fs) × (length fs ≤ 4)
  flights_few fs n = subst (λ gs. (1 ≤ length gs) × (length gs ≤ 4)) (flights_are fs n) (some h.head.0 (origin_first o origin path.flights h.head.0 path.after h.head.1.path), h.head.1.path.shape.few)
    where
      some : (gs : List Flight) → OnFirst (λ f. f ≡ o.first.now) gs → 1 ≤ length gs
      some [] x = absurd x
      some (g ∷ gs) x = omega arith

  pub flights_own : (carrier : Carrier) → carrier ≡ o.first.now.carrier → (fs : List Flight) → Numbers o.case.now.book.now path.flights fs → OnFirst (λ f. f.carrier ≡ carrier) fs
  flights_own carrier e fs n = subst (OnFirst (λ f. f.carrier ≡ carrier)) (flights_are fs n) (first_by (λ f. f ≡ o.first.now) (λ f. f.carrier ≡ carrier) h.head.0 (λ f x. ap (λ (y : Flight). y.carrier) x ∙ sym e) (origin_first o origin path.flights h.head.0 path.after h.head.1.path))

-- what a rule says of flights, as it was asked
pub says_from : (r : KnownRule) (gs fs : List Flight) (said : Option ℕ) → gs ≡ fs → IfSome said (λ charges. Permits r.rule r.carrier gs × (charges ≡ extra_of r.rule gs)) → IfNone said (Permits r.rule r.carrier gs → ⊥) → IfSome said (λ charges. charges ≤ 35000000) → SaysOfFlights r fs said
says_from r gs fs None e some none low = λ permits. none (subst (Permits r.rule r.carrier) (sym e) permits)
says_from r gs fs (Some charges) e some none low = (subst (Permits r.rule r.carrier) e some.0, some.1 ∙ ap (extra_of r.rule) e, low)

-- and as it tests nothing
pub says_free : (r : KnownRule) (fs : List Flight) → TestsNothing r.rule → OnFirst (λ f. f.carrier ≡ r.carrier) fs → SaysOfFlights r fs (Some 0)
says_free r fs tests first = (free_permits r.rule r.carrier fs tests first, sym (free_extra r.rule fs tests), omega arith)

-- a landing that was read by its place, as what is sought of it goes on
module _ (o : Origin) (c : LandedClass) (s : LandedSought) (is : IsLandedSought o c s) (at : ℕ) (l d : Landing) (got : slice_get c.landings.now at ≡ Some l) where
  abbrev rungs : List Rung
  rungs = s.rungs.now

  abbrev All : OpenPath → Type 0
  All = IsLandedOf o c.paths.now c.landings.now

  abbrev Own : OpenPath → Type 0
  Own = IsLandedOf o c.paths.now (l ∷ [])

  own_share : (share : Option ℕ) → share ≡ first_share s.rungs.now (get_or c.landings.now at d).classes → first_share s.rungs.now l.classes ≡ share
  own_share share e = ap (λ (x : Landing). first_share s.rungs.now x.classes) (sym (get_is c.landings.now at l d got)) ∙ sym e

  pub read_closed : (least : Option ℕ) → None ≡ first_share s.rungs.now (get_or c.landings.now at d).classes → GoesDown s.rule.now s.rungs.now All Own least least
  read_closed least e = landing_closed o c.paths.now s.rule.now is.fares s.rungs.now is.rungs All l least (own_share None e)

  pub read_dear : (least : Option ℕ) (share : ℕ) → Some share ≡ first_share s.rungs.now (get_or c.landings.now at d).classes → IsAtLeast least share → GoesDown s.rule.now s.rungs.now All Own least least
  read_dear least share e h = landing_dear o c.paths.now s.rule.now is.fares s.rungs.now is.rungs All l least share (own_share (Some share) e) h

  pub read_refused : (least : Option ℕ) → SaysOfLanded o s.rule.now c.paths.now l None → GoesDown s.rule.now s.rungs.now All Own least least
  read_refused least says = landing_refused o c.paths.now s.rule.now is.fares s.rungs.now is.rungs All l least says

  module _ (share charges : ℕ) (e : Some share ≡ first_share s.rungs.now (get_or c.landings.now at d).classes) (says : SaysOfLanded o s.rule.now c.paths.now l (Some charges)) where
    path : (p : OpenPath) × Own p × All p
    path = landed_path o is.landings.0 c.paths.now c.landings.now l is.landings.1 (got_in c.landings.now at l got)

    pub read_low : share + charges ≤ 1035000000
    read_low = let x = price_low o c.paths.now s.rule.now is.fares s.rungs.now is.rungs All l share charges (own_share (Some share) e) says path.0 path.1 in let y = x.0 in let z = x.1 in omega (arith, y, z)

    pub read_taken : (least : Option ℕ) (result : ℕ) → result ≤ share + charges → IfSome least (λ l. result ≤ l) → (result ≡ share + charges) ⊎ (least ≡ Some result) → GoesDown s.rule.now s.rungs.now All Own least (Some result)
    read_taken least result le low one = landing_taken o c.paths.now s.rule.now is.fares s.rungs.now is.rungs All l share charges (own_share (Some share) e) says path.0 path.1 path.2 least result le low one

pub both_ways : (b : Bool) → b ≡ true → b ≡ false → ⊥
both_ways true e f = cc
both_ways false e f = cc

-- what is said of landings after they were gone through
pub said_after : (o : Origin) (c : LandedClass) (s : LandedSought) (rules : List KnownRule) (old mid new : RuleCharges) → slice_get rules s.number ≡ Some s.rule.now → (s.rule.now.is_free ≡ true → mid ≡ old) → (s.rule.now.is_free ≡ true → new ≡ mid) → IsSaidOfRule o c s new
    → AreSaid (SaysOfLandings o rules c) (length c.landings.now) old → AreSaid (SaysOfLandings o rules c) (length c.landings.now) new
said_after o c s rules old mid new stands turned gone said are = by s.rule.now.is_free refl
  where
    by : (f : Bool) → s.rule.now.is_free ≡ f → AreSaid (SaysOfLandings o rules c) (length c.landings.now) new
    by true e = subst (AreSaid (SaysOfLandings o rules c) (length c.landings.now)) (sym (gone e ∙ turned e)) are
    by false e = (said e).1 rules stands
