-- What the search for the least price rests on at each step: rooms that stay right, floors, and paths that cost nothing.
use Rattle.std.proofs.Common.{◌≡◌, ℕ, ◌+◌, ◌<◌, ◌≤◌, true, List, [], ◌∷◌, ◌++◌, length, get_or, take, slice_get, Option, Some, None, IfNone, IfSome, bit_and, sym, ap, subst, ◌∙◌, inr, append-nil, length-append, arith}
use Rattle.fare_ends.specs.declared.rule_numbers.KnownRule.{KnownRule}
use Rattle.fare_ends.specs.Rules.{TestsNothing}
use Rattle.fare_ends.specs.Rungs.{AreRungs}
use Rattle.fare_ends.proofs.RungFacts.{rungs_fall}
use Rattle.fare_groups.specs.declared.group.GroupedFare.{GroupedFare}
use Rattle.fare_groups.specs.declared.rungs.Rung.{Rung}
use Rattle.fare_groups.specs.Grouping.{first_share}
use Rattle.fare_groups.specs.Groups.{Permits, extra_of}
use Rattle.fare_law.specs.declared.flights.Flight.{Flight}
use Rattle.fare_law.specs.Lists.{IsIn, IsPrefix, OnFirst}
use Rattle.fare_law.specs.Parts.{Numbers}
use Rattle.flight_paths.specs.declared.positions.Path.{Path}
use Rattle.joint_paths.specs.declared.buckets.Bucket.{Bucket}
use Rattle.joint_paths.specs.declared.crossing_heads.CrossingHead.{CrossingHead}
use Rattle.joint_paths.specs.declared.rule_charges.RuleCharges.{RuleCharges}
use Rattle.joint_paths.specs.declared.tail_classes.JoinTail.{JoinTail}
use Rattle.joint_paths.specs.Costs.{CostsLeast, CostsNoLess, IsAtLeast}
use Rattle.joint_paths.specs.Heads.{FollowsOn, HasOpen, IsBucket}
use Rattle.joint_paths.specs.Tails.{IsJoinTail}
use Rattle.joint_paths.proofs.CostFacts.{down_free, down_kept, down_none, down_on}
use Rattle.joint_paths.proofs.FreeFacts.{free_extra, free_permits}
use Rattle.joint_paths.specs.declared.fitting.Fitting.{Fitting}
use Rattle.joint_paths.specs.declared.fitting.FittingHead.{FittingHead}
use Rattle.joint_paths.specs.declared.joining.JoinRoom.{JoinRoom}
use Rattle.joint_paths.specs.declared.joining.Joint.{Joint}
use Rattle.joint_paths.specs.declared.joining.Sought.{Sought}
use Rattle.joint_paths.specs.declared.ruled_heads.Ruled.{Ruled}
use Rattle.joint_paths.specs.declared.ruled_heads.RuledHeads.{RuledHeads}
use Rattle.joint_paths.specs.Fits.{AreTailFits, IsFitting}
use Rattle.joint_paths.specs.Joins.{CostsNothing, IsJoinedOf, IsJoint, IsPair, IsRoom, IsSought, IsTailLow, PathsOf, SeekDown, TailFlies, TailSays}
use Rattle.joint_paths.specs.Ruled.{IsOwnRule, IsRuled, SaysOfHead, SaysOfTail, SaysOfTailAt}
use Rattle.fare_ends.proofs.Collected.{numbers_long}
use Rattle.fare_ends.proofs.Ranges.{got_more}
use Rattle.joint_paths.proofs.PairFacts.{one_pair, one_path, pair_few, pair_first, pair_flights}
use Rattle.joint_paths.proofs.RuledFacts.{head_known, head_many}
use Rattle.joint_paths.proofs.SeekSteps.{head_more, head_refused, least_closed, pair_closed, pair_floor, pair_floor_tail, pair_in, tails_closed, tails_floor, tails_low, tails_refused, whole_open}
use Rattle.fare_ends.proofs.Shares.{least_of_closed}
use Rattle.fare_ends.specs.Floors.{OpenPath}
use Rattle.fare_ends.specs.Legs.{AreAmong}
use Rattle.law_lemmas.proofs.EachOne.{each_got}
use Rattle.law_lemmas.proofs.LawFacts.{numbers_one}
use Rattle.law_lemmas.proofs.Lists.{front_at, got_is, got_read}
use Rattle.law_lemmas.proofs.Members.{in_one}
use Rattle.law_lemmas.proofs.Options.{some_one}

-- flights of the path of a tail are those of each path at its place
path_flies : (j : Joint) (t : JoinTail) (path : Path) → slice_get j.bucket.now.paths.now t.number ≡ Some path → (fs : List Flight) → Numbers j.bucket.now.case.now.book.now path.flights fs → TailFlies j t fs
path_flies j t path stands fs m other e = subst (λ (z : Path). Numbers j.bucket.now.case.now.book.now z.flights fs) (some_one (slice_get j.bucket.now.paths.now t.number) path other stands e) m

-- what is said of a tail is said of its flights
pub tail_flies : (j : Joint) → IsJoint j → (at : ℕ) (t : JoinTail) → slice_get j.tails.now at ≡ Some t → (fs : List Flight) × TailFlies j t fs
tail_flies j h at t e =
    let is = each_got (IsJoinTail j.bucket.now.case.now.book.now j.bucket.now.case.now.request.now j.bucket.now.paths.now) j.tails.now at t h.tails e in
    (is.short.flights, path_flies j t is.path is.stands is.short.flights is.short.numbers)

-- and of each path with it
pub pair_flies : (j : Joint) (h : CrossingHead) (t : JoinTail) (p : OpenPath) → (x : IsPair j.bucket.now h t p) → TailFlies j t x.tail_flights
pair_flies j h t p x = path_flies j t x.follows.tail_path x.follows.stands x.tail_flights x.tail_numbers

-- charges that a rule adds at least for a tail are low
pub added_low : (j : Joint) (s : Sought) → IsJoint j → (at : ℕ) (t : JoinTail) → slice_get j.tails.now at ≡ Some t → (added : ℕ) → TailSays j s t (Some added) → added ≤ 35000000
added_low j s h at t e added says = let f = tail_flies j h at t e in (says f.0 f.1).0

pub said_low : (j : Joint) (s : Sought) → IsJoint j → (at : ℕ) (t : JoinTail) → slice_get j.tails.now at ≡ Some t → (said : Option ℕ) → TailSays j s t said → IfSome said (λ added. added ≤ 35000000)
said_low j s h at t e None says = tt
said_low j s h at t e (Some added) says = added_low j s h at t e added says

-- What is sought stays so while what rules say of heads stays.
pub sought_stays : (j : Joint) (old new : JoinRoom) (s : Sought) → new.ruled ≡ old.ruled → IsSought j old s → IsSought j new s
sought_stays j old new s e h = record {
  fares = h.fares;
  rungs = h.rungs;
  stands = h.stands;
  own = h.own;
  ruled = subst (λ (r : RuledHeads). IsRuled j.bucket.now r.charges.items s.rule.now s.ruled) (sym e) h.ruled;
  floor = h.floor;
}

-- What is known of tails stays, whatever is said of them.
pub fits_said : (j : Joint) (old : Fitting) (charges : RuleCharges) → AreTailFits j.bucket.now j.tails.now old → AreTailFits j.bucket.now j.tails.now (record { tails = old.tails; heads = old.heads; whole = old.whole; charges = charges })
fits_said j old charges h = record { many = h.many; each = h.each }

-- The paths of a class, by the classes of seats that may be open on them.
module _ (j : Joint) (r : JoinRoom) (room : IsRoom j r) (fares : List GroupedFare) (rungs : List Rung) (are : AreRungs fares rungs) where
  open_whole : (p : OpenPath) → PathsOf j j.tails.now p → AreAmong p.classes r.fitting.whole
  open_whole p x = subst (λ n. AreAmong n r.fitting.whole) (sym x.pair.classes) (whole_open j.bucket.now j.tails.now r.fitting room.fits x.tail x.tail_in x.head x.head_in x.pair.follows)

  pub class_closed : (rule : KnownRule) → first_share rungs r.fitting.whole ≡ None → CostsLeast rule rungs (PathsOf j j.tails.now) None
  class_closed rule e = least_of_closed rule.rule rule.carrier (first_share rungs) (rungs_fall fares rungs are) (PathsOf j j.tails.now) r.fitting.whole e (λ p x permits. open_whole p x)

  module _ (rule : KnownRule) (charges : List (Option ℕ)) (ruled : Ruled) (is : IsRuled j.bucket.now charges rule ruled) where
    pub rule_closed : first_share rungs (bit_and r.fitting.whole ruled.classes) ≡ None → CostsLeast rule rungs (PathsOf j j.tails.now) None
    rule_closed e = least_closed j.bucket.now rule rungs (rungs_fall fares rungs are) charges ruled is j.tails.now r.fitting.whole (whole_open j.bucket.now j.tails.now r.fitting room.fits) e

    -- a floor of all paths
    pub rule_floor : (share : ℕ) → first_share rungs (bit_and r.fitting.whole ruled.classes) ≡ Some share → CostsNoLess rule rungs (PathsOf j j.tails.now) (share + ruled.least)
    rule_floor share e = tails_low j.bucket.now rule rungs (rungs_fall fares rungs are) charges ruled is j.tails.now r.fitting.whole (whole_open j.bucket.now j.tails.now r.fitting room.fits) share e

-- What a rule says of a tail, from what was said of it.
pub says_at : (j : Joint) → IsJoint j → (s : Sought) → slice_get j.fares.now.rules.of.items s.number ≡ Some s.rule.now → (at : ℕ) (said : Option ℕ) → SaysOfTailAt j.bucket.now.case.now.book.now j.fares.now.rules.of.items j.bucket.now.paths.now j.tails.now s.number at said
    → (t : JoinTail) → slice_get j.tails.now at ≡ Some t → TailSays j s t said
says_at j h s stands at said says t e fs flies =
    let is = each_got (IsJoinTail j.bucket.now.case.now.book.now j.bucket.now.case.now.request.now j.bucket.now.paths.now) j.tails.now at t h.tails e in
    says s.rule.now stands t e is.path is.stands fs (flies is.path is.stands)

-- and the other way round
pub at_says : (j : Joint) (s : Sought) → slice_get j.fares.now.rules.of.items s.number ≡ Some s.rule.now → (at : ℕ) (said : Option ℕ) → ((t : JoinTail) → slice_get j.tails.now at ≡ Some t → TailSays j s t said)
    → (number : ℕ) → number ≡ s.number → SaysOfTailAt j.bucket.now.case.now.book.now j.fares.now.rules.of.items j.bucket.now.paths.now j.tails.now number at said
at_says j s stands at said says number same rule e t got path there fs m =
    let own : s.rule.now ≡ rule = some_one (slice_get j.fares.now.rules.of.items s.number) s.rule.now rule stands (ap (slice_get j.fares.now.rules.of.items) (sym same) ∙ e) in
    subst (λ (z : KnownRule). SaysOfTail z fs said) own (says t got fs (path_flies j t path there fs m))

-- a rule that tests nothing adds nothing for a tail
pub tail_free : (j : Joint) (s : Sought) (t : JoinTail) → TestsNothing s.rule.now.rule → TailSays j s t (Some 0)
tail_free j s t free fs flies = (omega arith, λ head. let a = free_extra s.rule.now.rule head free in omega (arith, a))

-- what a rule says of the flights of a tail
pub tail_said : (j : Joint) (s : Sought) (t : JoinTail) (path : Path) → slice_get j.bucket.now.paths.now t.number ≡ Some path → (fs : List Flight) → Numbers j.bucket.now.case.now.book.now path.flights fs → (said : Option ℕ) → SaysOfTail s.rule.now fs said → TailSays j s t said
tail_said j s t path stands fs m said says gs flies = subst (λ xs. SaysOfTail s.rule.now xs said) (numbers_one j.bucket.now.case.now.book.now path.flights fs gs m (flies path stands)) says

pub rule_says : (rule : KnownRule) (fs : List Flight) (said : Option ℕ) → IfSome said (λ charges. (head : List Flight) → (extra_of rule.rule head + charges) ≤ extra_of rule.rule (head ++ fs)) → IfNone said ((head : List Flight) → Permits rule.rule rule.carrier (head ++ fs) → ⊥) → IfSome said (λ charges. charges ≤ 35000000) → SaysOfTail rule fs said
rule_says rule fs None some none low = none
rule_says rule fs (Some charges) some none low = (low, some)

-- Floors of the paths that go on by a tail.
module _ (j : Joint) (r : JoinRoom) (s : Sought) (is : IsSought j r s) (t : JoinTail) (classes : ℕ) (open_classes : HasOpen j.bucket.now t classes) where
  has : (u : JoinTail) → IsIn u (t ∷ []) → HasOpen j.bucket.now u classes
  has u i = subst (λ v. HasOpen j.bucket.now v classes) (sym (in_one u t i)) open_classes

  pub tail_is_low : (share : ℕ) → first_share s.rungs.now (bit_and classes s.ruled.classes) ≡ Some share → IsTailLow j s t (share + s.ruled.least)
  tail_is_low share e = record {
    floor = tails_low j.bucket.now s.rule.now s.rungs.now (rungs_fall is.fares s.rungs.now is.rungs) r.ruled.charges.items s.ruled is.ruled (t ∷ []) classes has share e;
    more = λ added says. tails_floor j.bucket.now s.rule.now s.rungs.now (rungs_fall is.fares s.rungs.now is.rungs) r.ruled.charges.items s.ruled is.ruled (t ∷ []) classes has share added e
        (λ p x. says x.pair.tail_flights (subst (λ u. TailFlies j u x.pair.tail_flights) (in_one x.tail t x.tail_in) (pair_flies j x.head x.tail p x.pair)));
  }

  pub tail_closed : first_share s.rungs.now (bit_and classes s.ruled.classes) ≡ None → CostsNothing j s j.bucket.now.heads.now (t ∷ [])
  tail_closed e = tails_closed j.bucket.now s.rule.now s.rungs.now (rungs_fall is.fares s.rungs.now is.rungs) r.ruled.charges.items s.ruled is.ruled (t ∷ []) classes has e

pub tail_refused : (j : Joint) (s : Sought) (t : JoinTail) → TailSays j s t None → CostsNothing j s j.bucket.now.heads.now (t ∷ [])
tail_refused j s t says = tails_refused j.bucket.now s.rule.now s.rungs.now j.bucket.now.heads.now (t ∷ []) (λ p x. says x.pair.tail_flights (subst (λ u. TailFlies j u x.pair.tail_flights) (in_one x.tail t x.tail_in) (pair_flies j x.head x.tail p x.pair)))

-- A head and a tail without a lower path.
module _ (j : Joint) (s : Sought) (h : CrossingHead) (t : JoinTail) (least : Option ℕ) where
  -- none may follow
  pub pair_unfit : (FollowsOn j.bucket.now h t → ⊥) → SeekDown j s (h ∷ []) (t ∷ []) least least
  pair_unfit none = down_none s.rule.now s.rungs.now (PathsOf j j.tails.now) (IsJoinedOf j.bucket.now (h ∷ []) (t ∷ [])) least (λ p x. none (pair_in j.bucket.now s.rule.now s.rungs.now h t p x).follows)

  -- no fare is open on both
  pub pair_nothing : first_share s.rungs.now (bit_and h.classes t.classes) ≡ None → SeekDown j s (h ∷ []) (t ∷ []) least least
  pair_nothing e = down_free s.rule.now s.rungs.now (PathsOf j j.tails.now) (IsJoinedOf j.bucket.now (h ∷ []) (t ∷ [])) least (λ p x. pair_closed j.bucket.now s.rule.now s.rungs.now h t e p (pair_in j.bucket.now s.rule.now s.rungs.now h t p x))

  -- the rule doesn't permit the head
  pub pair_head_refused : SaysOfHead j.bucket.now s.rule.now h None → SeekDown j s (h ∷ []) (t ∷ []) least least
  pair_head_refused says = down_free s.rule.now s.rungs.now (PathsOf j j.tails.now) (IsJoinedOf j.bucket.now (h ∷ []) (t ∷ [])) least (λ p x. head_refused j.bucket.now s.rule.now s.rungs.now h t says p (pair_in j.bucket.now s.rule.now s.rungs.now h t p x))

  module _ (share added : ℕ) (e : first_share s.rungs.now (bit_and h.classes t.classes) ≡ Some share) (adds : TailSays j s t (Some added)) where
    -- all are too dear, before the rule is asked of the head
    pub pair_dear : IsAtLeast least (share + added) → SeekDown j s (h ∷ []) (t ∷ []) least least
    pair_dear low = down_kept s.rule.now s.rungs.now (PathsOf j j.tails.now) (IsJoinedOf j.bucket.now (h ∷ []) (t ∷ [])) (share + added) least
        (λ p x. pair_floor_tail j.bucket.now s.rule.now s.rungs.now h t share added e (λ q y. adds y.tail_flights (pair_flies j h t q y)) p (pair_in j.bucket.now s.rule.now s.rungs.now h t p x)) low

    -- or with what the rule adds on it
    pub pair_dearer : (charges : ℕ) → SaysOfHead j.bucket.now s.rule.now h (Some charges) → IsAtLeast least (share + charges + added) → SeekDown j s (h ∷ []) (t ∷ []) least least
    pair_dearer charges says low = down_kept s.rule.now s.rungs.now (PathsOf j j.tails.now) (IsJoinedOf j.bucket.now (h ∷ []) (t ∷ [])) (share + charges + added) least
        (λ p x. pair_floor j.bucket.now s.rule.now s.rungs.now h t share charges added e says (λ q y. adds y.tail_flights (pair_flies j h t q y)) p (pair_in j.bucket.now s.rule.now s.rungs.now h t p x)) low

-- what stands there of a head is what the rule says of it
pub head_says : (j : Joint) (r : JoinRoom) (s : Sought) → IsSought j r s → (n : ℕ) (h : CrossingHead) → slice_get j.bucket.now.heads.now n ≡ Some h → (said : Option ℕ) → slice_get r.ruled.charges.items (s.ruled.from + n) ≡ Some said → SaysOfHead j.bucket.now s.rule.now h said
head_says j r s is n h e said stands = let x = is.ruled.each n h e in subst (SaysOfHead j.bucket.now s.rule.now h) (some_one (slice_get r.ruled.charges.items (s.ruled.from + n)) x.said said x.stands stands) x.says

-- charges that a rule adds on a head are low
pub head_low : (j : Joint) (s : Sought) (h : CrossingHead) (said : Option ℕ) → SaysOfHead j.bucket.now s.rule.now h said → IfSome said (λ c. c ≤ 35000000)
head_low j s h None says = tt
head_low j s h (Some c) says = says.0

-- A rule that tests nothing permits each path of the bucket, and adds nothing.
pub pair_free : (j : Joint) (s : Sought) → IsJoint j → IsOwnRule j.bucket.now s.rule.now → s.rule.now.is_free ≡ true → (h : CrossingHead) → IsIn h j.bucket.now.heads.now → (t : JoinTail) (p : OpenPath) → IsPair j.bucket.now h t p → Permits s.rule.now.rule s.rule.now.carrier p.flights × (0 ≡ extra_of s.rule.now.rule p.flights)
pair_free j s joint own free h head_in t p x =
    (free_permits s.rule.now.rule s.rule.now.carrier p.flights (own.free free) (subst (λ c. OnFirst (λ f. f.carrier ≡ c) p.flights) (sym own.carrier) (pair_first j.bucket.now joint.bucket h head_in t p x)), sym (free_extra s.rule.now.rule p.flights (own.free free)))

-- a front that is as long as the list is the list
pub front_whole : {X : Type 0} (xs ys : List X) → IsPrefix xs ys → length xs ≡ length ys → xs ≡ ys
front_whole {X = X} xs ys more long = none more.0 more.1 (let sums = length-append xs more.0 in let all = ap length more.1 in omega (arith, sums, all, long))
  where
    none : (zs : List X) → ys ≡ xs ++ zs → length zs ≡ 0 → xs ≡ ys
    none [] e l = sym (e ∙ append-nil xs)
    none (z ∷ zs) e l = absurd (omega (arith, l))

-- a head more among the first few
pub few_next : (j : Joint) (s : Sought) (few : List CrossingHead) (t : JoinTail) (n : ℕ) → n < length few → IsPrefix few j.bucket.now.heads.now → (old mid new : Option ℕ) → SeekDown j s (take n few) (t ∷ []) old mid → ((h : CrossingHead) → slice_get j.bucket.now.heads.now n ≡ Some h → SeekDown j s (h ∷ []) (t ∷ []) mid new) → SeekDown j s (take (n + 1) few) (t ∷ []) old new
few_next j s few t n lt more old mid new done next =
    let k = j.bucket.now in
    let x = there few n lt in
    down_on s.rule.now s.rungs.now (PathsOf j j.tails.now) (IsJoinedOf k (take n few) (t ∷ [])) (IsJoinedOf k (x.0 ∷ []) (t ∷ [])) (IsJoinedOf k (take (n + 1) few) (t ∷ [])) old mid new (λ p y. head_more k few (t ∷ []) n p x.0 x.2 y) done (next x.0 (got_more few k.heads.now n x.0 more x.1))
  where
    there : (xs : List CrossingHead) (i : ℕ) → i < length xs → (x : CrossingHead) × (slice_get xs i ≡ Some x) × (take (i + 1) xs ≡ take i xs ++ x ∷ [])
    there [] i h = absurd (omega (arith, h))
    there (y ∷ ys) i h = (get_or (y ∷ ys) i y, got_read (y ∷ ys) i y h, front_at (y ∷ ys) i y h)

-- the paths of all heads, after those of some
pub seek_on : (j : Joint) (s : Sought) (few : List CrossingHead) (t : JoinTail) (old mid new : Option ℕ) → SeekDown j s few (t ∷ []) old mid → SeekDown j s j.bucket.now.heads.now (t ∷ []) mid new → SeekDown j s j.bucket.now.heads.now (t ∷ []) old new
seek_on j s few t old mid new done next =
    let k = j.bucket.now in
    down_on s.rule.now s.rungs.now (PathsOf j j.tails.now) (IsJoinedOf k few (t ∷ [])) (IsJoinedOf k k.heads.now (t ∷ [])) (IsJoinedOf k k.heads.now (t ∷ [])) old mid new (λ p x. inr x) done next

-- The flights of a path of the bucket, as a rule is asked of them.
pub record IsAskedOf (k : Bucket) (rule : KnownRule) (h : CrossingHead) (t : JoinTail) (fs : List Flight) : Type 0 where
  pub some : 1 ≤ length fs
  pub few : length fs ≤ 4
  pub first : OnFirst (λ f. f.carrier ≡ rule.carrier) fs
  pub same : (p : OpenPath) → IsPair k h t p → p.flights ≡ fs

module _ (k : Bucket) (bucket : IsBucket k) (rule : KnownRule) (own : IsOwnRule k rule) (h : CrossingHead) (head_in : IsIn h k.heads.now) (t : JoinTail) (f : FollowsOn k h t) (path : Path) (stands : slice_get k.paths.now t.number ≡ Some path)
    (ns ms : List ℕ) (heads : ns ≡ take h.count h.flights) (tails : ms ≡ path.flights) (fs : List Flight) (m : Numbers k.case.now.book.now (ns ++ ms) fs) where
  flights_are : (p : OpenPath) → IsPair k h t p → p.flights ≡ fs
  flights_are p x = pair_flights k bucket h head_in t p x path stands fs (subst (λ ys. Numbers k.case.now.book.now (take h.count h.flights ++ ys) fs) tails (subst (λ xs. Numbers k.case.now.book.now (xs ++ ms) fs) heads m))

  pub pair_asked : IsAskedOf k rule h t fs
  pair_asked =
      let long = numbers_long k.case.now.book.now (ns ++ ms) fs m in
      let sums = length-append ns ms in
      let known = head_known k bucket h head_in in
      let many = (head_many k bucket h head_in known.0 known.1).0 in
      let of_head = numbers_long k.case.now.book.now (take h.count h.flights) known.0 known.1 in
      let most = pair_few k bucket h head_in t f path stands in
      let front = ap length heads in
      let back = ap length tails in
      record {
        some = omega (arith, long, sums, many, of_head, front);
        few = omega (arith, long, sums, most, front, back);
        first = subst (λ c. OnFirst (λ g. g.carrier ≡ c) fs) (sym own.carrier) (subst (OnFirst (λ g. g.carrier ≡ k.carrier)) (flights_are (one_path k h t f) (one_pair k h t f)) (pair_first k bucket h head_in t (one_path k h t f) (one_pair k h t f)));
        same = flights_are;
      }

-- what it says of them it says of the path
pub pair_some : (j : Joint) (s : Sought) (h : CrossingHead) (t : JoinTail) (fs : List Flight) → ((p : OpenPath) → IsPair j.bucket.now h t p → p.flights ≡ fs) → (charges : ℕ) → Permits s.rule.now.rule s.rule.now.carrier fs × (charges ≡ extra_of s.rule.now.rule fs)
    → (p : OpenPath) → IsPair j.bucket.now h t p → Permits s.rule.now.rule s.rule.now.carrier p.flights × (charges ≡ extra_of s.rule.now.rule p.flights)
pair_some j s h t fs same charges says p x = (subst (Permits s.rule.now.rule s.rule.now.carrier) (sym (same p x)) says.0, says.1 ∙ ap (extra_of s.rule.now.rule) (sym (same p x)))

pub pair_none : (j : Joint) (s : Sought) (h : CrossingHead) (t : JoinTail) (fs : List Flight) → ((p : OpenPath) → IsPair j.bucket.now h t p → p.flights ≡ fs) → (said : Option ℕ) → IfNone said (Permits s.rule.now.rule s.rule.now.carrier fs → ⊥)
    → IfNone said ((p : OpenPath) → IsPair j.bucket.now h t p → Permits s.rule.now.rule s.rule.now.carrier p.flights → ⊥)
pair_none j s h t fs same None none = λ p x permits. none (subst (Permits s.rule.now.rule s.rule.now.carrier) (same p x) permits)
pair_none j s h t fs same (Some charges) none = tt

-- the numbers of a path that is read are those of the path that stands there
pub read_numbers : (paths : List Path) (n : ℕ) (d path : Path) (ns : List ℕ) → ns ≡ (get_or paths n d).flights → slice_get paths n ≡ Some path → ns ≡ path.flights
read_numbers paths n d path ns e got = e ∙ ap (λ (p : Path). p.flights) (got_is paths n d path got)

-- the head that is read at a place, without a fare that is open on it and on the tail
pub read_nothing : (j : Joint) (s : Sought) (t : JoinTail) (least : Option ℕ) (n : ℕ) (d h : CrossingHead) → slice_get j.bucket.now.heads.now n ≡ Some h → first_share s.rungs.now (bit_and (get_or j.bucket.now.heads.now n d).classes t.classes) ≡ None → SeekDown j s (h ∷ []) (t ∷ []) least least
read_nothing j s t least n d h got e = pair_nothing j s h t least (subst (λ (x : CrossingHead). first_share s.rungs.now (bit_and x.classes t.classes) ≡ None) (got_is j.bucket.now.heads.now n d h got) e)

-- the classes of a listed head
pub fit_classes : (k : Bucket) (t : JoinTail) (f : FittingHead) → IsFitting k t f → (h : CrossingHead) → slice_get k.heads.now f.head ≡ Some h → f.classes ≡ bit_and h.classes t.classes
fit_classes k t f is h got = is.classes ∙ ap (λ (x : CrossingHead). bit_and x.classes t.classes) (some_one (slice_get k.heads.now f.head) is.head h is.stands got)
