-- Floors and prices of what is sought, for the tails of a class, for one tail, and for a head and a tail.
use Rattle.std.proofs.Common.{◌≡◌, ◌⊎◌, ℕ, ◌+◌, ◌≤◌, List, [], ◌∷◌, ◌++◌, slice_get, take, Option, Some, None, IfSome, bit_and, refl, sym, ap, subst, ◌∙◌, inl, inr, arith}
use Rattle.fare_ends.specs.declared.rule_numbers.KnownRule.{KnownRule}
use Rattle.fare_groups.specs.declared.rungs.Rung.{Rung}
use Rattle.std.proofs.lemmas.Nat.{and_comm}
use lib.Bits.{and_zero_r}
use Rattle.fare_groups.specs.Grouping.{first_share}
use Rattle.fare_ends.specs.Legs.{AreAmong}
use Rattle.fare_groups.proofs.RungFacts.{closed_first}
use Rattle.fare_groups.specs.Groups.{Permits, extra_of}
use Rattle.fare_law.specs.Lists.{IsIn, IsPrefix}
use Rattle.joint_paths.specs.declared.buckets.Bucket.{Bucket}
use Rattle.joint_paths.specs.declared.crossing_heads.CrossingHead.{CrossingHead}
use Rattle.joint_paths.specs.declared.fitting.Fitting.{Fitting}
use Rattle.joint_paths.specs.declared.fitting.FittingHead.{FittingHead}
use Rattle.joint_paths.specs.declared.fitting.HeadRange.{HeadRange}
use Rattle.joint_paths.specs.declared.joining.Joint.{Joint}
use Rattle.joint_paths.specs.declared.joining.Sought.{Sought}
use Rattle.joint_paths.specs.declared.ruled_heads.Ruled.{Ruled}
use Rattle.joint_paths.specs.declared.tail_classes.JoinTail.{JoinTail}
use Rattle.joint_paths.specs.Fits.{AreTailFits, IsListed}
use Rattle.joint_paths.specs.Heads.{FollowsOn, HasOpen}
use Rattle.joint_paths.specs.Costs.{Costs, CostsLeast, CostsNoLess, GoesDown, IsAtLeast}
use Rattle.joint_paths.specs.Joins.{IsJoinedOf, IsPair, PathsOf, SeekDown}
use Rattle.joint_paths.specs.Ruled.{IsRuled, SaysOfHead, SaysOfTail}
use Rattle.fare_ends.specs.Ends.{between}
use Rattle.joint_paths.proofs.PairFacts.{head_some, one_pair, one_path, path_adds, path_adds_head, path_open}
use Rattle.joint_paths.proofs.CostFacts.{down_fewer, down_free, down_kept, down_none, down_on, down_taken}
use Rattle.fare_ends.proofs.OpenClasses.{among_each}
use Rattle.fare_ends.proofs.Permitted.{permits_heads}
use Rattle.fare_ends.proofs.Shares.{least_of_closed, none_below_parts, none_is_open}
use Rattle.fare_ends.specs.Floors.{FallWithMore, OpenPath}
use Rattle.law_lemmas.proofs.Lists.{got_read, got_within}
use Rattle.law_lemmas.proofs.Members.{in_either, in_got, in_left, in_one}
use Rattle.law_lemmas.proofs.Options.{not_both, some_one, some_same}

-- what may be open with a tail is among what may be open with the whole class
pub whole_open : (k : Bucket) (tails : List JoinTail) (known : Fitting) → AreTailFits k tails known → (t : JoinTail) → IsIn t tails → HasOpen k t known.whole
whole_open k tails known h t i =
    let at = in_got tails t i in
    let there = got_read known.tails.items at.0 (record { classes = 0; listed = None }) (let w = got_within tails at.0 t at.1 in let m = h.many in omega (arith, w, m)) in
    let fit = h.each at.0 t _ at.1 there in
    λ head i f. among_each (bit_and head.classes t.classes) _ known.whole (fit.classes head i f) fit.among

module _ (k : Bucket) (rule : KnownRule) (rungs : List Rung) (fall : FallWithMore (first_share rungs)) (charges : List (Option ℕ)) (ruled : Ruled) (is : IsRuled k charges rule ruled) (tails : List JoinTail) (classes : ℕ) (has : (t : JoinTail) → IsIn t tails → HasOpen k t classes) where
  abbrev pub Paths : OpenPath → Type 0
  Paths = IsJoinedOf k k.heads.now tails

  open_in : (p : OpenPath) → Paths p → Permits rule.rule rule.carrier p.flights → AreAmong p.classes (bit_and classes ruled.classes)
  open_in p x permits = path_open k rule charges ruled is x.head x.head_in x.tail p x.pair classes (has x.tail x.tail_in) permits

  -- no fare is of the classes that may be open
  pub tails_closed : first_share rungs (bit_and classes ruled.classes) ≡ None → (p : OpenPath) → Paths p → (price : ℕ) → Costs rule rungs p price → ⊥
  tails_closed e p x price c = none_is_open rule.rule rule.carrier (first_share rungs) fall p (bit_and classes ruled.classes) e (open_in p x) price c

  pub least_closed : first_share rungs (bit_and classes ruled.classes) ≡ None → CostsLeast rule rungs Paths None
  least_closed e = least_of_closed rule.rule rule.carrier (first_share rungs) fall Paths (bit_and classes ruled.classes) e open_in

  -- a floor with what the rule adds on heads
  pub tails_low : (share : ℕ) → first_share rungs (bit_and classes ruled.classes) ≡ Some share → CostsNoLess rule rungs Paths (share + ruled.least)
  tails_low share e = subst (CostsNoLess rule rungs Paths) (let z : share + ruled.least + 0 ≡ share + ruled.least = omega arith in z)
      (none_below_parts rule.rule rule.carrier (first_share rungs) fall Paths (bit_and classes ruled.classes) share ruled.least 0 e (λ p x permits. (open_in p x permits, path_adds_head k rule charges ruled is x.head x.head_in x.tail p x.pair)))

  -- and with what it adds on the tails
  pub tails_floor : (share added : ℕ) → first_share rungs (bit_and classes ruled.classes) ≡ Some share → ((p : OpenPath) → (x : Paths p) → SaysOfTail rule x.pair.tail_flights (Some added)) → CostsNoLess rule rungs Paths (share + ruled.least + added)
  tails_floor share added e says = none_below_parts rule.rule rule.carrier (first_share rungs) fall Paths (bit_and classes ruled.classes) share ruled.least added e (λ p x permits. (open_in p x permits, path_adds k rule charges ruled is x.head x.head_in x.tail p x.pair added (says p x)))

-- paths of whose tails the rule permits none
pub tails_refused : (k : Bucket) (rule : KnownRule) (rungs : List Rung) (heads : List CrossingHead) (tails : List JoinTail) → ((p : OpenPath) → (x : IsJoinedOf k heads tails p) → SaysOfTail rule x.pair.tail_flights None) → (p : OpenPath) → IsJoinedOf k heads tails p → (price : ℕ) → Costs rule rungs p price → ⊥
tails_refused k rule rungs heads tails says p x price c = says p x x.pair.head_flights (subst (Permits rule.rule rule.carrier) x.pair.flights c.permits)

-- of no classes there is no fare
pub none_share : (rungs : List Rung) → first_share rungs 0 ≡ None
none_share [] = refl
none_share (r ∷ rs) = closed_first r rs 0 (and_comm 0 r.class ∙ and_zero_r r.class) ∙ none_share rs

module _ (k : Bucket) (rule : KnownRule) (rungs : List Rung) (h : CrossingHead) (t : JoinTail) where
  abbrev pub One : OpenPath → Type 0
  One = IsJoinedOf k (h ∷ []) (t ∷ [])

  pub pair_in : (p : OpenPath) → One p → IsPair k h t p
  pair_in p x = subst (λ u. IsPair k h u p) (in_one x.tail t x.tail_in) (subst (λ g. IsPair k g x.tail p) (in_one x.head h x.head_in) x.pair)

  -- no fare is open on both
  pub pair_closed : first_share rungs (bit_and h.classes t.classes) ≡ None → (p : OpenPath) → IsPair k h t p → (price : ℕ) → Costs rule rungs p price → ⊥
  pair_closed e p x price c = not_both (first_share rungs p.classes) c.share c.open_share (ap (first_share rungs) x.classes ∙ e)

  -- the rule doesn't permit the head
  pub head_refused : SaysOfHead k rule h None → (p : OpenPath) → IsPair k h t p → (price : ℕ) → Costs rule rungs p price → ⊥
  head_refused says p x price c = says x.head_flights x.head_numbers (permits_heads rule.rule rule.carrier x.head_flights x.tail_flights (head_some k h t p x) (subst (Permits rule.rule rule.carrier) x.flights c.permits))

  -- a floor
  pub pair_floor : (share charges added : ℕ) → first_share rungs (bit_and h.classes t.classes) ≡ Some share → SaysOfHead k rule h (Some charges) → ((p : OpenPath) → (x : IsPair k h t p) → SaysOfTail rule x.tail_flights (Some added)) → (p : OpenPath) → IsPair k h t p → (price : ℕ) → Costs rule rungs p price → (share + charges + added) ≤ price
  pair_floor share charges added e head tail p x price c =
      let same = some_one (first_share rungs (bit_and h.classes t.classes)) share c.share e (sym (ap (first_share rungs) x.classes) ∙ c.open_share) in
      let own = head.1 x.head_flights x.head_numbers in
      let low = (tail p x).1 x.head_flights in
      sums share c.share charges added (extra_of rule.rule x.head_flights) (extra_of rule.rule (x.head_flights ++ x.tail_flights)) (extra_of rule.rule p.flights) price same own low (ap (extra_of rule.rule) x.flights) c.price_is
    where
      sums : (share own charges added head both all price : ℕ) → share ≡ own → charges ≡ head → (head + added) ≤ both → all ≡ both → price ≡ own + all → (share + charges + added) ≤ price
      sums share own charges added head both all price a b d e f = omega (arith, a, b, d, e, f)

  -- a floor before the rule is asked of the head
  pub pair_floor_tail : (share added : ℕ) → first_share rungs (bit_and h.classes t.classes) ≡ Some share → ((p : OpenPath) → (x : IsPair k h t p) → SaysOfTail rule x.tail_flights (Some added)) → (p : OpenPath) → IsPair k h t p → (price : ℕ) → Costs rule rungs p price → (share + added) ≤ price
  pair_floor_tail share added e tail p x price c =
      let same = some_one (first_share rungs (bit_and h.classes t.classes)) share c.share e (sym (ap (first_share rungs) x.classes) ∙ c.open_share) in
      let low = (tail p x).1 x.head_flights in
      sums share c.share added (extra_of rule.rule x.head_flights) (extra_of rule.rule (x.head_flights ++ x.tail_flights)) (extra_of rule.rule p.flights) price same low (ap (extra_of rule.rule) x.flights) c.price_is
    where
      sums : (share own added head both all price : ℕ) → share ≡ own → (head + added) ≤ both → all ≡ both → price ≡ own + all → (share + added) ≤ price
      sums share own added head both all price a d e f = omega (arith, a, d, e, f)

  -- the price of the path
  pub pair_costs : (share charges : ℕ) → first_share rungs (bit_and h.classes t.classes) ≡ Some share → ((p : OpenPath) → IsPair k h t p → Permits rule.rule rule.carrier p.flights × (charges ≡ extra_of rule.rule p.flights)) → (p : OpenPath) → IsPair k h t p → Costs rule rungs p (share + charges)
  pair_costs share charges e says p x = record { permits = (says p x).0; share = share; open_share = ap (first_share rungs) x.classes ∙ e; price_is = ap (λ n. share + n) (says p x).1 }

  pub pair_least : (share charges : ℕ) → first_share rungs (bit_and h.classes t.classes) ≡ Some share → ((p : OpenPath) → IsPair k h t p → Permits rule.rule rule.carrier p.flights × (charges ≡ extra_of rule.rule p.flights)) → (p : OpenPath) → IsPair k h t p → (price : ℕ) → Costs rule rungs p price → (share + charges) ≤ price
  pair_least share charges e says p x price c =
      let same = some_one (first_share rungs p.classes) share c.share (ap (first_share rungs) x.classes ∙ e) c.open_share in
      sums share c.share charges (extra_of rule.rule p.flights) price same (says p x).1 c.price_is
    where
      sums : (share own charges all price : ℕ) → share ≡ own → charges ≡ all → price ≡ own + all → (share + charges) ≤ price
      sums share own charges all price a b d = omega (arith, a, b, d)

  -- the least price so far with a path more
  module _ (heads : List CrossingHead) (tails : List JoinTail) (head_in : IsIn h heads) (tail_in : IsIn t tails) (f : FollowsOn k h t) where
    abbrev pub All : OpenPath → Type 0
    All = IsJoinedOf k heads tails

    pub pair_down : (share charges result : ℕ) (least : Option ℕ) → share ≤ 1000000000 → charges ≤ 35000000 → first_share rungs (bit_and h.classes t.classes) ≡ Some share → ((p : OpenPath) → IsPair k h t p → Permits rule.rule rule.carrier p.flights × (charges ≡ extra_of rule.rule p.flights))
        → result ≤ share + charges → IfSome least (λ l. result ≤ l) → (result ≡ share + charges) ⊎ (least ≡ Some result) → GoesDown rule rungs All One least (Some result)
    pair_down share charges result least dear most e says le low is = down_taken rule rungs All One (share + charges) result least (omega (arith, dear, most))
        (record { path = one_path k h t f; one_of = record { head = h; head_in = head_in; tail = t; tail_in = tail_in; pair = one_pair k h t f }; costs = pair_costs share charges e says (one_path k h t f) (one_pair k h t f) })
        (λ p x price c. pair_least share charges e says p (pair_in p x) price c)
        le low is

    pub pair_refused : (least : Option ℕ) → ((p : OpenPath) → IsPair k h t p → Permits rule.rule rule.carrier p.flights → ⊥) → GoesDown rule rungs All One least least
    pair_refused least says = down_free rule rungs All One least (λ p x price c. says p (pair_in p x) c.permits)

-- One tail more, and one head more.
module _ (k : Bucket) (heads : List CrossingHead) (tails : List JoinTail) (i : ℕ) (p : OpenPath) where
  pub tail_more : (t : JoinTail) → take (i + 1) tails ≡ take i tails ++ t ∷ [] → IsJoinedOf k heads (take (i + 1) tails) p → IsJoinedOf k heads (take i tails) p ⊎ IsJoinedOf k heads (t ∷ []) p
  tail_more t e x = elim (in_either x.tail (take i tails) (t ∷ []) (subst (IsIn x.tail) e x.tail_in)) [
    | inl a ↦ inl (record { head = x.head; head_in = x.head_in; tail = x.tail; tail_in = a; pair = x.pair })
    | inr b ↦ inr (record { head = x.head; head_in = x.head_in; tail = x.tail; tail_in = b; pair = x.pair })
  ]

  pub head_more : (h : CrossingHead) → take (i + 1) heads ≡ take i heads ++ h ∷ [] → IsJoinedOf k (take (i + 1) heads) tails p → IsJoinedOf k (take i heads) tails p ⊎ IsJoinedOf k (h ∷ []) tails p
  head_more h e x = elim (in_either x.head (take i heads) (h ∷ []) (subst (IsIn x.head) e x.head_in)) [
    | inl a ↦ inl (record { head = x.head; head_in = a; tail = x.tail; tail_in = x.tail_in; pair = x.pair })
    | inr b ↦ inr (record { head = x.head; head_in = b; tail = x.tail; tail_in = x.tail_in; pair = x.pair })
  ]

-- Heads with which the list begins are some of them.
pub few_wider : (k : Bucket) (few heads : List CrossingHead) (tails : List JoinTail) → IsPrefix few heads → (p : OpenPath) → IsJoinedOf k few tails p → IsJoinedOf k heads tails p
few_wider k few heads tails more p x = record { head = x.head; head_in = subst (IsIn x.head) (sym more.1) (in_left x.head few more.0 x.head_in); tail = x.tail; tail_in = x.tail_in; pair = x.pair }

-- What is left is not below the least so far.
pub seek_stop : (rule : KnownRule) (rungs : List Rung) (all one more : OpenPath → Type 0) (floor : ℕ) (a b : Option ℕ) → GoesDown rule rungs all one a b → CostsNoLess rule rungs more floor → IsAtLeast b floor → GoesDown rule rungs all more a b
seek_stop rule rungs all one more floor a b h none low = down_on rule rungs all one more more a b b (λ p i. inr i) h (down_kept rule rungs all more floor b none low)

-- paths of the listed heads and a tail
pub record IsListedPair (j : Joint) (listed : List FittingHead) (t : JoinTail) (p : OpenPath) : Type 0 where
  pub one : FittingHead
  pub one_in : IsIn one listed
  pub head : CrossingHead
  pub stands : slice_get j.bucket.now.heads.now one.head ≡ Some head
  pub pair : IsPair j.bucket.now head t p

abbrev pub SeekListed : Joint → Sought → List FittingHead → JoinTail → Option ℕ → Option ℕ → Type 0
SeekListed j s listed t old new = GoesDown s.rule.now s.rungs.now (PathsOf j j.tails.now) (IsListedPair j listed t) old new

-- The listed heads with a tail, one more, and all of them.
module _ (j : Joint) (s : Sought) (t : JoinTail) (old : Option ℕ) where
  pub listed_none : SeekListed j s [] t old old
  listed_none = down_none s.rule.now s.rungs.now (PathsOf j j.tails.now) (IsListedPair j [] t) old (λ p x. x.one_in)

  pub listed_more : (listed : List FittingHead) (one : FittingHead) (head : CrossingHead) → slice_get j.bucket.now.heads.now one.head ≡ Some head → (mid new : Option ℕ) → SeekListed j s listed t old mid → SeekDown j s (head ∷ []) (t ∷ []) mid new → SeekListed j s (listed ++ one ∷ []) t old new
  listed_more listed one head stands mid new h k = down_on s.rule.now s.rungs.now (PathsOf j j.tails.now) (IsListedPair j listed t) (IsJoinedOf j.bucket.now (head ∷ []) (t ∷ [])) (IsListedPair j (listed ++ one ∷ []) t) old mid new (λ p x. elim (in_either x.one listed (one ∷ []) x.one_in) [
    | inl a ↦ inl (record { one = x.one; one_in = a; head = x.head; stands = x.stands; pair = x.pair })
    | inr b ↦
        let same = some_same x.head head (sym x.stands ∙ ap (λ (f : FittingHead). slice_get j.bucket.now.heads.now f.head) (in_one x.one one b) ∙ stands) in
        inr (record { head = x.head; head_in = inl same; tail = t; tail_in = inl refl; pair = x.pair })
  ]) h k

  pub listed_all : (heads : List FittingHead) (r : HeadRange) (listed : List FittingHead) → listed ≡ between heads r.from r.to → IsListed j.bucket.now t heads r → (new : Option ℕ) → SeekListed j s listed t old new → SeekDown j s j.bucket.now.heads.now (t ∷ []) old new
  listed_all heads r listed e is new h = down_fewer s.rule.now s.rungs.now (PathsOf j j.tails.now) (IsListedPair j listed t) (IsJoinedOf j.bucket.now j.bucket.now.heads.now (t ∷ [])) old new (λ p x price c.
      let k = j.bucket.now in
      let pair = subst (λ u. IsPair k x.head u p) (in_one x.tail t x.tail_in) x.pair in
      let n = in_got k.heads.now x.head x.head_in in
      let f = is.all n.0 x.head (got_within k.heads.now n.0 x.head n.1) n.1 pair.follows (λ z. not_both (first_share s.rungs.now p.classes) c.share c.open_share (ap (first_share s.rungs.now) (pair.classes ∙ z) ∙ none_share s.rungs.now)) in
      record { one = f.0; one_in = subst (IsIn f.0) (sym e) f.1; head = x.head; stands = ap (slice_get k.heads.now) f.2 ∙ n.1; pair = pair }) h
