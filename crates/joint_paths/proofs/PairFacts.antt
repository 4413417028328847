-- Heads of a bucket and tails as paths, and what a rule and classes of seats say of them. Given on to the crates above.
use Rattle.std.proofs.Common.{◌≡◌, ◌≢◌, ℕ, suc, ◌+◌, ◌≤◌, List, [], ◌∷◌, ◌++◌, length, slice_get, take, Option, Some, None, bit_and, refl, sym, ap₂, subst, ◌∙◌, arith}
use Rattle.fare_ends.specs.declared.rule_numbers.KnownRule.{KnownRule}
use Rattle.fare_ends.specs.Legs.{AreAmong}
use Rattle.fare_groups.proofs.Bits.{both_set}
use Rattle.fare_groups.specs.Groups.{Permits, extra_of}
use Rattle.fare_ends.proofs.FlightFacts.{numbers_both}
use Rattle.fare_law.specs.declared.flights.Flight.{Flight}
use Rattle.fare_law.specs.declared.limits.TheConstants.{MOST_FLIGHTS_OF_A_COMPONENT}
use Rattle.fare_law.specs.Lists.{IsIn, OnFirst}
use Rattle.fare_law.specs.Parts.{Numbers}
use Rattle.flight_paths.specs.declared.positions.Path.{Path}
use Rattle.flight_paths.proofs.Joining.{head_flights, tail_flights}
use Rattle.joint_paths.specs.declared.buckets.Bucket.{Bucket}
use Rattle.joint_paths.specs.declared.crossing_heads.CrossingHead.{CrossingHead}
use Rattle.joint_paths.specs.declared.ruled_heads.Ruled.{Ruled}
use Rattle.joint_paths.specs.declared.tail_classes.JoinTail.{JoinTail}
use Rattle.joint_paths.specs.Heads.{FollowsOn, HasOpen, HeadFlies, IsBucket, IsCrossingHead, IsHeadOf}
use Rattle.joint_paths.specs.Joins.{IsPair}
use Rattle.joint_paths.specs.Ruled.{IsCharged, IsRuled, SaysOfHead, SaysOfTail}
use Rattle.joint_paths.proofs.HeadFacts.{flown}
use Rattle.fare_ends.proofs.OpenClasses.{among_both}
use Rattle.fare_ends.proofs.Permitted.{permits_heads}
use Rattle.fare_ends.specs.Floors.{AddsAtLeast, OpenPath}
use Rattle.law_lemmas.proofs.EachOne.{each_in}
use Rattle.law_lemmas.proofs.LawFacts.{numbers_one}
use Rattle.law_lemmas.proofs.Members.{in_got}

same_path : (x y : Path) → Some x ≡ Some y → x ≡ y
same_path x y e = cc

module _ (k : Bucket) (h : CrossingHead) (t : JoinTail) where
  -- a head and a tail that may follow it are a path
  abbrev pub one_path : FollowsOn k h t → OpenPath
  one_path f = record { flights = f.head_is.crosses.flights ++ f.follows.flights; classes = bit_and h.classes t.classes }

  pub one_pair : (f : FollowsOn k h t) → IsPair k h t (one_path f)
  one_pair f = record {
    follows = f;
    head_flights = f.head_is.crosses.flights;
    head_numbers = flown k h t f.head_path f.head_is;
    tail_flights = f.follows.flights;
    tail_numbers = tail_flights k.case.now.book.now k.case.now.request.now.slices k.at.now (suc k.at.now.slice) f.tail_path.flights f.follows.flights f.tail_path.after f.follows.is_tail;
    flights = refl;
    classes = refl;
  }

  -- and no other
  pub pairs_one : (p q : OpenPath) → IsPair k h t p → IsPair k h t q → (p.flights ≡ q.flights) × (p.classes ≡ q.classes)
  pairs_one p q x y =
      let b = k.case.now.book.now in
      let same = same_path x.follows.tail_path y.follows.tail_path (sym x.follows.stands ∙ y.follows.stands) in
      let heads = numbers_one b (take h.count h.flights) x.head_flights y.head_flights x.head_numbers y.head_numbers in
      let tails = numbers_one b y.follows.tail_path.flights x.tail_flights y.tail_flights (subst (λ (z : Path). Numbers b z.flights x.tail_flights) same x.tail_numbers) y.tail_numbers in
      (x.flights ∙ ap₂ (λ fs gs. fs ++ gs) heads tails ∙ sym y.flights, x.classes ∙ sym y.classes)

  pub head_some : (p : OpenPath) → (x : IsPair k h t p) → x.head_flights ≢ []
  head_some p x =
      let is = x.follows.head_is in
      of is.crosses.flights x.head_flights (numbers_one k.case.now.book.now (take h.count h.flights) is.crosses.flights x.head_flights (flown k h t x.follows.head_path is) x.head_numbers) (long x.follows.head_path.flights is.crosses.flights is.crosses.is_head.path.some (head_flights k.case.now.book.now k.case.now.request.now.slices k.at.now x.follows.head_path.flights is.crosses.flights (Some is.middle) is.crosses.is_head))
    where
      of : (fs gs : List Flight) → fs ≡ gs → fs ≢ [] → gs ≢ []
      of fs gs e n z = n (e ∙ z)

      long : (ns : List ℕ) (fs : List Flight) → ns ≢ [] → Numbers k.case.now.book.now ns fs → fs ≢ []
      long [] fs n m = absurd (n refl)
      long (x ∷ xs) [] n m = absurd m
      long (x ∷ xs) (f ∷ fs) n m = λ e. let never : ⊥ = cc in never

-- What a rule says of a head and a tail, of the path.
module _ (k : Bucket) (rule : KnownRule) (charges : List (Option ℕ)) (ruled : Ruled) (is : IsRuled k charges rule ruled) (h : CrossingHead) (head_in : IsIn h k.heads.now) (t : JoinTail) (p : OpenPath) (x : IsPair k h t p) where
  charged : IsCharged k charges rule ruled (in_got k.heads.now h head_in).0 h
  charged = let at = in_got k.heads.now h head_in in is.each at.0 h at.1

  -- the rule permits the head
  pub head_permitted : Permits rule.rule rule.carrier p.flights → Permits rule.rule rule.carrier x.head_flights
  head_permitted permits = permits_heads rule.rule rule.carrier x.head_flights x.tail_flights (head_some k h t p x) (subst (Permits rule.rule rule.carrier) x.flights permits)

  -- so its classes are among those of the heads that it permits
  pub head_open : Permits rule.rule rule.carrier p.flights → AreAmong h.classes ruled.classes
  head_open permits = by charged.said refl
    where
      by : (said : Option ℕ) → charged.said ≡ said → AreAmong h.classes ruled.classes
      by None e = absurd (subst (SaysOfHead k rule h) e charged.says x.head_flights x.head_numbers (head_permitted permits))
      by (Some c) e = charged.classes c e

  -- and it adds at least the least charges
  pub head_adds : Permits rule.rule rule.carrier x.head_flights → ruled.least ≤ extra_of rule.rule x.head_flights
  head_adds permits = by charged.said refl
    where
      by : (said : Option ℕ) → charged.said ≡ said → ruled.least ≤ extra_of rule.rule x.head_flights
      by None e = absurd (subst (SaysOfHead k rule h) e charged.says x.head_flights x.head_numbers permits)
      by (Some c) e = subst (λ n. ruled.least ≤ n) ((subst (SaysOfHead k rule h) e charged.says).1 x.head_flights x.head_numbers) (charged.least c e)

  pub tail_adds : (added : ℕ) → SaysOfTail rule x.tail_flights (Some added) → added ≤ extra_of rule.rule x.tail_flights
  tail_adds added says = let low = says.1 [] in omega (arith, low)

  -- what is added at least on the path's parts
  pub path_adds : (added : ℕ) → SaysOfTail rule x.tail_flights (Some added) → AddsAtLeast rule.rule rule.carrier ruled.least added p.flights
  path_adds added says = record {
    head = x.head_flights;
    tail = x.tail_flights;
    parts = x.flights;
    some = head_some k h t p x;
    on_head = head_adds;
    on_tail = tail_adds added says;
  }

  -- where nothing is known of the tail
  pub path_adds_head : AddsAtLeast rule.rule rule.carrier ruled.least 0 p.flights
  path_adds_head = record {
    head = x.head_flights;
    tail = x.tail_flights;
    parts = x.flights;
    some = head_some k h t p x;
    on_head = head_adds;
    on_tail = omega arith;
  }

  -- the classes of the path are among those that are known of the tail, and among those of the heads that the rule permits
  pub path_open : (classes : ℕ) → HasOpen k t classes → Permits rule.rule rule.carrier p.flights → AreAmong p.classes (bit_and classes ruled.classes)
  path_open classes has permits =
      let both = has h head_in x.follows in
      subst (λ n. AreAmong n (bit_and classes ruled.classes)) (sym x.classes) (among_both (bit_and h.classes t.classes) classes ruled.classes both
      (λ class l s. head_open permits class l ((both_set h.classes t.classes class).0 s).0))

first_front : {X : Type 0} (P : X → Type 0) (xs ys : List X) → OnFirst P xs → OnFirst P (xs ++ ys)
first_front P [] ys h = absurd h
first_front P (x ∷ xs) ys h = h

first_like : {X : Type 0} (P Q : X → Type 0) (xs : List X) → ((x : X) → P x → Q x) → OnFirst P xs → OnFirst Q xs
first_like P Q [] f h = absurd h
first_like P Q (x ∷ xs) f h = f x h

-- a head's first flight is the bucket's carrier's
pub head_first : (k : Bucket) → IsBucket k → (h : CrossingHead) → IsIn h k.heads.now → (path : Path) → IsCrossingHead k.case.now.book.now k.case.now.request.now k.at.now path h → (fs : List Flight) → HeadFlies k.case.now.book.now h fs → OnFirst (λ f. f.carrier ≡ k.carrier) fs
head_first k bucket h head_in path is fs m =
    let own = each_in (IsHeadOf k.case.now.book.now k.case.now.request.now k.at.now k.carrier k.first) k.heads.now h bucket.heads head_in in
    first_like (λ f. (f.carrier ≡ h.carrier) × (f.day ≡ h.first)) (λ f. f.carrier ≡ k.carrier) fs (λ f x. x.0 ∙ own.carrier_is) (is.first fs (subst (λ ns. Numbers k.case.now.book.now ns fs) (sym is.numbers) m))

-- The path of a head of a bucket and a tail, as it is looked at.
module _ (k : Bucket) (bucket : IsBucket k) (h : CrossingHead) (head_in : IsIn h k.heads.now) (t : JoinTail) where
  pub pair_first : (p : OpenPath) → IsPair k h t p → OnFirst (λ f. f.carrier ≡ k.carrier) p.flights
  pair_first p x = subst (OnFirst (λ f. f.carrier ≡ k.carrier)) (sym x.flights) (first_front (λ f. f.carrier ≡ k.carrier) x.head_flights x.tail_flights (head_first k bucket h head_in x.follows.head_path x.follows.head_is x.head_flights x.head_numbers))

  -- they are four flights at most
  pub pair_few : FollowsOn k h t → (path : Path) → slice_get k.paths.now t.number ≡ Some path → (length (take h.count h.flights) + length path.flights) ≤ MOST_FLIGHTS_OF_A_COMPONENT
  pair_few f path e = subst (λ ns. (length ns + length path.flights) ≤ MOST_FLIGHTS_OF_A_COMPONENT) f.head_is.numbers (subst (λ (z : Path). (length f.head_path.flights + length z.flights) ≤ MOST_FLIGHTS_OF_A_COMPONENT) (same_path f.tail_path path (sym f.stands ∙ e)) f.follows.few)

  -- and these
  pub pair_flights : (p : OpenPath) → (x : IsPair k h t p) → (path : Path) → slice_get k.paths.now t.number ≡ Some path → (fs : List Flight) → Numbers k.case.now.book.now (take h.count h.flights ++ path.flights) fs → p.flights ≡ fs
  pair_flights p x path e fs m =
      let b = k.case.now.book.now in
      let same = same_path x.follows.tail_path path (sym x.follows.stands ∙ e) in
      x.flights ∙ numbers_one b (take h.count h.flights ++ path.flights) (x.head_flights ++ x.tail_flights) fs (numbers_both b (take h.count h.flights) path.flights x.head_flights x.tail_flights x.head_numbers (subst (λ (z : Path). Numbers b z.flights x.tail_flights) same x.tail_numbers)) m
