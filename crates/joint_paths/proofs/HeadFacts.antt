-- When a tail may follow a head of a bucket, by what is known of both.
use Rattle.std.proofs.Common.{◌≡◌, ◌≢◌, ◌↔◌, ℕ, ℤ, suc, ◌+◌, ◌-◌, ◌<◌, ◌≤◌, Bool, true, List, [], ◌∷◌, length, slice_get, take, Some, bit_and, refl, sym, ap, subst, ◌∙◌, arith}
use Rattle.std.proofs.lemmas.Nat.{and_comm}
use Rattle.fare_ends.specs.Legs.{HasLegs}
use Rattle.fare_ends.specs.Legs.{AreAmong}
use Rattle.fare_law.specs.declared.flights.Flight.{Flight}
use Rattle.fare_law.specs.declared.names.Carrier.{Carrier}
use Rattle.fare_law.specs.declared.limits.TheConstants.{MOST_FLIGHTS_OF_A_COMPONENT}
use Rattle.fare_law.specs.declared.requests.Request.{Request}
use Rattle.fare_law.specs.Book.{Book}
use Rattle.fare_law.specs.Journey.{calls}
use Rattle.fare_law.specs.Lists.{Each, IsIn, OnFirst}
use Rattle.fare_law.specs.Parts.{Numbers}
use Rattle.flight_paths.specs.declared.positions.Path.{Path}
use Rattle.flight_paths.specs.declared.positions.Position.{Position}
use Rattle.flight_paths.specs.Heads.{Crossing}
use Rattle.flight_paths.specs.Marks.{HasBits}
use Rattle.flight_paths.specs.Ways.{arrivals_of}
use Rattle.flight_paths.proofs.Joining.{head_flights, tail_flights}
use Rattle.flight_paths.proofs.Marking.{marks_apart}
use Rattle.joint_paths.specs.declared.buckets.Bucket.{Bucket}
use Rattle.joint_paths.specs.declared.buckets.Reach.{Reach}
use Rattle.joint_paths.specs.declared.crossing_heads.CrossingHead.{CrossingHead}
use Rattle.joint_paths.specs.declared.tail_classes.JoinTail.{JoinTail}
use Rattle.joint_paths.specs.Heads.{FollowsOn, HasOpen, HeadFlies, IsBucket, IsCrossingHead, IsHeadOf}
use Rattle.joint_paths.specs.Tails.{IsJoinTail}
use Rattle.fare_groups.proofs.Bits.{both_set}
use Rattle.law_lemmas.proofs.EachOne.{each_in}
use Rattle.law_lemmas.proofs.LawFacts.{numbers_one}
use Rattle.law_lemmas.proofs.Members.{got_in, in_got}

same_path : (x y : Path) → Some x ≡ Some y → x ≡ y
same_path x y e = cc

same_position : (x y : Position) → Some x ≡ Some y → x ≡ y
same_position x y e = cc

first_to : (P : ℕ → Type 0) (ns : List ℕ) (n : ℕ) → OnFirst (λ m. m ≡ n) ns → OnFirst P ns → P n
first_to P [] n h k = absurd h
first_to P (m ∷ ns) n h k = subst P h k

first_from : (P : ℕ → Type 0) (ns : List ℕ) (n : ℕ) → OnFirst (λ m. m ≡ n) ns → P n → OnFirst P ns
first_from P [] n h k = absurd h
first_from P (m ∷ ns) n h k = subst P (sym h) k

-- the tail calls at no place of the head
abbrev pub AreApart : Bucket → CrossingHead → JoinTail → Type 0
AreApart k h t = (path : Path) → slice_get k.paths.now t.number ≡ Some path → (fs gs : List Flight) → HeadFlies k.case.now.book.now h fs → Numbers k.case.now.book.now path.flights gs → Each (λ p. Each (λ q. p ≢ q) (arrivals_of gs)) (calls k.at.now.place fs)

-- the flights of a head that crosses
pub head_flown : (k : Bucket) (h : CrossingHead) (path : Path) → (is : IsCrossingHead k.case.now.book.now k.case.now.request.now k.at.now path h) → HeadFlies k.case.now.book.now h is.crosses.flights
head_flown k h path is = subst (λ ns. Numbers k.case.now.book.now ns is.crosses.flights) is.numbers (head_flights k.case.now.book.now k.case.now.request.now.slices k.at.now path.flights is.crosses.flights (Some is.middle) is.crosses.is_head)

-- so of each head of a bucket
module _ (k : Bucket) (bucket : IsBucket k) (h : CrossingHead) (head_in : IsIn h k.heads.now) where
  own_head : IsHeadOf k.case.now.book.now k.case.now.request.now k.at.now k.carrier k.first h
  own_head = each_in (IsHeadOf k.case.now.book.now k.case.now.request.now k.at.now k.carrier k.first) k.heads.now h bucket.heads head_in

  pub few_flights : h.count ≤ 3
  few_flights = own_head.is.few

  pub head_known : (ns : List ℕ) → ns ≡ take h.count h.flights → (fs : List Flight) × Numbers k.case.now.book.now ns fs
  head_known ns e = (own_head.is.crosses.flights, subst (λ ms. Numbers k.case.now.book.now ms own_head.is.crosses.flights) (sym e) (head_flown k h own_head.path own_head.is))

module _ (k : Bucket) (h : CrossingHead) (t : JoinTail) where
  -- before a tail
  pub flown : (path : Path) → (is : IsCrossingHead k.case.now.book.now k.case.now.request.now k.at.now path h) → HeadFlies k.case.now.book.now h is.crosses.flights
  flown path is = head_flown k h path is

  -- a head has a flight
  pub has_flight : (path : Path) → IsCrossingHead k.case.now.book.now k.case.now.request.now k.at.now path h → 1 ≤ h.count
  has_flight path is = subst (λ n. 1 ≤ n) (sym is.count) (long path.flights is.crosses.is_head.path.some)
    where
      long : (ns : List ℕ) → ns ≢ [] → 1 ≤ length ns
      long [] n = absurd (n refl)
      long (x ∷ xs) n = omega arith

  module _ (f : FollowsOn k h t) where
    range_is : (f.follows.middle.lo ≡ h.lo) × (f.follows.middle.hi ≡ h.hi)
    range_is =
        let same = same_position f.head_is.middle f.follows.middle (sym f.head_is.crosses.after ∙ f.follows.crossing.after) in
        (ap (λ (x : Position). x.lo) (sym same) ∙ sym f.head_is.lo, ap (λ (x : Position). x.hi) (sym same) ∙ sym f.head_is.hi)

    pub follow_one : 1 ≤ h.count
    follow_one = has_flight f.head_path f.head_is

    module _ (tail : IsJoinTail k.case.now.book.now k.case.now.request.now k.paths.now t) where
      own : f.tail_path ≡ tail.path
      own = same_path f.tail_path tail.path (sym f.stands ∙ tail.stands)

      pub follow_few : (h.count + t.count) ≤ MOST_FLIGHTS_OF_A_COMPONENT
      follow_few = subst (λ n. (h.count + n) ≤ MOST_FLIGHTS_OF_A_COMPONENT) (sym tail.count) (subst (λ n. (n + length tail.path.flights) ≤ MOST_FLIGHTS_OF_A_COMPONENT) (sym f.head_is.count) (subst (λ (p : Path). (length f.head_path.flights + length p.flights) ≤ MOST_FLIGHTS_OF_A_COMPONENT) own f.follows.few))

      abbrev pub In : ℕ → Type 0
      In n = (f.follows.middle.lo ≤ n) × (n < f.follows.middle.hi)

      pub follow_range : (h.lo ≤ t.first) × (t.first < h.hi)
      follow_range =
          let r = first_to In tail.path.flights t.first tail.first (subst (λ (p : Path). OnFirst In p.flights) own f.follows.in_range) in
          (subst (λ n. n ≤ t.first) range_is.0 r.0, subst (λ n. t.first < n) range_is.1 r.1)

    pub follow_apart : AreApart k h t
    follow_apart path e fs gs m n =
        let b = k.case.now.book.now in
        let same = same_path f.tail_path path (sym f.stands ∙ e) in
        let heads = numbers_one b (take h.count h.flights) f.follows.crossing.flights fs (subst (λ ns. Numbers b ns f.follows.crossing.flights) f.head_is.numbers (head_flights b k.case.now.request.now.slices k.at.now f.head_path.flights f.follows.crossing.flights (Some f.follows.middle) f.follows.crossing.is_head)) m in
        let tails = numbers_one b path.flights f.follows.flights gs (subst (λ (p : Path). Numbers b p.flights f.follows.flights) same (tail_flights b k.case.now.request.now.slices k.at.now (suc k.at.now.slice) f.tail_path.flights f.follows.flights f.tail_path.after f.follows.is_tail)) n in
        subst (λ xs. Each (λ p. Each (λ q. p ≢ q) (arrivals_of xs)) (calls k.at.now.place fs)) tails (subst (λ xs. Each (λ p. Each (λ q. p ≢ q) (arrivals_of f.follows.flights)) (calls k.at.now.place xs)) heads f.follows.apart)

module _ (k : Bucket) (bucket : IsBucket k) (h : CrossingHead) (head_in : IsIn h k.heads.now) (t : JoinTail) (tail : IsJoinTail k.case.now.book.now k.case.now.request.now k.paths.now t) where
  head_of : IsHeadOf k.case.now.book.now k.case.now.request.now k.at.now k.carrier k.first h
  head_of = each_in (IsHeadOf k.case.now.book.now k.case.now.request.now k.at.now k.carrier k.first) k.heads.now h bucket.heads head_in

  -- where all tests pass, the tail may follow
  pub fits_follow : (h.count + t.count) ≤ MOST_FLIGHTS_OF_A_COMPONENT → h.lo ≤ t.first → t.first < h.hi → AreApart k h t → FollowsOn k h t
  fits_follow few low high apart =
      let is = head_of.is in
      let found = (bucket.tails.are tail.path).0 (got_in k.paths.now t.number tail.path tail.stands) in
      record {
        head_path = head_of.path;
        head_is = is;
        tail_path = tail.path;
        stands = tail.stands;
        follows = record {
          middle = is.middle;
          crossing = is.crosses;
          flights = found.0;
          is_tail = found.1;
          in_range = first_from (λ n. (is.middle.lo ≤ n) × (n < is.middle.hi)) tail.path.flights t.first tail.first (subst (λ n. n ≤ t.first) is.lo low, subst (λ n. t.first < n) is.hi high);
          few = subst (λ n. (n + length tail.path.flights) ≤ MOST_FLIGHTS_OF_A_COMPONENT) is.count (subst (λ n. (h.count + n) ≤ MOST_FLIGHTS_OF_A_COMPONENT) tail.count few);
          apart = apart tail.path tail.stands is.crosses.flights found.0 (flown k h t head_of.path is) (tail_flights k.case.now.book.now k.case.now.request.now.slices k.at.now (suc k.at.now.slice) tail.path.flights found.0 tail.path.after found.1);
        };
      }

  -- marks that share no bit
  pub marks_tell : bit_and h.mark t.mark ≡ 0 → AreApart k h t
  marks_tell z path e fs gs m n =
      let same = same_path tail.path path (sym tail.stands ∙ e) in
      let is = head_of.is in
      marks_apart t.mark h.mark (arrivals_of gs) (calls k.at.now.place fs)
      (tail.mark gs (subst (λ (p : Path). Numbers k.case.now.book.now p.flights gs) (sym same) n))
      (is.mark fs (subst (λ ns. Numbers k.case.now.book.now ns fs) (sym is.numbers) m))
      (and_comm t.mark h.mark ∙ z)

  -- the classes that are open on both are among those of the bucket and the tail
  pub open_among : AreAmong (bit_and h.classes t.classes) (bit_and k.classes t.classes)
  open_among class l s =
      let both = (both_set h.classes t.classes class).0 s in
      (both_set k.classes t.classes class).1 (bucket.classes h head_in class l both.0, both.1)

-- what is known of a head that crosses
pub crosses_as : (b : Book) (q : Request) (at : Position) (path : Path) (h : CrossingHead) (middle : Position) → Crossing b q.slices at path middle → length path.flights ≤ 3 → h.count ≡ length path.flights → take (length path.flights) h.flights ≡ path.flights → h.lo ≡ middle.lo → h.hi ≡ middle.hi
    → ((fs : List Flight) → Numbers b path.flights fs → HasLegs b q fs h.classes) → ((fs : List Flight) → Numbers b path.flights fs → HasBits h.mark (at.place ∷ arrivals_of fs)) → ((fs : List Flight) → Numbers b path.flights fs → OnFirst (λ f. (f.carrier ≡ h.carrier) × (f.day ≡ h.first)) fs) → IsCrossingHead b q at path h
crosses_as b q at path h middle crosses few count numbers lo hi legs mark first = record {
  middle = middle;
  crosses = crosses;
  few = subst (λ n. n ≤ 3) (sym count) few;
  count = count;
  numbers = sym (ap (λ n. take n h.flights) count ∙ numbers);
  lo = lo;
  hi = hi;
  legs = legs;
  mark = mark;
  first = first;
}

-- the first flight has the carrier and the day that it has
pub first_told : (first : Flight) (carrier : Carrier) (day : ℤ) → carrier ≡ first.carrier → day ≡ first.day → (fs : List Flight) → OnFirst (λ f. f ≡ first) fs → OnFirst (λ f. (f.carrier ≡ carrier) × (f.day ≡ day)) fs
first_told first carrier day c d [] h = h
first_told first carrier day c d (f ∷ fs) h = (ap (λ (x : Flight). x.carrier) h ∙ sym c, ap (λ (x : Flight). x.day) h ∙ sym d)

-- a tail that begins before any head of the bucket may go on follows none
pub none_before : (k : Bucket) → IsBucket k → (t : JoinTail) → IsJoinTail k.case.now.book.now k.case.now.request.now k.paths.now t → t.first < k.three.low → (h : CrossingHead) → IsIn h k.heads.now → FollowsOn k h t → ⊥
none_before k bucket t tail lt h i f =
    let n = in_got k.heads.now h i in
    let low = (bucket.three.each n.0 h n.1 f.head_is.few).1 in
    let r = (follow_range k h t f tail).0 in
    absurd (omega (arith, lt, low, r))

-- a head that fits before a tail is within the reach of so many flights
pub within_reach : (k : Bucket) (t : JoinTail) → IsJoinTail k.case.now.book.now k.case.now.request.now k.paths.now t → (count : ℕ) → count ≡ MOST_FLIGHTS_OF_A_COMPONENT - t.count → (r : Reach) → ((n : ℕ) (h : CrossingHead) → slice_get k.heads.now n ≡ Some h → 1 ≤ h.count → h.count ≤ count → (n < r.end) × (r.low ≤ h.lo))
    → (n : ℕ) (h : CrossingHead) → slice_get k.heads.now n ≡ Some h → FollowsOn k h t → (n < r.end) × (r.low ≤ t.first)
within_reach k t tail count is r reach n h got f =
    let few = follow_few k h t f tail in
    let x = reach n h got (follow_one k h t f) (room (h.count) t.count count few is) in
    let range = (follow_range k h t f tail).0 in
    (x.0, let y = x.1 in omega (arith, y, range))
  where
    room : (a b c : ℕ) → (a + b) ≤ MOST_FLIGHTS_OF_A_COMPONENT → c ≡ MOST_FLIGHTS_OF_A_COMPONENT - b → a ≤ c
    room a b c h e = omega (arith, h, e)

module _ (k : Bucket) (bucket : IsBucket k) (h : CrossingHead) (head_in : IsIn h k.heads.now) (t : JoinTail) (tail : IsJoinTail k.case.now.book.now k.case.now.request.now k.paths.now t) where
  -- where the first tests pass, the last one tells
  pub apart_tells : (r : Bool) → (h.count + t.count) ≤ MOST_FLIGHTS_OF_A_COMPONENT → h.lo ≤ t.first → t.first < h.hi
      → ((path : Path) → slice_get k.paths.now t.number ≡ Some path → (fs gs : List Flight) → HeadFlies k.case.now.book.now h fs → Numbers k.case.now.book.now path.flights gs → (r ≡ true) ↔ Each (λ p. Each (λ q. p ≢ q) (arrivals_of gs)) (calls k.at.now.place fs))
      → (r ≡ true) ↔ FollowsOn k h t
  apart_tells r few low high tell = (
    λ e. fits_follow k bucket h head_in t tail few low high (λ path got fs gs m n. (tell path got fs gs m n).0 e),
    λ f.
        let m = flown k h t f.head_path f.head_is in
        (tell tail.path tail.stands f.head_is.crosses.flights tail.short.flights m tail.short.numbers).1 (follow_apart k h t f tail.path tail.stands f.head_is.crosses.flights tail.short.flights m tail.short.numbers),
  )

  -- a tail that may follow doesn't call at the place where the head begins
  pub none_here : FollowsOn k h t → Each (λ q. k.at.now.place ≢ q) (arrivals_of tail.short.flights)
  none_here f = (follow_apart k h t f tail.path tail.stands f.head_is.crosses.flights tail.short.flights (flown k h t f.head_path f.head_is) tail.short.numbers).0

-- few enough flights for the room that is left
pub few_enough : (count own room : ℕ) → own ≤ MOST_FLIGHTS_OF_A_COMPONENT → room ≡ MOST_FLIGHTS_OF_A_COMPONENT - own → count ≤ room → (count + own) ≤ MOST_FLIGHTS_OF_A_COMPONENT
few_enough count own room le e h = omega (arith, le, e, h)

-- which classes may be open with a tail
pub none_open : (k : Bucket) (t : JoinTail) (classes : ℕ) → ((h : CrossingHead) → IsIn h k.heads.now → FollowsOn k h t → ⊥) → HasOpen k t classes
none_open k t classes none h i f = absurd (none h i f)

pub some_open : (k : Bucket) → IsBucket k → (t : JoinTail) → IsJoinTail k.case.now.book.now k.case.now.request.now k.paths.now t → HasOpen k t (bit_and k.classes t.classes)
some_open k bucket t tail h i f = open_among k bucket h i t tail
