-- Heads that cross, gathered flight by flight.
use Rattle.std.proofs.Common.{◌≡◌, ℕ, ◌≤◌, ◌<◌, List, [], ◌∷◌, ◌++◌, length, Some, refl, sym, subst, inl, inr, arith}
use Rattle.component_table.specs.Steps.{BeginsBy, GathersHeads}
use Rattle.component_table.proofs.Beginnings.{head_here, head_there}
use Rattle.fare_law.specs.declared.flights.Flight.{Flight}
use Rattle.fare_law.specs.declared.requests.Request.{Request}
use Rattle.fare_law.specs.Book.{Book}
use Rattle.fare_law.specs.Lists.{Each, IsIn}
use Rattle.flight_paths.specs.declared.positions.Path.{Path}
use Rattle.flight_paths.specs.declared.positions.Position.{Position}
use Rattle.flight_paths.specs.Heads.{Follows, IsHead}
use Rattle.joint_paths.specs.declared.crossing_heads.CrossingHead.{CrossingHead}
use Rattle.joint_paths.specs.Heads.{IsCrossingHead}
use Rattle.component_table.specs.Begun.{AreCrossingHeads, IsCrossingGathered}
use Rattle.law_lemmas.proofs.EachOne.{each_append, each_by}
use Rattle.law_lemmas.proofs.Lists.{got_within}
use Rattle.law_lemmas.proofs.Members.{in_either, in_left, in_one, in_right}
use Rattle.fare_ends.specs.Begins.{narrowed}
use Rattle.fare_ends.proofs.FirstFlights.{begins_with}
use Rattle.schedule_book.specs.Departures.{AreDepartures}

module _ (b : Book) (q : Request) (at : Position) (n : ℕ) (low : at.lo ≤ n) (high : n < at.hi) where
  -- a head that crosses is one of the position
  cross_here : (path : Path) (h : CrossingHead) → IsCrossingHead b q (narrowed at n) path h → IsCrossingHead b q at path h
  cross_here path h x =
      let c = x.crosses in
      record {
        middle = x.middle;
        crosses = record {
          slice = c.slice;
          here = c.here;
          flights = c.flights;
          is_head = head_here b q at n low high path.flights c.flights (Some x.middle) c.is_head;
          after = c.after;
          arrives = c.arrives;
          following = c.following;
          there = c.there;
          origin = c.origin;
        };
        few = x.few;
        count = x.count;
        numbers = x.numbers;
        lo = x.lo;
        hi = x.hi;
        legs = x.legs;
        mark = x.mark;
        first = x.first;
      }

  -- a tail that may follow a head may do so of the position that takes its first flight alone
  follows_there : (head tail : Path) → BeginsBy n head.flights → Follows b q.slices at head tail → Follows b q.slices (narrowed at n) head tail
  follows_there head tail w f =
      let c = f.crossing in
      record {
        middle = f.middle;
        crossing = record {
          slice = c.slice;
          here = c.here;
          flights = c.flights;
          is_head = head_there b q at n low high head.flights c.flights (Some f.middle) w c.is_head;
          after = c.after;
          arrives = c.arrives;
          following = c.following;
          there = c.there;
          origin = c.origin;
        };
        flights = f.flights;
        is_tail = f.is_tail;
        in_range = f.in_range;
        few = f.few;
        apart = f.apart;
      }

  gathered_here : (heads : List CrossingHead) → AreCrossingHeads b q (narrowed at n) heads → (path : Path) (fs : List Flight) → BeginsBy n path.flights → IsHead b q.slices at path.flights fs path.after → IsCrossingGathered b q at heads path
  gathered_here heads h path fs w is_head some tail follows =
      let x = h.all path fs (head_there b q at n low high path.flights fs path.after w is_head) some tail (follows_there path tail w follows) in
      (x.0, x.1, cross_here path x.0 x.2)

-- a head of the position that crosses
abbrev pub IsOwnHead : Book → Request → Position → CrossingHead → Type 0
IsOwnHead b q at h = (path : Path) × IsCrossingHead b q at path h

-- The heads that cross of those that begin with some flights are gathered, and none that doesn't cross.
pub record GathersThose (b : Book) (q : Request) (at : Position) (ns : List ℕ) (heads : List CrossingHead) : Type 0 where
  pub each : Each (IsOwnHead b q at) heads
  pub all : (n : ℕ) → IsIn n ns → (path : Path) (fs : List Flight) → BeginsBy n path.flights → IsHead b q.slices at path.flights fs path.after → IsCrossingGathered b q at heads path

pub gathers_none : (b : Book) (q : Request) (at : Position) (heads : List CrossingHead) → heads ≡ [] → GathersThose b q at [] heads
gathers_none b q at heads e = record { each = subst (Each (IsOwnHead b q at)) (sym e) tt; all = λ n i. absurd i }

pub gathers_next : (b : Book) (q : Request) (at : Position) (n : ℕ) → at.lo ≤ n → n < at.hi → (ns : List ℕ) (old new : List CrossingHead) → GathersThose b q at ns old → GathersHeads b q (narrowed at n) old new → GathersThose b q at (ns ++ n ∷ []) new
gathers_next b q at n low high ns old new h k = record {
  each = subst (Each (IsOwnHead b q at)) (sym k.joined) (each_append (IsOwnHead b q at) old k.more h.each (each_by (IsOwnHead b q (narrowed at n)) (IsOwnHead b q at) k.more (λ x p. (p.0, cross_here b q at n low high p.0 x p.1)) k.crossing.each));
  all = λ m i path fs w is_head some tail follows. elim (in_either m ns (n ∷ []) i) [
    | inl j ↦
        let x = h.all m j path fs w is_head some tail follows in
        (x.0, subst (IsIn x.0) (sym k.joined) (in_left x.0 old k.more x.1), x.2)
    | inr j ↦
        let own_number = in_one m n j in
        let x = gathered_here b q at n low high k.more k.crossing path fs (subst (λ i. BeginsBy i path.flights) own_number w) is_head some tail follows in
        (x.0, subst (IsIn x.0) (sym k.joined) (in_right x.0 old k.more x.1), x.2)
  ];
}

-- those of all flights that depart there are the position's
pub gathers_all : (b : Book) (q : Request) (at : Position) (ns : List ℕ) (heads : List CrossingHead) → AreDepartures b.timetable.flights at.place at.lo at.hi ns → GathersThose b q at ns heads → AreCrossingHeads b q at heads
gathers_all b q at ns heads are h = record {
  each = h.each;
  all = λ path fs is_head.
      let w = begins_with b q.slices at path.flights fs path.after is_head.path in
      h.all w.number ((are.are w.number).1 (w.takes.low, w.takes.high, (w.flight, w.takes.known, w.takes.departs))) path fs (record { rest = w.rest; is = w.numbers }) is_head;
}

-- a list of no length has none
pub none_long : {X : Type 0} (xs : List X) (n : ℕ) → n ≡ length xs → n ≡ 0 → xs ≡ []
none_long [] n e z = refl
none_long (x ∷ xs) n e z = absurd (omega (arith, e, z))

-- where a head crosses, its position is in a slice of the request
pub slice_within : (b : Book) (q : Request) (at : Position) (heads : List CrossingHead) → (heads ≡ [] → ⊥) → AreCrossingHeads b q at heads → at.slice < length q.slices
slice_within b q at [] some h = absurd (some refl)
slice_within b q at (x ∷ heads) some h = got_within q.slices at.slice h.each.0.1.crosses.slice h.each.0.1.crosses.here
