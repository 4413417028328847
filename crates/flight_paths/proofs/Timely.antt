-- How long heads are, and when a tail follows in time.
use Rattle.std.proofs.Common.{◌≡◌, ◌≢◌, ℕ, suc, ℤ, pos, ◌+◌, ◌≤◌, ◌<◌, ◌+ℤ◌, ◌≤ℤ◌, List, [], ◌∷◌, length, slice_get, Option, Some, None, refl, sym, subst, ◌∙◌, arith}
use Rattle.fare_law.specs.declared.flights.Flight.{Flight}
use Rattle.fare_law.specs.declared.requests.Slice.{Slice}
use Rattle.fare_law.specs.Book.{Book, connect}
use Rattle.fare_law.specs.Flights.{Ascending}
use Rattle.fare_law.specs.Journey.{InWindow}
use Rattle.fare_law.specs.Lists.{OnFirst, OnLast}
use Rattle.flight_paths.specs.declared.positions.Position.{Position}
use Rattle.flight_paths.specs.Heads.{CrossesInTime, HeadsAreShort, IsHead}
use Rattle.flight_paths.specs.Positions.{Flies, position_before}
use Rattle.flight_paths.proofs.Between.{before_late, before_range}
use Rattle.flight_paths.proofs.Confined.{leg_room}
use Rattle.flight_paths.proofs.Cutting.{crossed, first_slice, last_of, some_flights}
use Rattle.flight_paths.proofs.Growth.{flies_numbers}
use Rattle.law_lemmas.proofs.Ends.{last_both, last_like}
use Rattle.law_lemmas.proofs.Options.{some_same}
use Rattle.law_lemmas.proofs.Pairs.{matched_length}

pub heads_are_short : HeadsAreShort
heads_are_short b sl at ns fs next = (head, λ h. path ns fs h.some h.flies)
  where
    path : (ms : List ℕ) (gs : List Flight) → ms ≢ [] → Flies b sl (Some at) ms gs next → at.leg ≤ 2
    path [] gs some h = absurd (some refl)
    path (m ∷ ms) [] some h = absurd h
    path (m ∷ ms) (g ∷ gs) some (s, k, t, o, l, r) = t.few

    head : IsHead b sl at ns fs next → length ns + at.leg ≤ 3
    head h =
        let f = first_slice b sl at ns fs next h.path.some h.path.flies in
        let room = leg_room b sl sl f.0 at ns fs next f.1 h.path.flies (h.stays f.0 f.1) (some_flights b sl (Some at) ns fs next h.path.some h.path.flies) in
        omega (arith, room, matched_length _ ns fs (flies_numbers b sl (Some at) ns fs next h.path.flies))

module _ (b : Book) (sl : List Slice) (i : ℕ) (t : Slice) (known : slice_get sl i ≡ Some t) (asc : Ascending b.timetable.flights) (arrival : ℤ) where
  late : (ns : List ℕ) (gs : List Flight) (next : Option Position) → Flies b sl (Some (position_before b i t None)) ns gs next → OnFirst (λ n. ((position_before b i t (Some arrival)).lo ≤ n) × (n < (position_before b i t (Some arrival)).hi)) ns → OnFirst (λ g. (arrival +ℤ pos (connect b g.from)) ≤ℤ g.dep) gs
  late [] gs next h r = absurd r
  late (n ∷ ns) [] next h r = absurd h
  late (n ∷ ns) (g ∷ gs) next (s, k, u, o, l, w) r = before_late b t (Some arrival) n g asc u.known u.departs r.0 r.1

  range : (ns : List ℕ) (gs : List Flight) (next : Option Position) → Flies b sl (Some (position_before b i t None)) ns gs next → OnFirst (λ g. (arrival +ℤ pos (connect b g.from)) ≤ℤ g.dep) gs → OnFirst (λ n. ((position_before b i t (Some arrival)).lo ≤ n) × (n < (position_before b i t (Some arrival)).hi)) ns
  range [] [] next h r = absurd r
  range [] (g ∷ gs) next h r = absurd h
  range (n ∷ ns) [] next h r = absurd h
  range (n ∷ ns) (g ∷ gs) next (s, k, u, o, l, w) r = before_range b t (Some arrival) n g u.known u.departs (subst (λ x. InWindow x g) (some_same s t (sym k ∙ known)) (u.window refl)) r

pub crosses_in_time : CrossesInTime
crosses_in_time b sl at h middle asc c ns gs next w = (forth, back)
  where
    i : ℕ
    i = suc at.slice

    t : Slice
    t = w.slice

    stands : OnLast (λ f. middle ≡ position_before b i t (Some f.arr)) c.flights
    stands = crossed b sl c.slice t at h.flights c.flights middle c.here w.known c.is_head.path.flies (c.is_head.stays c.slice c.here) c.arrives

    forth : OnFirst (λ n. (middle.lo ≤ n) × (n < middle.hi)) ns → OnLast (λ f. OnFirst (λ g. (f.arr +ℤ pos (connect b g.from)) ≤ℤ g.dep) gs) c.flights
    forth r = last_like (λ f. middle ≡ position_before b i t (Some f.arr)) (λ f. OnFirst (λ g. (f.arr +ℤ pos (connect b g.from)) ≤ℤ g.dep) gs) c.flights stands (λ f e. late b sl i t w.known asc f.arr ns gs next w.path.flies (subst (λ p. OnFirst (λ n. (p.lo ≤ n) × (n < p.hi)) ns) e r))

    back : OnLast (λ f. OnFirst (λ g. (f.arr +ℤ pos (connect b g.from)) ≤ℤ g.dep) gs) c.flights → OnFirst (λ n. (middle.lo ≤ n) × (n < middle.hi)) ns
    back l =
        let both = last_of _ c.flights (last_both (λ f. middle ≡ position_before b i t (Some f.arr)) (λ f. OnFirst (λ g. (f.arr +ℤ pos (connect b g.from)) ≤ℤ g.dep) gs) c.flights stands l) in
        subst (λ p. OnFirst (λ n. (p.lo ≤ n) × (n < p.hi)) ns) (sym both.1.0) (range b sl i t w.known asc both.0.arr ns gs next w.path.flies both.1.1)
