-- Heads and tails put together, each path once.
use Rattle.std.proofs.Common.{◌≡◌, ◌≢◌, ◌⊎◌, ℕ, suc, List, [], ◌∷◌, ◌++◌, length, slice_get, Option, Some, None, refl, sym, ap, subst, ◌∙◌, inl, inr, arith, length-append, ◌≤◌}
use Rattle.fare_law.specs.declared.flights.Flight.{Flight}
use Rattle.fare_law.specs.declared.requests.Slice.{Slice}
use Rattle.fare_law.specs.Book.{Book}
use Rattle.fare_law.specs.Lists.{IsIn, OnFirst, OnLast}
use Rattle.flight_paths.specs.declared.positions.Path.{Path}
use Rattle.flight_paths.specs.declared.positions.Position.{Position}
use Rattle.flight_paths.specs.Heads.{AreSomeTails, Crosses, Crossing, Follows, IsHead, IsJoined, IsTail, Stays}
use Rattle.flight_paths.specs.Positions.{Flies, LeadsTo, before_slice, position_before, position_inside, via_after}
use Rattle.flight_paths.specs.Ways.{AreFlightsOf}
use Rattle.flight_paths.proofs.Growing.{flies_one}
use Rattle.flight_paths.proofs.Growth.{flies_numbers}
use Rattle.flight_paths.proofs.Cutting.{crossed, last_of}
use Rattle.flight_paths.proofs.Apart.{cut_one, flights_both, flights_one, never_past, same_path}
use Rattle.law_lemmas.proofs.Lists.{parts_same}
use Rattle.law_lemmas.proofs.Options.{some_same}
use Rattle.law_lemmas.proofs.Pairs.{matched_length}

module _ (b : Book) (sl : List Slice) (at : Position) where
  -- where a head stands that leads on
  pub record Arrived (s : Slice) (fs : List Flight) (middle : Position) : Type 0 where
    pub arrives : OnLast (λ f. f.to ≡ s.to) fs
    pub following : Slice
    pub there : slice_get sl (suc at.slice) ≡ Some following
    pub place : middle.place ≡ following.from

  -- a head that crosses stands before the next slice
  pub crossing_stands : (h : Path) (middle : Position) → Crossing b sl at h middle → (middle.slice ≡ suc at.slice) × ((s : Slice) → slice_get sl at.slice ≡ Some s → middle.place ≡ s.to)
  crossing_stands h middle c =
      let r = last_of _ c.flights (crossed b sl c.slice c.following at h.flights c.flights middle c.here c.there c.is_head.path.flies (c.is_head.stays c.slice c.here) c.arrives) in
      (ap (λ p. p.slice) r.1, λ s k. ap (λ p. p.place) r.1 ∙ c.origin ∙ ap (λ x. x.to) (some_same c.slice s (sym c.here ∙ k)))

-- a head that leads on stands in its slice, or before the next
pub stands : (b : Book) (sl : List Slice) (s : Slice) (at : Position) (ns : List ℕ) (fs : List Flight) (middle : Position) → ns ≢ [] → slice_get sl at.slice ≡ Some s → Flies b sl (Some at) ns fs (Some middle) → Stays s fs → Arrived b sl at s fs middle ⊎ (middle.slice ≡ at.slice)
stands b sl s at [] fs middle some k h st = absurd (some refl)
stands b sl s at (n ∷ ns) [] middle some k h st = absurd h
stands b sl s at (n ∷ m ∷ ns) (f ∷ []) middle some k (s', k', t, o, l, r) st = absurd r
stands b sl s at (n ∷ []) (f ∷ []) middle some k (s', k', t, o, l, r) st = by l
  where
    to : (x : Option Slice) → slice_get sl (suc at.slice) ≡ x → f.to ≡ s.to → Some middle ≡ before_slice b (suc at.slice) x (Some f.arr) → Arrived b sl at s (f ∷ []) middle ⊎ (middle.slice ≡ at.slice)
    to None z e q = absurd (wrong q)
      where
        wrong : Some middle ≡ None → ⊥
        wrong w = cc
    to (Some t) z e q = inl (record { arrives = e; following = t; there = z; place = ap (λ p. p.place) (some_same middle (position_before b (suc at.slice) t (Some f.arr)) q) })

    by : LeadsTo b sl s' at f o → Arrived b sl at s (f ∷ []) middle ⊎ (middle.slice ≡ at.slice)
    by (inl h) = to (slice_get sl (suc at.slice)) refl (h.0 ∙ ap (λ x. x.to) (some_same s' s (sym k' ∙ k))) (r ∙ h.1)
    by (inr h) = inr (ap (λ p. p.slice) (some_same middle (position_inside b at.slice (suc at.leg) f.to (via_after at) f.arr) (r ∙ h.2)))
stands b sl s at (n ∷ []) (f ∷ g ∷ fs) middle some k (s', k', t, o, l, r) st = absurd r
stands b sl s at (n ∷ m ∷ ns) (f ∷ g ∷ fs) middle some k (s', k', t, o, l, r) st = by l (λ p e h. stands b sl s p (m ∷ ns) (g ∷ fs) middle (λ w. cc) e h st.1)
  where
    more_is : (x : Arrived b sl (position_inside b at.slice (suc at.leg) f.to (via_after at) f.arr) s (g ∷ fs) middle ⊎ (middle.slice ≡ at.slice)) → Arrived b sl at s (f ∷ g ∷ fs) middle ⊎ (middle.slice ≡ at.slice)
    more_is (inl x) = inl (record { arrives = x.arrives; following = x.following; there = x.there; place = x.place })
    more_is (inr e) = inr e

    by : LeadsTo b sl s' at f o → ((p : Position) → slice_get sl p.slice ≡ Some s → Flies b sl (Some p) (m ∷ ns) (g ∷ fs) (Some middle) → Arrived b sl p s (g ∷ fs) middle ⊎ (middle.slice ≡ p.slice)) → Arrived b sl at s (f ∷ g ∷ fs) middle ⊎ (middle.slice ≡ at.slice)
    by (inl h) more = absurd (st.0 (h.0 ∙ ap (λ x. x.to) (some_same s' s (sym k' ∙ k))))
    by (inr h) more = more_is (more (position_inside b at.slice (suc at.leg) f.to (via_after at) f.arr) k (subst (λ y. Flies b sl y (m ∷ ns) (g ∷ fs) (Some middle)) h.2 r))

-- a head that leads on out of its slice, to its destination, crosses
pub crossing_of : (b : Book) (sl : List Slice) (at : Position) (h : Path) (fs : List Flight) (middle : Position) (s : Slice) → slice_get sl at.slice ≡ Some s → h.after ≡ Some middle → IsHead b sl at h.flights fs (Some middle) → (middle.slice ≡ at.slice → ⊥) → middle.place ≡ s.to → Crossing b sl at h middle
crossing_of b sl at h fs middle s k a w out e = by (stands b sl s at h.flights fs middle w.path.some k w.path.flies (w.stays s k))
  where
    by : Arrived b sl at s fs middle ⊎ (middle.slice ≡ at.slice) → Crossing b sl at h middle
    by (inl x) = record { slice = s; here = k; flights = fs; is_head = w; after = a; arrives = x.arrives; following = x.following; there = x.there; origin = sym x.place ∙ e }
    by (inr z) = absurd (out z)

module _ (b : Book) (sl : List Slice) (at : Position) where
  -- the flights of a head's numbers, and of a tail's
  pub head_flights : (ns : List ℕ) (fs : List Flight) (next : Option Position) → IsHead b sl at ns fs next → AreFlightsOf b.timetable.flights ns fs
  head_flights ns fs next h = flies_numbers b sl (Some at) ns fs next h.path.flies

  pub tail_flights : (i : ℕ) (ns : List ℕ) (fs : List Flight) (next : Option Position) → IsTail b sl i ns fs next → AreFlightsOf b.timetable.flights ns fs
  tail_flights i ns fs next h = flies_numbers b sl (Some (position_before b i h.slice None)) ns fs next h.path.flies

  flights_of_joined : (h t p : Path) (j : IsJoined b sl at h t p) → AreFlightsOf b.timetable.flights p.flights (j.follows.crossing.flights ++ j.follows.flights)
  flights_of_joined h t p j =
      let c = j.follows.crossing in
      subst (λ ns. AreFlightsOf b.timetable.flights ns (c.flights ++ j.follows.flights)) (sym j.numbers)
      (flights_both b.timetable.flights h.flights t.flights c.flights j.follows.flights (head_flights h.flights c.flights (Some j.follows.middle) c.is_head) (tail_flights (suc at.slice) t.flights j.follows.flights t.after j.follows.is_tail))

  -- a path has one head
  pub joined_head : (h t h' t' p : Path) → IsJoined b sl at h t p → IsJoined b sl at h' t' p → h ≡ h'
  joined_head h t h' t' p j j' =
      let c = j.follows.crossing in
      let c' = j'.follows.crossing in
      let s = c.slice in
      let same = some_same c'.slice s (sym c'.here ∙ c.here) in
      let is = flights_one b.timetable.flights p.flights (c.flights ++ j.follows.flights) (c'.flights ++ j'.follows.flights) (flights_of_joined h t p j) (flights_of_joined h' t' p j') in
      let long = cut_one s c.flights c'.flights j.follows.flights j'.follows.flights (c.is_head.stays s c.here) c.arrives (c'.is_head.stays s c.here) (subst (λ x. OnLast (λ f. f.to ≡ x.to) c'.flights) same c'.arrives) is in
      let n = matched_length _ h.flights c.flights (head_flights h.flights c.flights (Some j.follows.middle) c.is_head) in
      let n' = matched_length _ h'.flights c'.flights (head_flights h'.flights c'.flights (Some j'.follows.middle) c'.is_head) in
      let e = (parts_same h.flights h'.flights t.flights t'.flights (n ∙ long ∙ sym n') (sym j.numbers ∙ j'.numbers)).0 in
      let o = flies_one b sl (Some at) h'.flights c.flights c'.flights (Some j.follows.middle) (Some j'.follows.middle) (subst (λ ns. Flies b sl (Some at) ns c.flights (Some j.follows.middle)) e c.is_head.path.flies) c'.is_head.path.flies in
      same_path h h' e (c.after ∙ o.1 ∙ sym c'.after)

  -- after one head, a path has one tail
  pub joined_tail : (h t t' p : Path) → IsJoined b sl at h t p → IsJoined b sl at h t' p → t ≡ t'
  joined_tail h t t' p j j' = same_path t t' (parts_same h.flights h.flights t.flights t'.flights refl (sym j.numbers ∙ j'.numbers)).1 (sym j.after ∙ j'.after)

  pub same_middle : (h t : Path) (middle : Position) → Crossing b sl at h middle → (f : Follows b sl at h t) → f.middle ≡ middle
  same_middle h t middle c f = some_same f.middle middle (sym f.crossing.after ∙ c.after)

  pub tail_count : (i : ℕ) (ts : List Path) → AreSomeTails b sl i ts → (t : Path) → IsIn t ts → (1 ≤ length t.flights) × (length t.flights ≤ 3)
  tail_count i ts d t k =
      let w = d.each t k in
      (some t.flights w.1.path.some, omega (arith, w.1.few, matched_length _ t.flights w.0 (tail_flights i t.flights w.0 t.after w.1)))
    where
      some : (ns : List ℕ) → ns ≢ [] → 1 ≤ length ns
      some [] n = absurd (n refl)
      some (n ∷ ns) e = omega arith

  -- no head is joined
  pub head_not_joined : (h t p : Path) (fs : List Flight) → IsHead b sl at p.flights fs p.after → IsJoined b sl at h t p → ⊥
  head_not_joined h t p fs k j =
      let c = j.follows.crossing in
      let is = flights_one b.timetable.flights p.flights fs (c.flights ++ j.follows.flights) (head_flights p.flights fs p.after k) (flights_of_joined h t p j) in
      let tail = j.follows.is_tail in
      never_past c.slice c.flights j.follows.flights (some t.flights j.follows.flights tail.path.some (tail_flights (suc at.slice) t.flights j.follows.flights t.after tail)) c.arrives (subst (Stays c.slice) is (k.stays c.slice c.here))
    where
      some : (ns : List ℕ) (gs : List Flight) → ns ≢ [] → AreFlightsOf b.timetable.flights ns gs → gs ≢ []
      some [] gs x h = absurd (x refl)
      some (n ∷ ns) [] x h = absurd h
      some (n ∷ ns) (g ∷ gs) x h = λ e. cc

  -- what follows crosses
  pub joined_crosses : (h t p : Path) (j : IsJoined b sl at h t p) → Crosses b sl at p.flights (j.follows.crossing.flights ++ j.follows.flights) p.after
  joined_crosses h t p j =
      let c = j.follows.crossing in
      let f = j.follows in
      let same = some_same c.following f.is_tail.slice (sym c.there ∙ f.is_tail.known) in
      record {
        slice = c.slice;
        here = c.here;
        head = h.flights;
        head_flights = c.flights;
        middle = f.middle;
        is_head = c.is_head;
        arrives = c.arrives;
        tail = t.flights;
        tail_flights = f.flights;
        is_tail = subst (IsTail b sl (suc at.slice) t.flights f.flights) (sym j.after) f.is_tail;
        begins = begins t.flights f.flights f.is_tail.path.some f.is_tail.path.flies (sym (ap (λ x. x.from) same) ∙ c.origin);
        in_range = f.in_range;
        few = omega (arith, f.few, ap length j.numbers, length-append h.flights t.flights);
        apart = f.apart;
        numbers = j.numbers;
        flights = refl;
      }
    where
      begins : (ns : List ℕ) (gs : List Flight) → ns ≢ [] → Flies b sl (Some (position_before b (suc at.slice) j.follows.is_tail.slice None)) ns gs t.after → j.follows.is_tail.slice.from ≡ j.follows.crossing.slice.to → OnFirst (λ g. g.from ≡ j.follows.crossing.slice.to) gs
      begins [] gs some h e = absurd (some refl)
      begins (n ∷ ns) [] some h e = absurd h
      begins (n ∷ ns) (g ∷ gs) some (x, k, u, o, l, r) e = u.departs ∙ e

  -- and the other way round
  pub crosses_joined : (p : Path) (fs : List Flight) (c : Crosses b sl at p.flights fs p.after) → IsJoined b sl at (record { flights = c.head; after = Some c.middle }) (record { flights = c.tail; after = p.after }) p
  crosses_joined p fs c = record {
    follows = record {
      middle = c.middle;
      crossing = record { slice = c.slice; here = c.here; flights = c.head_flights; is_head = c.is_head; after = refl; arrives = c.arrives; following = c.is_tail.slice; there = c.is_tail.known; origin = starts c.tail c.tail_flights c.is_tail.path.flies c.begins };
      flights = c.tail_flights;
      is_tail = c.is_tail;
      in_range = c.in_range;
      few = omega (arith, c.few, ap length c.numbers, length-append c.head c.tail);
      apart = c.apart;
    };
    numbers = c.numbers;
    after = refl;
  }
    where
      starts : (ns : List ℕ) (gs : List Flight) → Flies b sl (Some (position_before b (suc at.slice) c.is_tail.slice None)) ns gs p.after → OnFirst (λ g. g.from ≡ c.slice.to) gs → c.is_tail.slice.from ≡ c.slice.to
      starts ns [] h o = absurd o
      starts [] (g ∷ gs) h o = absurd h
      starts (n ∷ ns) (g ∷ gs) (x, k, u, m, l, r) o = sym u.departs ∙ o
