-- A path is a head, or a head and a tail.
use Rattle.std.proofs.Common.{◌≡◌, ◌≢◌, ◌⊎◌, ℕ, suc, ℤ, ◌+◌, ◌≤◌, ◌<◌, List, [], ◌∷◌, ◌++◌, length, slice_get, Option, Some, None, refl, sym, subst, ◌∙◌, inl, inr, arith, length-append}
use Rattle.fare_law.specs.declared.flights.Flight.{Flight}
use Rattle.fare_law.specs.declared.requests.Slice.{Slice}
use Rattle.fare_law.specs.Book.{Book}
use Rattle.fare_law.specs.Journey.{Joins, calls}
use Rattle.fare_law.specs.Lists.{AllDifferent, Each, EachPair, IsIn, OnFirst, OnLast}
use Rattle.fare_law.specs.declared.limits.TheConstants.{MOST_FLIGHTS_OF_A_COMPONENT}
use Rattle.flight_paths.specs.declared.positions.Position.{Position}
use Rattle.flight_paths.specs.Heads.{Crosses, HeadsAndTails, IsHead, Stays}
use Rattle.flight_paths.specs.Positions.{Flies, IsPath, KeepsOff, called_at, position_before}
use Rattle.flight_paths.specs.Ways.{Leads, arrivals_of}
use Rattle.flight_paths.proofs.Growth.{flies_numbers}
use Rattle.flight_paths.proofs.Parting.{all_left, all_on, calls_both, different_apart, different_both, different_left, different_right, joins_both, joins_left, joins_right, joins_there, keeps, last_in}
use Rattle.flight_paths.proofs.Cutting.{Cut, bind, crossed, cut, first_slice, flies_both, last_of, lead_of, path_of_lead, set_free, some_flights}
use Rattle.law_lemmas.proofs.EachOne.{each_in}
use Rattle.law_lemmas.proofs.Options.{some_same}
use Rattle.law_lemmas.proofs.Pairs.{matched_length}

module _ (b : Book) (sl : List Slice) (at : Position) (ns : List ℕ) (fs : List Flight) (next : Option Position) where
  -- a path is cut
  path_cut : IsPath b sl at ns fs next → IsHead b sl at ns fs next ⊎ Crosses b sl at ns fs next
  path_cut h =
      let f = first_slice b sl at ns fs next h.some h.flies in
      by f.0 f.1 (cut b sl at f.0 ns fs next f.1 h.flies)
    where
      head : (s : Slice) → slice_get sl at.slice ≡ Some s → Stays s fs → IsHead b sl at ns fs next
      head s k h' = record { path = h; stays = λ t e. subst (λ x. Stays x fs) (some_same s t (sym k ∙ e)) h' }

      two : (s : Slice) → slice_get sl at.slice ≡ Some s → Cut b sl at s ns fs next → Crosses b sl at ns fs next
      two s k c =
          let t = c.following in
          let i = suc at.slice in
          let lead = lead_of b sl at ns fs next h in
          let joined = subst (EachPair Joins) c.flights lead.joined in
          let different = subst AllDifferent (calls_both at.place c.head_flights c.tail_flights) (subst (λ xs. AllDifferent (calls at.place xs)) c.flights lead.apart) in
          let apart = different_apart (calls at.place c.head_flights) (arrivals_of c.tail_flights) different in
          let few = subst (λ xs. length xs ≤ MOST_FLIGHTS_OF_A_COMPONENT) c.flights lead.few in
          let free = set_free b sl i t c.there c.arrival c.tail c.tail_flights next c.some_tail c.after in
          let begins = joins_there s.to c.head_flights c.tail_flights (some_flights b sl (Some (position_before b i t (Some c.arrival))) c.tail c.tail_flights next c.some_tail c.after) c.arrives joined in
          let origin : t.from ≡ s.to = starts t c.arrival c.tail c.tail_flights c.after begins in
          let off : Each (λ q. t.from ≢ q) (arrivals_of c.tail_flights) = each_in (λ p. Each (λ q. p ≢ q) (arrivals_of c.tail_flights)) (calls at.place c.head_flights) t.from apart (inr (subst (λ p. IsIn p (arrivals_of c.head_flights)) (sym origin) (last_in s.to c.head_flights c.arrives))) in
          let front : Leads b sl at c.head c.head_flights (Some (position_before b i t (Some c.arrival))) = record {
            few = omega (arith, few, length-append c.head_flights c.tail_flights);
            flies = c.before;
            joined = joins_left c.head_flights c.tail_flights joined;
            apart = different_left (calls at.place c.head_flights) (arrivals_of c.tail_flights) different;
            called = λ x e. all_left x (called_at x at) c.head_flights c.tail_flights (subst (λ xs. Each (KeepsOff x xs) (called_at x at)) c.flights (lead.called x e));
          } in
          let back : Leads b sl (position_before b i t None) c.tail c.tail_flights next = record {
            few = omega (arith, few, length-append c.head_flights c.tail_flights);
            flies = free.0;
            joined = joins_right c.head_flights c.tail_flights joined;
            apart = (off, different_right (calls at.place c.head_flights) (arrivals_of c.tail_flights) different);
            called = λ x e. let same : t ≡ x = some_same t x (sym c.there ∙ e) in
                (keeps x x.from c.tail_flights (subst (λ y. Each (λ q. y.from ≢ q) (arrivals_of c.tail_flights)) same off), (keeps x t.from c.tail_flights off, tt));
          } in
          record {
            slice = s;
            here = k;
            head = c.head;
            head_flights = c.head_flights;
            middle = position_before b i t (Some c.arrival);
            is_head = record { path = path_of_lead b sl at c.head c.head_flights (Some (position_before b i t (Some c.arrival))) c.some_head front; stays = λ x e. subst (λ y. Stays y c.head_flights) (some_same s x (sym k ∙ e)) c.stays };
            arrives = c.arrives;
            tail = c.tail;
            tail_flights = c.tail_flights;
            is_tail = record { slice = t; known = c.there; path = path_of_lead b sl (position_before b i t None) c.tail c.tail_flights next c.some_tail back; few = short (length c.head_flights) (length c.tail_flights) (one_at_least c.head_flights c.arrives) (omega (arith, few, length-append c.head_flights c.tail_flights)) };
            begins = begins;
            in_range = free.1;
            few = omega (arith, lead.few, matched_length _ ns fs (flies_numbers b sl (Some at) ns fs next h.flies));
            apart = apart;
            numbers = c.numbers;
            flights = c.flights;
          }
        where
          starts : (t : Slice) (arrival : ℤ) (ts : List ℕ) (gs : List Flight) → Flies b sl (Some (position_before b (suc at.slice) t (Some arrival))) ts gs next → OnFirst (λ g. g.from ≡ s.to) gs → t.from ≡ s.to
          starts t arrival ts [] h o = absurd o
          starts t arrival [] (g ∷ gs) h o = absurd h
          starts t arrival (n ∷ ts) (g ∷ gs) (x, k, u, m, l, r) o = sym u.departs ∙ o

          one_at_least : (xs : List Flight) → OnLast (λ f. f.to ≡ s.to) xs → 1 ≤ length xs
          one_at_least [] a = absurd a
          one_at_least (x ∷ xs) a = omega arith

          short : (x y : ℕ) → 1 ≤ x → x + y ≤ MOST_FLIGHTS_OF_A_COMPONENT → y ≤ 3
          short x y p q = omega (arith, p, q)

      by : (s : Slice) → slice_get sl at.slice ≡ Some s → Stays s fs ⊎ Cut b sl at s ns fs next → IsHead b sl at ns fs next ⊎ Crosses b sl at ns fs next
      by s k (inl x) = inl (head s k x)
      by s k (inr x) = inr (two s k x)

  -- and a head and a tail are a path
  joined_path : Crosses b sl at ns fs next → IsPath b sl at ns fs next
  joined_path c =
      let s = c.slice in
      let i = suc at.slice in
      let t = c.is_tail.slice in
      let front = lead_of b sl at c.head c.head_flights (Some c.middle) c.is_head.path in
      let back = lead_of b sl (position_before b i t None) c.tail c.tail_flights next c.is_tail.path in
      let ends = last_of _ c.head_flights (crossed b sl s t at c.head c.head_flights c.middle c.here c.is_tail.known front.flies (c.is_head.stays s c.here) c.arrives) in
      let arrival = ends.0.arr in
      let middle = position_before b i t (Some arrival) in
      let before = subst (λ p. Flies b sl (Some at) c.head c.head_flights (Some p)) ends.1 front.flies in
      let range = subst (λ p. OnFirst (λ n. (p.lo ≤ n) × (n < p.hi)) c.tail) ends.1 c.in_range in
      let after = bind b sl i t c.is_tail.known arrival c.tail c.tail_flights next back.flies range in
      let both = flies_both b sl (Some at) c.head c.tail c.head_flights c.tail_flights (Some middle) next before after in
      let flies = subst (λ xs. Flies b sl (Some at) xs (c.head_flights ++ c.tail_flights) next) (sym c.numbers) both in
      let lead : Leads b sl at ns (c.head_flights ++ c.tail_flights) next = record {
        few = omega (arith, c.few, matched_length _ ns (c.head_flights ++ c.tail_flights) (flies_numbers b sl (Some at) ns (c.head_flights ++ c.tail_flights) next flies));
        flies = flies;
        joined = joins_both s.to c.head_flights c.tail_flights c.arrives c.begins front.joined back.joined;
        apart = subst AllDifferent (sym (calls_both at.place c.head_flights c.tail_flights)) (different_both (calls at.place c.head_flights) (arrivals_of c.tail_flights) front.apart back.apart.1 c.apart);
        called = λ x e. let same : s ≡ x = some_same s x (sym c.here ∙ e) in
            all_on x (called_at x at) c.head_flights c.tail_flights (subst (λ y. OnLast (λ f. f.to ≡ y.to) c.head_flights) same c.arrives) (front.called x e);
      } in
      path_of_lead b sl at ns fs next (λ e. some c.head c.is_head.path.some (sym c.numbers ∙ e)) (subst (λ xs. Leads b sl at ns xs next) (sym c.flights) lead)
    where
      some : (xs : List ℕ) → xs ≢ [] → xs ++ c.tail ≡ [] → ⊥
      some [] h e = h refl
      some (x ∷ xs) h e = cc

pub heads_and_tails : HeadsAndTails
heads_and_tails b sl at ns fs next = (
  λ h. path_cut b sl at ns fs next h,
  λ h. elim h [ inl x ↦ x.path | inr x ↦ joined_path b sl at ns fs next x ],
)
