-- Where flights first arrive at their slice's destination, they are cut.
use Rattle.std.proofs.Common.{◌≡◌, ◌≢◌, ◌⊎◌, ℕ, suc, ℤ, ◌≤◌, ◌<◌, List, [], ◌∷◌, ◌++◌, slice_get, Option, Some, None, refl, sym, ap, subst, ◌∙◌, inl, inr}
use Rattle.fare_law.specs.declared.flights.Flight.{Flight}
use Rattle.fare_law.specs.declared.requests.Slice.{Slice}
use Rattle.fare_law.specs.Book.{Book}
use Rattle.fare_law.specs.Journey.{InWindow, calls}
use Rattle.fare_law.specs.Lists.{AllDifferent, OnFirst, OnLast}
use Rattle.flight_paths.specs.declared.positions.Position.{Position}
use Rattle.flight_paths.specs.Heads.{Stays}
use Rattle.flight_paths.specs.Positions.{Flies, IsPath, LeadsTo, Takes, before_slice, position_before, position_inside, via_after}
use Rattle.flight_paths.specs.Ways.{Leads}
use Rattle.flight_paths.proofs.Between.{before_range}
use Rattle.law_lemmas.proofs.Options.{some_same}

pub some_flights : (b : Book) (sl : List Slice) (start : Option Position) (ns : List ℕ) (fs : List Flight) (next : Option Position) → ns ≢ [] → Flies b sl start ns fs next → fs ≢ []
some_flights b sl start [] fs next some h = absurd (some refl)
some_flights b sl start (n ∷ ns) [] next some h = absurd h
some_flights b sl start (n ∷ ns) (f ∷ fs) next some h = λ e. cc

module _ (b : Book) (sl : List Slice) where
  -- a path by the place of its position
  pub lead_of : (at : Position) (ns : List ℕ) (fs : List Flight) (next : Option Position) → IsPath b sl at ns fs next → Leads b sl at ns fs next
  lead_of at ns fs next h = record { few = h.shape.few; flies = h.flies; joined = h.shape.joined; apart = first ns fs h.flies h.shape.apart; called = h.called }
    where
      first : (ms : List ℕ) (gs : List Flight) → Flies b sl (Some at) ms gs next → OnFirst (λ f. AllDifferent (calls f.from gs)) gs → AllDifferent (calls at.place gs)
      first ms [] k a = absurd a
      first [] (g ∷ gs) k a = absurd k
      first (m ∷ ms) (g ∷ gs) (x, k, t, o, l, r) a = subst (λ q. AllDifferent (calls q (g ∷ gs))) t.departs a

  pub path_of_lead : (at : Position) (ns : List ℕ) (fs : List Flight) (next : Option Position) → ns ≢ [] → Leads b sl at ns fs next → IsPath b sl at ns fs next
  path_of_lead at ns fs next some h = record { some = some; flies = h.flies; shape = record { few = h.few; joined = h.joined; apart = first ns fs h.flies h.apart some }; called = h.called }
    where
      first : (ms : List ℕ) (gs : List Flight) → Flies b sl (Some at) ms gs next → AllDifferent (calls at.place gs) → ms ≢ [] → OnFirst (λ f. AllDifferent (calls f.from gs)) gs
      first [] [] k a s = absurd (s refl)
      first [] (g ∷ gs) k a s = absurd k
      first (m ∷ ms) [] k a s = absurd k
      first (m ∷ ms) (g ∷ gs) (x, k, t, o, l, r) a s = subst (λ q. AllDifferent (calls q (g ∷ gs))) (sym t.departs) a

  pub flies_both : (start : Option Position) (hs ts : List ℕ) (hf tf : List Flight) (mid next : Option Position) → Flies b sl start hs hf mid → Flies b sl mid ts tf next → Flies b sl start (hs ++ ts) (hf ++ tf) next
  flies_both start [] ts [] tf mid next e h = subst (λ o. Flies b sl o ts tf next) e h
  flies_both start [] ts (f ∷ hf) tf mid next e h = absurd e
  flies_both start (n ∷ hs) ts [] tf mid next e h = absurd e
  flies_both None (n ∷ hs) ts (f ∷ hf) tf mid next e h = absurd e
  flies_both (Some at) (n ∷ hs) ts (f ∷ hf) tf mid next (s, k, t, o, l, r) h = (s, k, t, o, l, flies_both o hs ts hf tf mid next r h)

  -- the first slice of flights is known
  pub first_slice : (at : Position) (ns : List ℕ) (fs : List Flight) (next : Option Position) → ns ≢ [] → Flies b sl (Some at) ns fs next → (s : Slice) × (slice_get sl at.slice ≡ Some s)
  first_slice at [] fs next some h = absurd (some refl)
  first_slice at (n ∷ ns) [] next some h = absurd h
  first_slice at (n ∷ ns) (f ∷ fs) next some (s, k, t, o, l, r) = (s, k)

  -- where flights first arrive at the destination
  pub record Cut (at : Position) (s : Slice) (ns : List ℕ) (fs : List Flight) (next : Option Position) : Type 0 where
    pub head : List ℕ
    pub head_flights : List Flight
    pub stays : Stays s head_flights
    pub arrives : OnLast (λ f. f.to ≡ s.to) head_flights
    pub following : Slice
    pub there : slice_get sl (suc at.slice) ≡ Some following
    pub arrival : ℤ
    pub before : Flies b sl (Some at) head head_flights (Some (position_before b (suc at.slice) following (Some arrival)))
    pub tail : List ℕ
    pub tail_flights : List Flight
    pub after : Flies b sl (Some (position_before b (suc at.slice) following (Some arrival))) tail tail_flights next
    pub some_head : head ≢ []
    pub some_tail : tail ≢ []
    pub numbers : ns ≡ head ++ tail
    pub flights : fs ≡ head_flights ++ tail_flights

  pub cut : (at : Position) (s : Slice) (ns : List ℕ) (fs : List Flight) (next : Option Position) → slice_get sl at.slice ≡ Some s → Flies b sl (Some at) ns fs next → Stays s fs ⊎ Cut at s ns fs next
  cut at s [] [] next k h = inl tt
  cut at s [] (f ∷ fs) next k h = absurd h
  cut at s (n ∷ ns) [] next k h = absurd h
  cut at s (n ∷ ns) (f ∷ []) next k h = inl tt
  cut at s (n ∷ []) (f ∷ g ∷ fs) next k (s', k', t, o, l, r) = absurd r
  cut at s (n ∷ m ∷ ns) (f ∷ g ∷ fs) next k (s', k', t, o, l, r) = by l (λ p e h. cut p s (m ∷ ns) (g ∷ fs) next e h)
    where
      same : s' ≡ s
      same = some_same s' s (sym k' ∙ k)

      cross : f.to ≡ s.to → (x : Option Slice) → slice_get sl (suc at.slice) ≡ x → o ≡ before_slice b (suc at.slice) x (Some f.arr) → Stays s (f ∷ g ∷ fs) ⊎ Cut at s (n ∷ m ∷ ns) (f ∷ g ∷ fs) next
      cross e None z q = absurd (subst (λ y. Flies b sl y (m ∷ ns) (g ∷ fs) next) q r)
      cross e (Some x) z q = inr (record {
        head = n ∷ [];
        head_flights = f ∷ [];
        stays = tt;
        arrives = e;
        following = x;
        there = z;
        arrival = f.arr;
        before = (s', k', t, o, l, sym q);
        tail = m ∷ ns;
        tail_flights = g ∷ fs;
        after = subst (λ y. Flies b sl y (m ∷ ns) (g ∷ fs) next) q r;
        some_head = λ w. cc;
        some_tail = λ w. cc;
        numbers = refl;
        flights = refl;
      })

      onward : f.to ≢ s.to → Stays s (g ∷ fs) ⊎ Cut (position_inside b at.slice (suc at.leg) f.to (via_after at) f.arr) s (m ∷ ns) (g ∷ fs) next → o ≡ Some (position_inside b at.slice (suc at.leg) f.to (via_after at) f.arr) → Stays s (f ∷ g ∷ fs) ⊎ Cut at s (n ∷ m ∷ ns) (f ∷ g ∷ fs) next
      onward ne (inl h) q = inl (ne, h)
      onward ne (inr c) q = inr (record {
        head = n ∷ c.head;
        head_flights = f ∷ c.head_flights;
        stays = stays_more c.head_flights c.stays c.arrives;
        arrives = arrives_more c.head_flights c.arrives;
        following = c.following;
        there = c.there;
        arrival = c.arrival;
        before = (s', k', t, o, l, subst (λ y. Flies b sl y c.head c.head_flights (Some (position_before b (suc at.slice) c.following (Some c.arrival)))) (sym q) c.before);
        tail = c.tail;
        tail_flights = c.tail_flights;
        after = c.after;
        some_head = λ w. cc;
        some_tail = c.some_tail;
        numbers = ap (λ xs. n ∷ xs) c.numbers;
        flights = ap (λ xs. f ∷ xs) c.flights;
      })
        where
          stays_more : (xs : List Flight) → Stays s xs → OnLast (λ x. x.to ≡ s.to) xs → Stays s (f ∷ xs)
          stays_more [] h a = absurd a
          stays_more (x ∷ xs) h a = (ne, h)

          arrives_more : (xs : List Flight) → OnLast (λ x. x.to ≡ s.to) xs → OnLast (λ x. x.to ≡ s.to) (f ∷ xs)
          arrives_more [] a = absurd a
          arrives_more (x ∷ xs) a = a

      by : LeadsTo b sl s' at f o
          → ((p : Position) → slice_get sl p.slice ≡ Some s → Flies b sl (Some p) (m ∷ ns) (g ∷ fs) next → Stays s (g ∷ fs) ⊎ Cut p s (m ∷ ns) (g ∷ fs) next)
          → Stays s (f ∷ g ∷ fs) ⊎ Cut at s (n ∷ m ∷ ns) (f ∷ g ∷ fs) next
      by (inl h) more = cross (h.0 ∙ ap (λ x. x.to) same) (slice_get sl (suc at.slice)) refl h.1
      by (inr h) more =
          let p = position_inside b at.slice (suc at.leg) f.to (via_after at) f.arr in
          onward (λ e. h.0 (e ∙ ap (λ x. x.to) (sym same))) (more p k (subst (λ y. Flies b sl y (m ∷ ns) (g ∷ fs) next) h.2 r)) h.2

  -- what may be taken after an arrival may be taken after none, and the other way round in the range
  module _ (i : ℕ) (t : Slice) (known : slice_get sl i ≡ Some t) where
    pub set_free : (arrival : ℤ) (ns : List ℕ) (fs : List Flight) (next : Option Position) → ns ≢ [] → Flies b sl (Some (position_before b i t (Some arrival))) ns fs next
        → Flies b sl (Some (position_before b i t None)) ns fs next × OnFirst (λ n. ((position_before b i t (Some arrival)).lo ≤ n) × (n < (position_before b i t (Some arrival)).hi)) ns
    set_free arrival [] fs next some h = absurd (some refl)
    set_free arrival (n ∷ ns) [] next some h = absurd h
    set_free arrival (n ∷ ns) (f ∷ fs) next some (s, k, u, o, l, r) =
        let e : s ≡ t = some_same s t (sym k ∙ known) in
        let range = before_range b t None n f u.known u.departs (subst (λ x. InWindow x f) e (u.window refl)) tt in
        let takes : Takes b s (position_before b i t None) n f = record { few = u.few; known = u.known; departs = u.departs; low = range.0; high = range.1; window = u.window; not_origin = u.not_origin; not_here = u.not_here; not_via = u.not_via } in
        ((s, k, takes, o, l, r), (u.low, u.high))

    pub bind : (arrival : ℤ) (ns : List ℕ) (fs : List Flight) (next : Option Position) → Flies b sl (Some (position_before b i t None)) ns fs next
        → OnFirst (λ n. ((position_before b i t (Some arrival)).lo ≤ n) × (n < (position_before b i t (Some arrival)).hi)) ns → Flies b sl (Some (position_before b i t (Some arrival))) ns fs next
    bind arrival [] fs next h range = absurd range
    bind arrival (n ∷ ns) [] next h range = absurd h
    bind arrival (n ∷ ns) (f ∷ fs) next (s, k, u, o, l, r) range =
        let takes : Takes b s (position_before b i t (Some arrival)) n f = record { few = u.few; known = u.known; departs = u.departs; low = range.0; high = range.1; window = u.window; not_origin = u.not_origin; not_here = u.not_here; not_via = u.not_via } in
        (s, k, takes, o, l, r)

-- a last element has what holds of it
pub last_of : {X : Type 0} (P : X → Type 0) (xs : List X) → OnLast P xs → (x : X) × P x
last_of P [] h = absurd h
last_of P (x ∷ []) h = (x, h)
last_of P (x ∷ y ∷ xs) h = last_of P (y ∷ xs) h

-- where a head that arrives at the destination leads
module _ (b : Book) (sl : List Slice) (s t : Slice) where
  pub crossed : (at : Position) (ns : List ℕ) (fs : List Flight) (middle : Position) → slice_get sl at.slice ≡ Some s → slice_get sl (suc at.slice) ≡ Some t
      → Flies b sl (Some at) ns fs (Some middle) → Stays s fs → OnLast (λ f. f.to ≡ s.to) fs → OnLast (λ f. middle ≡ position_before b (suc at.slice) t (Some f.arr)) fs
  crossed at ns [] middle k z h st a = absurd a
  crossed at [] (f ∷ fs) middle k z h st a = absurd h
  crossed at (n ∷ ns) (f ∷ []) middle k z (s', k', u, o, l, r) st a = by ns r l
    where
      same : s' ≡ s
      same = some_same s' s (sym k' ∙ k)

      by : (ms : List ℕ) → Flies b sl o ms [] (Some middle) → LeadsTo b sl s' at f o → middle ≡ position_before b (suc at.slice) t (Some f.arr)
      by [] e (inl h) = some_same middle (position_before b (suc at.slice) t (Some f.arr)) (e ∙ h.1 ∙ ap (λ x. before_slice b (suc at.slice) x (Some f.arr)) z)
      by [] e (inr h) = absurd (h.0 (a ∙ ap (λ x. x.to) (sym same)))
      by (m ∷ ms) e l = absurd e
  crossed at (n ∷ ns) (f ∷ g ∷ fs) middle k z (s', k', u, o, l, r) st a = by l (λ p e w h. crossed p ns (g ∷ fs) middle e w h st.1 a)
    where
      same : s' ≡ s
      same = some_same s' s (sym k' ∙ k)

      by : LeadsTo b sl s' at f o
          → ((p : Position) → slice_get sl p.slice ≡ Some s → slice_get sl (suc p.slice) ≡ Some t → Flies b sl (Some p) ns (g ∷ fs) (Some middle) → OnLast (λ x. middle ≡ position_before b (suc p.slice) t (Some x.arr)) (g ∷ fs))
          → OnLast (λ x. middle ≡ position_before b (suc at.slice) t (Some x.arr)) (g ∷ fs)
      by (inl h) more = absurd (st.0 (h.0 ∙ ap (λ x. x.to) same))
      by (inr h) more = more (position_inside b at.slice (suc at.leg) f.to (via_after at) f.arr) k z (subst (λ y. Flies b sl y ns (g ∷ fs) (Some middle)) h.2 r)
