-- When a tail may follow a head. That can be told without a call, so that the visitor may be asked first whether it skips the path. Given on to the crates above.
use Rattle.std.proofs.Common.{◌≡◌, ◌≢◌, ◌⊎◌, ◌↔◌, ℕ, zero, suc, ◌+◌, ◌≤◌, ◌<◌, Bool, true, false, Decides, List, [], ◌∷◌, length, Some, refl, sym, subst, ◌∙◌, inl, inr, arith}
use Rattle.fare_law.specs.declared.flights.Flight.{Flight}
use Rattle.fare_law.specs.declared.names.Place.{Place}
use Rattle.fare_law.specs.declared.requests.Slice.{Slice}
use Rattle.fare_law.specs.Book.{Book}
use Rattle.fare_law.specs.Journey.{calls}
use Rattle.fare_law.specs.Lists.{Each, OnFirst}
use Rattle.fare_law.proofs.SameNames.{places_tell}
use Rattle.fare_law.specs.contracts.names.PlacePartialEq.TheImpl as place
use Rattle.fare_law.specs.declared.limits.TheConstants.{MOST_FLIGHTS_OF_A_COMPONENT}
use Rattle.flight_paths.specs.declared.positions.Path.{Path}
use Rattle.flight_paths.specs.declared.positions.Position.{Position}
use Rattle.flight_paths.specs.Heads.{Crossing, Enters, Follows, IsTail}
use Rattle.flight_paths.specs.Ways.{arrivals_of}
use Rattle.flight_paths.proofs.Apart.{flights_one, turned as from_heads, turned_back as from_tails}
use Rattle.flight_paths.proofs.Joining.{head_flights, tail_flights}

-- it holds, or it doesn't
abbrev Told : Type 0 → Type 0
Told A = A ⊎ (A → ⊥)

tested : (A : Type 0) (t : Bool) → Decides t A → Told A
tested A true d = inl (d.0 refl)
tested A false d = inr (λ a. clash (d.1 a))
  where
    clash : false ≡ true → ⊥
    clash e = cc

both : (A B : Type 0) → Told A → Told B → Told (A × B)
both A B (inl a) (inl b) = inl (a, b)
both A B (inl a) (inr n) = inr (λ h. n h.1)
both A B (inr n) x = inr (λ h. n h.0)

turned : (A : Type 0) → Told A → Told (A → ⊥)
turned A (inl a) = inr (λ n. n a)
turned A (inr n) = inl n

at_most : (m n : ℕ) → Told (m ≤ n)
at_most zero n = inl (omega arith)
at_most (suc m) zero = inr (λ h. absurd (omega (arith, h)))
at_most (suc m) (suc n) = elim (at_most m n) [ inl h ↦ inl (omega (arith, h)) | inr k ↦ inr (λ h. k (omega (arith, h))) ]

below : (m n : ℕ) → Told (m < n)
below m n = elim (at_most (suc m) n) [ inl h ↦ inl (omega (arith, h)) | inr k ↦ inr (λ h. k (omega (arith, h))) ]

on_first : (P : ℕ → Type 0) (ns : List ℕ) → ((n : ℕ) → Told (P n)) → Told (OnFirst P ns)
on_first P [] f = inr (λ h. h)
on_first P (n ∷ ns) f = f n

each : (P : Place → Type 0) (ps : List Place) → ((p : Place) → Told (P p)) → Told (Each P ps)
each P [] f = inl tt
each P (p ∷ ps) f = both (P p) (Each P ps) (f p) (each P ps f)

pub some_same : (x y : Position) → Some x ≡ Some y → x ≡ y
some_same x y e = cc

module _ (b : Book) (sl : List Slice) (at : Position) (h t : Path) where
  apart : (fs gs : List Flight) → Told (Each (λ p. Each (λ q. p ≢ q) (arrivals_of gs)) (calls at.place fs))
  apart fs gs = each (λ p. Each (λ q. p ≢ q) (arrivals_of gs)) (calls at.place fs) (λ p. each (λ q. p ≢ q) (arrivals_of gs) (λ q. turned (p ≡ q) (tested (p ≡ q) (place.ghosts.eq p q) (places_tell p q))))

  pub follows_or : (m : Position) → Crossing b sl at h m → (fs : List Flight) → IsTail b sl (suc at.slice) t.flights fs t.after → Follows b sl at h t ⊎ (Follows b sl at h t → ⊥)
  follows_or m c fs tail = elim (both Range (Few × Apart) range (both Few Apart few (apart c.flights fs))) [
    | inl x ↦ inl (record { middle = m; crossing = c; flights = fs; is_tail = tail; in_range = x.0; few = x.1.0; apart = x.1.1 })
    | inr n ↦ inr (λ f. n (range_of f, (f.few, apart_of f)))
  ]
    where
      Range : Type 0
      Range = OnFirst (λ n. (m.lo ≤ n) × (n < m.hi)) t.flights

      Few : Type 0
      Few = length h.flights + length t.flights ≤ MOST_FLIGHTS_OF_A_COMPONENT

      Apart : Type 0
      Apart = Each (λ p. Each (λ q. p ≢ q) (arrivals_of fs)) (calls at.place c.flights)

      range : Told Range
      range = on_first (λ n. (m.lo ≤ n) × (n < m.hi)) t.flights (λ n. both (m.lo ≤ n) (n < m.hi) (at_most m.lo n) (below n m.hi))

      few : Told Few
      few = at_most (length h.flights + length t.flights) MOST_FLIGHTS_OF_A_COMPONENT

      range_of : Follows b sl at h t → Range
      range_of f = subst (λ (x : Position). OnFirst (λ n. (x.lo ≤ n) × (n < x.hi)) t.flights) (some_same f.middle m (sym f.crossing.after ∙ c.after)) f.in_range

      apart_of : Follows b sl at h t → Apart
      apart_of f =
          let same = flights_one b.timetable.flights t.flights f.flights fs (tail_flights b sl at _ t.flights f.flights t.after f.is_tail) (tail_flights b sl at _ t.flights fs t.after tail) in
          let heads = flights_one b.timetable.flights h.flights f.crossing.flights c.flights (head_flights b sl at h.flights f.crossing.flights (Some f.middle) f.crossing.is_head) (head_flights b sl at h.flights c.flights (Some m) c.is_head) in
          subst (λ xs. Each (λ p. Each (λ q. p ≢ q) (arrivals_of fs)) (calls at.place xs)) heads (subst (λ xs. Each (λ p. Each (λ q. p ≢ q) (arrivals_of xs)) (calls at.place f.crossing.flights)) same f.apart)

  -- a tail that enters follows where it is apart from the head's places
  pub follows_where : (m : Position) → (c : Crossing b sl at h m) → (fs : List Flight) → IsTail b sl (suc at.slice) t.flights fs t.after → Enters m h t → (places : List Place) → places ≡ arrivals_of c.flights
      → Each (λ q. Each (λ p. q ≢ p) (at.place ∷ places)) (arrivals_of fs) ↔ Follows b sl at h t
  follows_where m c fs tail n places is = (
    λ e. record {
      middle = m;
      crossing = c;
      flights = fs;
      is_tail = tail;
      in_range = n.in_range;
      few = n.few;
      apart = from_heads (calls at.place c.flights) (arrivals_of fs) (subst (λ ps. Each (λ q. Each (λ p. q ≢ p) (at.place ∷ ps)) (arrivals_of fs)) is e);
    },
    λ f.
        let same = flights_one b.timetable.flights t.flights f.flights fs (tail_flights b sl at _ t.flights f.flights t.after f.is_tail) (tail_flights b sl at _ t.flights fs t.after tail) in
        let heads = flights_one b.timetable.flights h.flights f.crossing.flights c.flights (head_flights b sl at h.flights f.crossing.flights (Some f.middle) f.crossing.is_head) (head_flights b sl at h.flights c.flights (Some m) c.is_head) in
        let far = subst (λ xs. Each (λ p. Each (λ q. p ≢ q) (arrivals_of fs)) (calls at.place xs)) heads (subst (λ xs. Each (λ p. Each (λ q. p ≢ q) (arrivals_of xs)) (calls at.place f.crossing.flights)) same f.apart) in
        subst (λ ps. Each (λ q. Each (λ p. q ≢ p) (at.place ∷ ps)) (arrivals_of fs)) (sym is) (from_tails (calls at.place c.flights) (arrivals_of fs) far),
  )
