-- The keys of a residual, by the flight with which their paths begin.
use Rattle.std.proofs.Common.{◌≡◌, ◌⊎◌, ℕ, ◌+◌, ◌<◌, List, [], ◌∷◌, length, take, get_or, slice_get, Option, Some, ap, refl, sym, subst, ◌∙◌, inl, inr, arith}
use Rattle.asked_keys.specs.Asking.{begun_by}
use Rattle.fare_law.specs.declared.flights.Flight.{Flight}
use Rattle.fare_law.specs.declared.market.OfferKey.{OfferKey}
use Rattle.fare_law.specs.declared.requests.Request.{Request}
use Rattle.fare_law.specs.Book.{Book}
use Rattle.fare_law.specs.Lists.{IsIn, OnFirst}
use Rattle.flight_paths.specs.declared.positions.Position.{Position}
use Rattle.flight_paths.specs.Positions.{Flies}
use Rattle.residual_keys.specs.AskedKeys.{KeyOf}
use Rattle.residual_keys.specs.Residuals.{State}
use Rattle.schedule_book.specs.Departures.{AreDepartures}
use Rattle.law_lemmas.proofs.Lists.{front_read}
use Rattle.law_lemmas.proofs.Members.{in_either, in_one}

module _ (b : Book) (q : Request) (r : State) where
  flies_by : (n : ℕ) (ns : List ℕ) (fs : List Flight) (next : Option Position) → OnFirst (λ m. m ≡ n) ns → Flies b q.slices (Some r.at) ns fs next → Flies b q.slices (Some (begun_by r n).at) ns fs next
  flies_by n [] fs next first h = absurd first
  flies_by n (m ∷ ns) [] next first h = absurd h
  flies_by n (m ∷ ns) (f ∷ fs) next first (s, known, takes, after, leads, rest) = (
    s,
    known,
    record {
      few = takes.few;
      known = takes.known;
      departs = takes.departs;
      low = omega (arith, first);
      high = omega (arith, first);
      window = takes.window;
      not_origin = takes.not_origin;
      not_here = takes.not_here;
      not_via = takes.not_via;
    },
    after,
    leads,
    rest,
  )

  -- a key of a path that begins with a flight is one of the residual from where that flight alone leads on
  pub key_by : (n : ℕ) (key : OfferKey) (k : KeyOf b q r key) → OnFirst (λ m. m ≡ n) k.numbers → KeyOf b q (begun_by r n) key
  key_by n key k first = record {
    numbers = k.numbers;
    flights = k.flights;
    next = k.next;
    path = record { some = k.path.some; flies = flies_by n k.numbers k.flights k.next first k.path.flies; shape = k.path.shape; called = k.path.called };
    of = k.of;
  }

  -- each key is of a path that begins with a flight from the residual's place
  pub begins_there : (flights : List Flight) (numbers : List ℕ) → b.timetable.flights ≡ flights → AreDepartures flights r.at.place r.at.lo r.at.hi numbers → (key : OfferKey) (k : KeyOf b q r key) → OnFirst (λ m. IsIn m numbers) k.numbers
  begins_there flights numbers plan departures key k = first k.numbers k.flights k.next k.path.some k.path.flies
    where
      first : (ns : List ℕ) (fs : List Flight) (next : Option Position) → (ns ≡ [] → ⊥) → Flies b q.slices (Some r.at) ns fs next → OnFirst (λ m. IsIn m numbers) ns
      first [] fs next some flies = absurd (some refl)
      first (m ∷ ns) [] next some flies = absurd flies
      first (m ∷ ns) (f ∷ fs) next some (s, known, takes, after, leads, rest) = (departures.are m).1 (takes.low, takes.high, (f, ap (λ xs. slice_get xs m) (sym plan) ∙ takes.known, takes.departs))

-- the first is one of those before, or the next
pub first_or : (numbers : List ℕ) (i d n : ℕ) (ns : List ℕ) → i < length numbers → n ≡ get_or numbers i d → OnFirst (λ m. IsIn m (take (i + 1) numbers)) ns → OnFirst (λ m. IsIn m (take i numbers)) ns ⊎ OnFirst (λ m. m ≡ n) ns
first_or numbers i d n [] lt e h = absurd h
first_or numbers i d n (m ∷ ns) lt e h = elim (in_either m (take i numbers) (n ∷ []) (subst (IsIn m) (front_read numbers i d n lt e) h)) [ inl j ↦ inl j | inr j ↦ inr (in_one m n j) ]

pub below_by : (x y : State) → x ≡ y → (n : ℕ) → n < x.at.hi → n < y.at.hi
below_by x y e n lt = subst (λ (z : State). n < z.at.hi) e lt
