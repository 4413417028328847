-- The component of a move is a part of the move's flights and fare, so it costs what the move does.
use Rattle.std.proofs.Common.{◌≡◌, ◌∙◌, ℕ, suc, ◌-◌, cond, List, [], ◌∷◌, length, slice_get, Option, Some, None, sym, refl, ap, ap₂, subst, option_and_then, arith}
use Rattle.certificate_check.specs.Fronts.{Priced, component_of, flight_of, from_of, to_of}
use Rattle.fare_law.specs.declared.fares.FareKey.{FareKey}
use Rattle.fare_law.specs.declared.flights.Flight.{Flight}
use Rattle.fare_law.specs.declared.moves.Move.{Move}
use Rattle.fare_law.specs.declared.requests.Request.{Request}
use Rattle.fare_law.specs.declared.tickets.Piece.{Piece}
use Rattle.fare_law.specs.Book.{Book}
use Rattle.fare_law.specs.Lists.{OnFirst, OnLast}
use Rattle.fare_law.specs.Parts.{IsPart, Numbers, Part, StandsFor, price_of}
use Rattle.flight_paths.specs.declared.positions.Position.{Position}
use Rattle.open_unit.specs.declared.units.OpenUnit.{OpenUnit}
use Rattle.residual_keys.specs.Residuals.{Moves, State, closes}
use Rattle.residual_keys.proofs.OneNext.{direction, filed_ends, first_one, last_one}
use Rattle.residual_keys.proofs.Runs.{flies_numbers}
use Rattle.law_lemmas.proofs.Options.{some_same}

some_flight : (o : Option Flight) (f g : Flight) → o ≡ Some f → o ≡ Some g → f ≡ g
some_flight o f g h k = cc

first_is : (b : Book) (ns : List ℕ) (fs : List Flight) (n : ℕ) (f : Flight) → Numbers b ns fs → slice_get ns 0 ≡ Some n → slice_get b.timetable.flights n ≡ Some f → OnFirst (λ g. g ≡ f) fs
first_is b [] [] n f h e s = cc
first_is b [] (g ∷ fs) n f h e s = absurd h
first_is b (m ∷ ns) [] n f h e s = absurd h
first_is b (m ∷ ns) (g ∷ fs) n f h e s = some_flight (slice_get b.timetable.flights m) g f h.0 (ap (slice_get b.timetable.flights) (some_same m n e) ∙ s)

last_is : (b : Book) (ns : List ℕ) (fs : List Flight) (n : ℕ) (f : Flight) → Numbers b ns fs → slice_get ns (length ns - 1) ≡ Some n → slice_get b.timetable.flights n ≡ Some f → OnLast (λ g. g ≡ f) fs
last_is b [] [] n f h e s = cc
last_is b [] (g ∷ fs) n f h e s = absurd h
last_is b (m ∷ ns) [] n f h e s = absurd h
last_is b (m ∷ []) (g ∷ []) n f h e s = some_flight (slice_get b.timetable.flights m) g f h.0 (ap (slice_get b.timetable.flights) (some_same m n e) ∙ s)
last_is b (m ∷ []) (g ∷ k ∷ fs) n f h e s = absurd h.1
last_is b (m ∷ l ∷ ns) (g ∷ []) n f h e s = absurd h.1
last_is b (m ∷ l ∷ ns) (g ∷ k ∷ fs) n f h e s = last_is b (l ∷ ns) (k ∷ fs) n f h.1 (sym (ap (slice_get (m ∷ l ∷ ns)) (shift (length ns))) ∙ e) s
  where
    shift : (i : ℕ) → suc (suc i) - 1 ≡ suc (suc i - 1)
    shift i = omega arith

pub move_part : (b : Book) (q : Request) (x : State) (m : Move) (fs : List Flight) (p : Piece) (next : Option Position) (us : List OpenUnit) (i j : ℕ) (first last : Flight) → Moves b q x m fs p next us
    → slice_get m.flights 0 ≡ Some i → slice_get b.timetable.flights i ≡ Some first → slice_get m.flights (length m.flights - 1) ≡ Some j → slice_get b.timetable.flights j ≡ Some last
    → IsPart b q (record { flights = m.flights; fare = record { carrier = m.carrier; from = from_of (closes m.role) first last; to = to_of (closes m.role) first last; basis = m.basis }; unit = 0 }) (record { flights = fs; piece = p; unit = 0 })
move_part b q x m fs p next us i j first last h e f g k =
    let ns = flies_numbers b q.slices (Some x.at) next m.flights fs h.path.flies in
    let bg : p.begin ≡ first.from = first_one (λ z. (p.begin ≡ z.from) × (p.first_day ≡ z.day)) (λ z. z ≡ first) _ (λ z c d. c.0 ∙ ap (λ w. w.from) d) fs h.stands.begins (first_is b m.flights fs i first ns e f) in
    let en : p.end ≡ last.to = last_one (λ z. (p.end ≡ z.to) × (p.last_day ≡ z.day)) (λ z. z ≡ last) _ (λ z c d. c.0 ∙ ap (λ w. w.to) d) fs h.stands.ends (last_is b m.flights fs j last ns g k) in
    let ends = filed_ends p (closes m.role) (direction m.role m.slot x.units us p h.units) h.stands.filed in
    let from : p.fare.key.from ≡ from_of (closes m.role) first last = ends.0 ∙ ap₂ (λ y z. cond (closes m.role) y z) en bg in
    let to : p.fare.key.to ≡ to_of (closes m.role) first last = ends.1 ∙ ap₂ (λ y z. cond (closes m.role) y z) bg en in
    let key : ◌≡◌ {A = FareKey} p.fare.key (record { carrier = m.carrier; from = from_of (closes m.role) first last; to = to_of (closes m.role) first last; basis = m.basis }) = λ w. record { carrier = sym h.carrier w; from = from w; to = to w; basis = sym h.basis w } in
    record { flights = ns; stands = subst (λ z. StandsFor b q.sale z fs p) key h.stands; unit = refl }

-- a move's first flight, and its last
first_there : (b : Book) (ns : List ℕ) (fs : List Flight) (P : Flight → Type 0) → Numbers b ns fs → OnFirst P fs → (n : ℕ) × (f : Flight) × (slice_get ns 0 ≡ Some n) × (slice_get b.timetable.flights n ≡ Some f)
first_there b [] [] P h o = absurd o
first_there b [] (g ∷ fs) P h o = absurd h
first_there b (m ∷ ns) [] P h o = absurd h
first_there b (m ∷ ns) (g ∷ fs) P h o = (m, g, refl, h.0)

last_there : (b : Book) (ns : List ℕ) (fs : List Flight) (P : Flight → Type 0) → Numbers b ns fs → OnLast P fs → (n : ℕ) × (f : Flight) × (slice_get ns (length ns - 1) ≡ Some n) × (slice_get b.timetable.flights n ≡ Some f)
last_there b [] [] P h o = absurd o
last_there b [] (g ∷ fs) P h o = absurd h
last_there b (m ∷ ns) [] P h o = absurd h
last_there b (m ∷ []) (g ∷ []) P h o = (m, g, refl, h.0)
last_there b (m ∷ []) (g ∷ k ∷ fs) P h o = absurd h.1
last_there b (m ∷ l ∷ ns) (g ∷ []) P h o = absurd h.1
last_there b (m ∷ l ∷ ns) (g ∷ k ∷ fs) P h o = let r = last_there b (l ∷ ns) (k ∷ fs) P h.1 o in (r.0, r.1, ap (slice_get (m ∷ l ∷ ns)) (shift (length ns)) ∙ r.2, r.3)
  where
    shift : (i : ℕ) → suc (suc i) - 1 ≡ suc (suc i - 1)
    shift i = omega arith

pub begins_there : (b : Book) (q : Request) (x : State) (m : Move) (fs : List Flight) (p : Piece) (next : Option Position) (us : List OpenUnit) → Moves b q x m fs p next us
    → (n : ℕ) × (f : Flight) × (slice_get m.flights 0 ≡ Some n) × (slice_get b.timetable.flights n ≡ Some f)
begins_there b q x m fs p next us h = first_there b m.flights fs _ (flies_numbers b q.slices (Some x.at) next m.flights fs h.path.flies) h.stands.begins

pub ends_there : (b : Book) (q : Request) (x : State) (m : Move) (fs : List Flight) (p : Piece) (next : Option Position) (us : List OpenUnit) → Moves b q x m fs p next us
    → (n : ℕ) × (f : Flight) × (slice_get m.flights (length m.flights - 1) ≡ Some n) × (slice_get b.timetable.flights n ≡ Some f)
ends_there b q x m fs p next us h = last_there b m.flights fs _ (flies_numbers b q.slices (Some x.at) next m.flights fs h.path.flies) h.stands.ends

no_flight : (f : Flight) → None ≡ Some f → ⊥
no_flight f e = cc

flight_at : (b : Book) (m : Move) (i n : ℕ) (o : Option Flight) → slice_get m.flights i ≡ Some n → o ≡ flight_of b m i → slice_get b.timetable.flights n ≡ o
flight_at b m i n o e f = sym (f ∙ ap (option_and_then (slice_get b.timetable.flights)) e)

-- a move with no first flight, or no last one, is none of a residual
pub none_first : (b : Book) (m : Move) (price : Option ℕ) → None ≡ flight_of b m 0 → Priced b m price
none_first b m price e q x fs p next us h = let i = begins_there b q x m fs p next us h in absurd (no_flight i.1 (sym (flight_at b m 0 i.0 None i.2 e) ∙ i.3))

pub none_last : (b : Book) (m : Move) (price : Option ℕ) → None ≡ flight_of b m (length m.flights - 1) → Priced b m price
none_last b m price e q x fs p next us h = let i = ends_there b q x m fs p next us h in absurd (no_flight i.1 (sym (flight_at b m (length m.flights - 1) i.0 None i.2 e) ∙ i.3))

-- a move costs what its component does
pub priced_by : (b : Book) (m : Move) (first last : Flight) (price : Option ℕ) → Some first ≡ flight_of b m 0 → Some last ≡ flight_of b m (length m.flights - 1)
    → ((q : Request) (part : Part) → IsPart b q (component_of m first last) part → price ≡ Some (price_of part.flights part.piece)) → Priced b m price
priced_by b m first last price e f told q x fs p next us h =
    let i = begins_there b q x m fs p next us h in
    let j = ends_there b q x m fs p next us h in
    told q (record { flights = fs; piece = p; unit = 0 })
    (move_part b q x m fs p next us i.0 j.0 first last h i.2 (flight_at b m 0 i.0 (Some first) i.2 e) j.2 (flight_at b m (length m.flights - 1) j.0 (Some last) j.2 f))
