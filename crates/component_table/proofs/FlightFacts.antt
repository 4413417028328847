-- The table of a flight at a leg of a slice, and those that are kept.
use Rattle.std.proofs.Common.{◌≡◌, ℕ, suc, ◌+◌, ◌*◌, ◌≤◌, ◌<◌, List, [], ◌∷◌, ◌≢◌, Option, None, Some, length, slice_get, refl, sym, ap, subst, ◌∙◌, inl, inr, arith}
use Rattle.component_table.specs.Networks.{AreFlightTables}
use Rattle.component_table.specs.Steps.{BeginsBy}
use Rattle.component_table.proofs.Beginnings.{has_here, has_of_table}
use Rattle.fare_law.specs.declared.flights.Flight.{Flight}
use Rattle.fare_law.specs.declared.names.Place.{Place}
use Rattle.fare_law.specs.declared.requests.Request.{Request}
use Rattle.fare_law.specs.declared.requests.Slice.{Slice}
use Rattle.fare_law.specs.Book.{Book, flight_at}
use Rattle.flight_paths.specs.declared.positions.Position.{Position}
use Rattle.flight_paths.specs.Positions.{Flies}
use Rattle.component_table.specs.Tables.{HasThose, IsPricedTable, IsTable}
use Rattle.law_lemmas.proofs.Lists.{got_within}
use Rattle.law_lemmas.proofs.Options.{some_same}
use Rattle.outline_tables.specs.declared.flight_tables.FlightTables.{FlightTables}
use Rattle.outline_tables.specs.declared.outline_numbers.Priced.{Priced}
use Rattle.outline_tables.specs.declared.outline_numbers.RuledOutline.{RuledOutline}
use Rattle.outline_tables.specs.FlightTables.{PutsTable}
use Rattle.outlines.specs.declared.outline.Outline.{Outline}
use Rattle.outlines.specs.Outlines.{Outlined}
use Rattle.fare_ends.specs.Begins.{IsShared, of_flight, shared}
use Rattle.fare_ends.proofs.FirstFlights.{begins_alone, begins_with}
use Rattle.schedule_book.specs.Departures.{DepartsFrom}

abbrev placed : Position → ℕ → Place → Position
placed at n p = record { slice = at.slice; leg = at.leg; place = p; via = None; lo = n; hi = suc n }

-- where a flight departs from the position's place, its position is the same without a place that was called at first
pub of_shared : (at : Position) (n : ℕ) (f : Flight) → f.from ≡ at.place → of_flight at.slice at.leg n f ≡ shared at n
of_shared at n f here = ap (placed at n) here

-- the table of a flight has what begins with it at the position
pub shared_have : (b : Book) (q : Request) (at : Position) (s : Slice) → slice_get q.slices at.slice ≡ Some s → IsShared s at → (n : ℕ) → at.lo ≤ n → n < at.hi → (f : Flight) → f.from ≡ at.place → (known : List RuledOutline) (table : List Priced)
    → IsPricedTable b q (of_flight at.slice at.leg n f) known table → HasThose b q at (λ o ns. BeginsBy n ns) known table
shared_have b q at s here is n low high f departs known table h =
    has_here b q at (of_flight at.slice at.leg n f) n refl refl (λ ns fs next. begins_alone b q.slices at s here is n f departs low high ns fs next) (λ o ns. BeginsBy n ns) known table (λ o ns w. w)
    (has_of_table b q (of_flight at.slice at.leg n f) (λ o ns. BeginsBy n ns) known table h)

-- a position without components has the empty table
pub table_of_none : (b : Book) (q : Request) (at : Position) → ((o : Outline) (price : ℕ) → Outlined b q at o price → ⊥) → IsTable b q at []
table_of_none b q at none = record { tabled = record { attained = tt; covered = λ o price h. absurd (none o price h) }; rules = tt; within = tt }

pub priced_none : (b : Book) (q : Request) (at : Position) (known : List RuledOutline) (table : List Priced) → table ≡ [] → ((o : Outline) (price : ℕ) → Outlined b q at o price → ⊥) → IsPricedTable b q at known table
priced_none b q at known [] e none = record { numbers = tt; is = table_of_none b q at none }
priced_none b q at known (p ∷ table) e none = absurd (cc)

-- of a slice that isn't the request's
pub slice_none : (b : Book) (q : Request) (at : Position) → length q.slices ≤ at.slice → (o : Outline) (price : ℕ) → Outlined b q at o price → ⊥
slice_none b q at past o price h =
    let w = begins_with b q.slices at h.numbers h.flights o.after h.path in
    let lt = got_within q.slices at.slice w.slice w.here in
    absurd (omega (arith, past, lt))

-- of a leg past the third
pub leg_none : (b : Book) (q : Request) (at : Position) → 2 < at.leg → (o : Outline) (price : ℕ) → Outlined b q at o price → ⊥
leg_none b q at past o price h = let few = (begins_with b q.slices at h.numbers h.flights o.after h.path).takes.few in absurd (omega (arith, past, few))

-- a third flight that doesn't end the slice can't be taken
module _ (b : Book) (q : Request) (at : Position) (s : Slice) (here : slice_get q.slices at.slice ≡ Some s) (n : ℕ) (f : Flight) (is : flight_at b n ≡ Some f) (third : 2 ≤ at.leg) (away : f.to ≢ s.to) (one : at.lo ≡ n) (alone : at.hi ≡ suc n) where
  third_none : (ns : List ℕ) (fs : List Flight) (next : Option Position) → ns ≢ [] → Flies b q.slices (Some at) ns fs next → ⊥
  third_none [] fs next some h = some refl
  third_none (m ∷ ns) [] next some h = h
  third_none (m ∷ ns) (g ∷ fs) next some (x, k, t, o, l, r) =
      let number : m ≡ n = let lo = t.low in let hi = t.high in omega (arith, lo, hi, one, alone) in
      let flight : f ≡ g = some_same f g (sym is ∙ ap (flight_at b) (sym number) ∙ t.known) in
      let slice : s ≡ x = some_same s x (sym here ∙ k) in
      elim l [
        | inl e ↦ away (ap (λ (y : Flight). y.to) flight ∙ e.0 ∙ sym (ap (λ (y : Slice). y.to) slice))
        | inr e ↦ let lt = e.1 in absurd (omega (arith, lt, third))
      ]

  pub third_outlined : (o : Outline) (price : ℕ) → Outlined b q at o price → ⊥
  third_outlined o price h = third_none h.numbers h.flights o.after h.path.some h.path.flies

-- a slice and a leg have one number
level_parts : (slice leg at third : ℕ) → leg < 3 → third < 3 → slice * 3 + leg ≡ at * 3 + third → (slice ≡ at) × (leg ≡ third)
level_parts slice leg at third h k e = (omega (arith, h, k, e), omega (arith, h, k, e))

-- each table that is kept is that of its flight, as one more is
pub tables_put : (b : Book) (q : Request) (at : Position) (n : ℕ) (known : List RuledOutline) (table : List Priced) (old new : FlightTables) → at.leg ≤ 2 → DepartsFrom b.timetable.flights at.place n → AreFlightTables b q known old → PutsTable (at.slice * 3 + at.leg) n table old new → IsPricedTable b q (shared at n) known table → AreFlightTables b q known new
tables_put b q at n known table old new leg departs are puts h slice third flight own lt stands f is = elim (puts (slice * 3 + third) flight own stands) [
  | inl was ↦ are slice third flight own lt was f is
  | inr e ↦
      let parts = level_parts slice third at.slice at.leg lt (omega (arith, leg)) e.0 in
      let same : f ≡ departs.0 = some_same f departs.0 (sym is ∙ ap (flight_at b) e.1 ∙ departs.1) in
      let here : of_flight slice third flight f ≡ shared at n =
      ap (λ k. of_flight k third flight f) parts.0 ∙ ap (λ k. of_flight at.slice k flight f) parts.1 ∙ ap (λ k. of_flight at.slice at.leg k f) e.1 ∙ of_shared at n f (ap (λ (y : Flight). y.from) same ∙ departs.2) in
      subst (λ p. IsPricedTable b q p known own) (sym here) (subst (IsPricedTable b q (shared at n) known) (sym e.2) h)
]
