-- How a ticket goes on line by line. Cited where a ticket is read.
use Rattle.std.proofs.Common.{◌≡◌, ◌<◌, ◌≤◌, ◌+◌, ℕ, Bool, true, false, nat_lt, List, [], ◌∷◌, ◌++◌, length, drop, get_or, refl, sym, ap, ◌∙◌, arith, Option, Some, None, option_map, option_and_then, Err, drop-cons, add-one, eq-or-lt_of_le, inl, inr, if◌then◌else◌}
use Rattle.fare_law.specs.declared.fares.FareKey.{FareKey}
use Rattle.fare_law.specs.declared.rows.TextLine.{TextLine}
use Rattle.fare_law.specs.declared.tickets.Component.{Component}
use Rattle.fare_law.specs.Book.{Book}
use Rattle.fare_law.specs.declared.limits.TheConstants.{MOST_COMPONENTS, MOST_FLIGHTS_OF_A_COMPONENT}
use Rattle.fare_verdict.specs.declared.faults.TicketFault.TheVariants.{Line as BadLine}
use Rattle.fare_verdict.specs.declared.forms.FlightName.{FlightName}
use Rattle.fare_verdict.specs.declared.forms.TicketLine.{TicketLine}
use Rattle.fare_verdict.specs.declared.forms.TicketLine.TheVariants.{Component as ComponentLine, Flight as FlightLine}
use Rattle.fare_verdict.specs.Lines.{line_in}
use Rattle.fare_verdict.specs.Tickets.{after_saying, flight_named, then_rest, ticket_with, with_flight, with_last_flight}

map_twice : {A B C : Type 0} (f : B → C) (g : A → B) (h : A → C) (o : Option A) → ((x : A) → f (g x) ≡ h x) → option_map f (option_map g o) ≡ option_map h o
map_twice f g h None e = refl
map_twice f g h (Some x) e = ap Some (e x)

-- the flight goes to the component behind these
last_flight : (front : List Component) (c : Component) (n : ℕ) → with_last_flight (front ++ c ∷ []) n ≡ option_map (λ (d : Component). front ++ d ∷ []) (with_flight c n)
last_flight [] c n = refl
last_flight (x ∷ []) c n = map_twice (λ (ds : List Component). x ∷ ds) (λ (d : Component). d ∷ []) (λ (d : Component). x ∷ d ∷ []) (with_flight c n) (λ d. refl)
last_flight (x ∷ y ∷ ys) c n =
    ap (option_map (λ (ds : List Component). x ∷ ds)) (last_flight (y ∷ ys) c n)
    ∙ map_twice (λ (ds : List Component). x ∷ ds) (λ (d : Component). y ∷ ys ++ d ∷ []) (λ (d : Component). x ∷ y ∷ ys ++ d ∷ []) (with_flight c n) (λ d. refl)

less_true : (m n : ℕ) → m < n → nat_lt m n ≡ true
less_true m n h = search (arith, h)

less_false : (m n : ℕ) → n ≤ m → nat_lt m n ≡ false
less_false m n h = search (arith, h)

pub fewer : (n : ℕ) → n ≤ MOST_FLIGHTS_OF_A_COMPONENT → (n ≡ MOST_FLIGHTS_OF_A_COMPONENT → ⊥) → n < MOST_FLIGHTS_OF_A_COMPONENT
fewer n l h = elim (eq-or-lt_of_le l) [ inl e ↦ absurd (h e) | inr k ↦ k ]

module _ (b : Book) where
  says : (line : TextLine) (lines : List TextLine) (cs : List Component) (s : TicketLine) → line_in line.bytes ≡ Some s → ticket_with b (line ∷ lines) cs ≡ then_rest (after_saying b cs s) line.line (ticket_with b lines)
  says line lines cs s e = ap (λ (o : Option TicketLine). then_rest (option_and_then (after_saying b cs) o) line.line (ticket_with b lines)) e

  pub says_nothing : (line : TextLine) (lines : List TextLine) (cs : List Component) → line_in line.bytes ≡ None → ticket_with b (line ∷ lines) cs ≡ Err (BadLine line.line)
  says_nothing line lines cs e = ap (λ (o : Option TicketLine). then_rest (option_and_then (after_saying b cs) o) line.line (ticket_with b lines)) e

  -- a flight before any component
  pub says_early : (line : TextLine) (lines : List TextLine) (name : FlightName) → line_in line.bytes ≡ Some (FlightLine name) → ticket_with b (line ∷ lines) [] ≡ Err (BadLine line.line)
  says_early line lines name e = says line lines [] (FlightLine name) e

  -- a flight of the last component
  pub says_flight : (line : TextLine) (lines : List TextLine) (name : FlightName) (front : List Component) (unit : ℕ) (fare : FareKey) (ns : List ℕ) → line_in line.bytes ≡ Some (FlightLine name) → length ns < MOST_FLIGHTS_OF_A_COMPONENT
      → ticket_with b (line ∷ lines) (front ++ record { flights = ns; fare = fare; unit = unit } ∷ []) ≡ ticket_with b lines (front ++ record { flights = ns ++ flight_named b.timetable.flights name ∷ []; fare = fare; unit = unit } ∷ [])
  says_flight line lines name front unit fare ns e l =
      let c : Component = record { flights = ns; fare = fare; unit = unit } in
      let n = flight_named b.timetable.flights name in
      says line lines (front ++ c ∷ []) (FlightLine name) e
      ∙ ap (λ o. then_rest o line.line (ticket_with b lines))
      (last_flight front c n ∙ ap (λ (t : Bool). option_map (λ (d : Component). front ++ d ∷ []) (if t then Some (record { flights = ns ++ n ∷ []; fare = fare; unit = unit }) else None)) (less_true (length ns) MOST_FLIGHTS_OF_A_COMPONENT l))

  -- a flight too many
  pub says_flight_too_many : (line : TextLine) (lines : List TextLine) (name : FlightName) (front : List Component) (unit : ℕ) (fare : FareKey) (ns : List ℕ) → line_in line.bytes ≡ Some (FlightLine name) → MOST_FLIGHTS_OF_A_COMPONENT ≤ length ns
      → ticket_with b (line ∷ lines) (front ++ record { flights = ns; fare = fare; unit = unit } ∷ []) ≡ Err (BadLine line.line)
  says_flight_too_many line lines name front unit fare ns e l =
      let c : Component = record { flights = ns; fare = fare; unit = unit } in
      let n = flight_named b.timetable.flights name in
      says line lines (front ++ c ∷ []) (FlightLine name) e
      ∙ ap (λ o. then_rest o line.line (ticket_with b lines))
      (last_flight front c n ∙ ap (λ (t : Bool). option_map (λ (d : Component). front ++ d ∷ []) (if t then Some (record { flights = ns ++ n ∷ []; fare = fare; unit = unit }) else None)) (less_false (length ns) MOST_FLIGHTS_OF_A_COMPONENT l))

  -- a component
  pub says_component : (line : TextLine) (lines : List TextLine) (cs : List Component) (unit : ℕ) (fare : FareKey) → line_in line.bytes ≡ Some (ComponentLine unit fare) → length cs < MOST_COMPONENTS
      → ticket_with b (line ∷ lines) cs ≡ ticket_with b lines (cs ++ record { flights = []; fare = fare; unit = unit } ∷ [])
  says_component line lines cs unit fare e l =
      says line lines cs (ComponentLine unit fare) e
      ∙ ap (λ (t : Bool). then_rest (if t then Some (cs ++ record { flights = []; fare = fare; unit = unit } ∷ []) else None) line.line (ticket_with b lines)) (less_true (length cs) MOST_COMPONENTS l)

  -- a component too many
  pub says_component_too_many : (line : TextLine) (lines : List TextLine) (cs : List Component) (unit : ℕ) (fare : FareKey) → line_in line.bytes ≡ Some (ComponentLine unit fare) → MOST_COMPONENTS ≤ length cs
      → ticket_with b (line ∷ lines) cs ≡ Err (BadLine line.line)
  says_component_too_many line lines cs unit fare e l =
      says line lines cs (ComponentLine unit fare) e
      ∙ ap (λ (t : Bool). then_rest (if t then Some (cs ++ record { flights = []; fare = fare; unit = unit } ∷ []) else None) line.line (ticket_with b lines)) (less_false (length cs) MOST_COMPONENTS l)

  here : (lines : List TextLine) (i : ℕ) (d : TextLine) (cs : List Component) → i < length lines → ticket_with b (drop i lines) cs ≡ ticket_with b (get_or lines i d ∷ drop (i + 1) lines) cs
  here lines i d cs l =
      let rest : drop i lines ≡ get_or lines i d ∷ drop (i + 1) lines = rw (drop-cons lines i d l, add-one) refl in
      ap (λ (ls : List TextLine). ticket_with b ls cs) rest

  -- one more flight was read, of which this is the number
  pub one_flight : (lines : List TextLine) (i : ℕ) (d : TextLine) (name : FlightName) (front : List Component) (unit : ℕ) (fare : FareKey) (ns ms : List ℕ) → i < length lines → line_in (get_or lines i d).bytes ≡ Some (FlightLine name) → length ns < MOST_FLIGHTS_OF_A_COMPONENT
      → ms ≡ ns ++ flight_named b.timetable.flights name ∷ []
      → ticket_with b lines (front ++ record { flights = []; fare = fare; unit = unit } ∷ []) ≡ ticket_with b (drop i lines) (front ++ record { flights = ns; fare = fare; unit = unit } ∷ [])
      → ticket_with b lines (front ++ record { flights = []; fare = fare; unit = unit } ∷ []) ≡ ticket_with b (drop (i + 1) lines) (front ++ record { flights = ms; fare = fare; unit = unit } ∷ [])
  one_flight lines i d name front unit fare ns ms l e few is h =
      h ∙ here lines i d (front ++ record { flights = ns; fare = fare; unit = unit } ∷ []) l
      ∙ says_flight (get_or lines i d) (drop (i + 1) lines) name front unit fare ns e few
      ∙ ap (λ (xs : List ℕ). ticket_with b (drop (i + 1) lines) (front ++ record { flights = xs; fare = fare; unit = unit } ∷ [])) (sym is)

  -- the line of a flight too many
  pub flight_too_many : (lines : List TextLine) (i : ℕ) (d : TextLine) (name : FlightName) (front : List Component) (unit : ℕ) (fare : FareKey) (ns : List ℕ) → i < length lines → line_in (get_or lines i d).bytes ≡ Some (FlightLine name) → MOST_FLIGHTS_OF_A_COMPONENT ≤ length ns
      → ticket_with b lines (front ++ record { flights = []; fare = fare; unit = unit } ∷ []) ≡ ticket_with b (drop i lines) (front ++ record { flights = ns; fare = fare; unit = unit } ∷ [])
      → ticket_with b lines (front ++ record { flights = []; fare = fare; unit = unit } ∷ []) ≡ Err (BadLine (get_or lines i d).line)
  flight_too_many lines i d name front unit fare ns l e many h =
      h ∙ here lines i d (front ++ record { flights = ns; fare = fare; unit = unit } ∷ []) l
      ∙ says_flight_too_many (get_or lines i d) (drop (i + 1) lines) name front unit fare ns e many
