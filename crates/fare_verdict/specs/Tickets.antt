-- The ticket that lines spell: a component's line begins a component, and a flight's line belongs to the last one.
use Rattle.std.specs.Prelude.{◌≡◌, ◌==◌, ◌&&◌, ℕ, Bool, nat_lt, drop, List, [], ◌∷◌, ◌++◌, length, Option, Some, None, option_map, option_and_then, unwrap_or, Result, Ok, Err, if◌then◌else◌}
use Rattle.std.specs.List.{position_from}
use Rattle.std.specs.Ordering.{int_eq}
use Rattle.fare_law.specs.declared.fares.FareKey.{FareKey}
use Rattle.fare_law.specs.declared.flights.Flight.{Flight}
use Rattle.fare_law.specs.declared.rows.TextLine.{TextLine}
use Rattle.fare_law.specs.declared.tickets.Component.{Component}
use Rattle.fare_law.specs.declared.tickets.Ticket.{Ticket}
use Rattle.fare_law.specs.Book.{Book, same_carrier, same_place}
use Rattle.fare_law.specs.declared.limits.TheConstants.{MOST_COMPONENTS, MOST_FLIGHTS_OF_A_COMPONENT}
use Rattle.fare_verdict.specs.declared.faults.TicketFault.{TicketFault}
use Rattle.fare_verdict.specs.declared.faults.TicketFault.TheVariants.{Line as BadLine}
use Rattle.fare_verdict.specs.declared.forms.FlightName.{FlightName}
use Rattle.fare_verdict.specs.declared.forms.TicketLine.{TicketLine}
use Rattle.fare_verdict.specs.declared.forms.TicketLine.TheVariants.{Component as ComponentLine, Flight as FlightLine}
use Rattle.fare_verdict.specs.Lines.{line_in}

-- whether this is the name of the flight
abbrev pub names : FlightName → Flight → Bool
names name f = int_eq f.day name.day && (f.number == name.number) && same_carrier f.carrier name.carrier && same_place f.from name.from

-- the number of the flight of this name among these, or one that is unknown
abbrev pub flight_named : List Flight → FlightName → ℕ
flight_named flights name = unwrap_or (position_from (names name) 0 flights) 4294967295

-- the components with one more, which has no flight yet: at most `MOST_COMPONENTS`
abbrev pub with_component : List Component → ℕ → FareKey → Option (List Component)
with_component cs unit fare = if nat_lt (length cs) MOST_COMPONENTS then Some (cs ++ record { flights = []; fare = fare; unit = unit } ∷ []) else None

-- the component with one more flight: at most `MOST_FLIGHTS_OF_A_COMPONENT`
abbrev pub with_flight : Component → ℕ → Option Component
with_flight c number = if nat_lt (length c.flights) MOST_FLIGHTS_OF_A_COMPONENT then Some (record { flights = c.flights ++ number ∷ []; fare = c.fare; unit = c.unit }) else None

-- the components with one more flight of the last
abbrev pub with_last_flight : List Component → ℕ → Option (List Component)
with_last_flight [] number = None
with_last_flight (c ∷ []) number = option_map (λ d. d ∷ []) (with_flight c number)
with_last_flight (c ∷ d ∷ cs) number = option_map (λ ds. c ∷ ds) (with_last_flight (d ∷ cs) number)

-- the components after what a line says
abbrev pub after_saying : Book → List Component → TicketLine → Option (List Component)
after_saying b cs (ComponentLine unit fare) = with_component cs unit fare
after_saying b cs (FlightLine name) = with_last_flight cs (flight_named b.timetable.flights name)

-- the components after a line, if it is right there
abbrev pub after_line : Book → List Component → TextLine → Option (List Component)
after_line b cs line = option_and_then (after_saying b cs) (line_in line.bytes)

-- what comes of the components, or the line's number where it isn't right
abbrev pub then_rest : Option (List Component) → ℕ → (List Component → Result Ticket TicketFault) → Result Ticket TicketFault
then_rest None number rest = Err (BadLine number)
then_rest (Some cs) number rest = rest cs

-- the ticket that the lines spell behind these components, or the first line that isn't right
abbrev pub ticket_with : Book → List TextLine → List Component → Result Ticket TicketFault
ticket_with b [] cs = Ok (record { components = cs })
ticket_with b (line ∷ lines) cs = then_rest (after_line b cs line) line.line (ticket_with b lines)

-- the ticket that the lines spell, or the first line that isn't right
abbrev pub ticket_of_lines : Book → List TextLine → Result Ticket TicketFault
ticket_of_lines b lines = ticket_with b lines []

-- what the flights in front of these lines, which belong to a component behind others, leave to be read
abbrev pub GoesOn : Book → List Component → ℕ → FareKey → List TextLine → Result (List ℕ) TicketFault → Type 0
GoesOn b front unit fare lines (Ok numbers) =
    ticket_with b lines (front ++ record { flights = []; fare = fare; unit = unit } ∷ [])
    ≡ ticket_with b (drop (length numbers) lines) (front ++ record { flights = numbers; fare = fare; unit = unit } ∷ [])
GoesOn b front unit fare lines (Err fault) = ticket_with b lines (front ++ record { flights = []; fare = fare; unit = unit } ∷ []) ≡ Err fault

-- the first of these lines, if there is one, says no flight
abbrev pub SaysNoFlight : Option TicketLine → Type 0
SaysNoFlight None = Unit {0}
SaysNoFlight (Some (ComponentLine unit fare)) = Unit {0}
SaysNoFlight (Some (FlightLine name)) = ⊥

abbrev pub StopsBefore : List TextLine → Type 0
StopsBefore [] = Unit {0}
StopsBefore (line ∷ lines) = SaysNoFlight (line_in line.bytes)
