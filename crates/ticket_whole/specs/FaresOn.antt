-- The fares on a ticket, and what each asks of the others by category 10.
use Rattle.std.specs.Prelude.{◌≡◌, List, All, IfSome, option_map}
use Rattle.fare_law.specs.declared.rules.EndOnEnd.{EndOnEnd}
use Rattle.fare_law.specs.declared.rules.EndOnEnd.TheVariants.{Free, SameCarrier, Never}
use Rattle.fare_law.specs.Parts.{Part}
use Rattle.ticket_whole.specs.declared.fares_on.FareOn.{FareOn}

-- the fare of a part, with its label and what its rule asks
abbrev pub fare_on : Part → FareOn
fare_on part = record {
  carrier = part.piece.fare.key.carrier;
  unit = part.unit;
  asks = option_map (λ c. c.end_on_end) part.piece.rule.cat10;
}

-- the fares on the ticket are as this one asks
abbrev pub AreAsAsked : List FareOn → FareOn → EndOnEnd → Type 0
AreAsAsked fares fare Free = Unit {0}
AreAsAsked fares fare SameCarrier = All (λ other. other.carrier ≡ fare.carrier) fares
AreAsAsked fares fare Never = All (λ other. other.unit ≡ 1) fares

-- what this fare asks of the ticket, if it asks anything, holds of all fares on it
abbrev pub Combines : List FareOn → FareOn → Type 0
Combines fares fare = IfSome fare.asks (AreAsAsked fares fare)
