-- What a rule says of the flights with which a path begins, and of those with which it ends.
use Rattle.std.specs.Prelude.{◌≡◌, ◌≢◌, ◌≤◌, ◌+◌, true, List, [], ◌++◌, All, IfSome}
use Rattle.fare_groups.specs.Groups.{Permits, extra_of}
use Rattle.fare_law.specs.declared.flights.Flight.{Flight}
use Rattle.fare_law.specs.declared.names.Carrier.{Carrier}
use Rattle.fare_law.specs.declared.rules.Rule.{Rule}
use Rattle.fare_law.specs.Parts.{FlightsHold, StopoversHold}

-- A rule that permits a path permits the flights with which it begins.
abbrev pub PermitsHeads : Type 0
PermitsHeads = (rule : Rule) (carrier : Carrier) (head tail : List Flight) → head ≢ [] → Permits rule carrier (head ++ tail) → Permits rule carrier head

-- What it asks of all flights and stopovers it asks of those with which the path ends; and where category 9 wants one carrier, each of them is of the fare's carrier.
abbrev pub PermitsTails : Type 0
PermitsTails = (rule : Rule) (carrier : Carrier) (head tail : List Flight) → Permits rule carrier (head ++ tail)
    → FlightsHold rule tail × StopoversHold rule tail × IfSome rule.cat9 (λ c. c.online ≡ true → All (λ f. f.carrier ≡ carrier) tail)

-- It adds on a path at least what it adds on both.
abbrev pub AddsParts : Type 0
AddsParts = (rule : Rule) (head tail : List Flight) → (extra_of rule head + extra_of rule tail) ≤ extra_of rule (head ++ tail)
