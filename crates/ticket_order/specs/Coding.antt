-- Moves that a code can tell, and words that are told apart before either ends.
use Rattle.std.specs.Prelude.{◌≡◌, ℕ, ◌≤◌, ◌<◌, ◌^◌, List, length}
use Rattle.fare_law.specs.declared.moves.Move.{Move}
use Rattle.fare_law.specs.Lists.{IsPrefix, Each}
use Rattle.fare_law.specs.Names.{IsCarrier, IsBasis}
use Rattle.fare_law.specs.Codes.{run_code}
use Rattle.fare_law.specs.declared.limits.TheConstants.{MOST_COMPONENTS, MOST_FLIGHTS_OF_A_COMPONENT}

-- the carrier and the basis of the move have their characters
abbrev pub Coded : Move → Type 0
Coded m = IsCarrier m.carrier × IsBasis m.basis

-- neither word is the front of the other
abbrev pub Apart : List ℕ → List ℕ → Type 0
Apart v w = (IsPrefix v w → ⊥) × (IsPrefix w v → ⊥)

-- A move within its limits: no more flights than a component has, numbers of 32 bits, a slot of 8, and the characters of its names.
pub record IsMove (m : Move) : Type 0 where
  pub few : length m.flights ≤ MOST_FLIGHTS_OF_A_COMPONENT
  pub flights : Each (λ n. n < 2 ^ 32) m.flights
  pub slot : m.slot < 2 ^ 8
  pub coded : Coded m

-- The numbers are the code of these moves, of which there are no more than a ticket has components.
pub record IsCodeOf (code : List ℕ) (ms : List Move) : Type 0 where
  pub few : length ms ≤ MOST_COMPONENTS
  pub each : Each IsMove ms
  pub code_is : code ≡ run_code ms
