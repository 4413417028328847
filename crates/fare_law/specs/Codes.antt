-- The code of a ticket, by which tickets of equal price are ordered.
use Rattle.std.specs.Prelude.{ℕ, zero, suc, ◌+◌, ◌*◌, ◌-◌, ◌^◌, nat_le, List, [], ◌∷◌, ◌++◌, length, cond}
use Rattle.fare_law.specs.declared.moves.Move.{Move}
use Rattle.fare_law.specs.declared.moves.Role.{Role}
use Rattle.fare_law.specs.declared.moves.Role.TheVariants.{Alone, Opens, GoesOn, Closes}
use Rattle.fare_law.specs.declared.names.Basis.{Basis}
use Rattle.fare_law.specs.declared.names.Carrier.{Carrier}
use Rattle.fare_law.specs.declared.tickets.Ticket.{Ticket}
use Rattle.fare_law.specs.Moves.{moves_of}

-- 1 to 10 for a digit, 11 to 36 for a capital
abbrev pub character_value : ℕ → ℕ
character_value c = cond (nat_le c 57) (c - 47) (c - 54)

-- the value of these characters, in n places
abbrev pub in_places : ℕ → List ℕ → ℕ
in_places zero cs = 0
in_places (suc n) [] = 0
in_places (suc n) (c ∷ cs) = character_value c * 37 ^ n + in_places n cs

abbrev pub carrier_number : Carrier → ℕ
carrier_number c = in_places 2 c.0

abbrev pub basis_number : Basis → ℕ
basis_number b = in_places 8 b.0

-- alone 0, opens 1, goes on 2, closes 3
abbrev pub role_code : Role → ℕ
role_code Alone = 0
role_code Opens = 1
role_code GoesOn = 2
role_code Closes = 3

abbrev pub move_code : Move → List ℕ
move_code m = length m.flights ∷ [] ++ m.flights ++ carrier_number m.carrier ∷ basis_number m.basis ∷ role_code m.role ∷ m.slot ∷ []

abbrev pub run_code : List Move → List ℕ
run_code [] = []
run_code (m ∷ ms) = move_code m ++ run_code ms

-- the codes of its moves, one after another
abbrev pub code : Ticket → List ℕ
code t = run_code (moves_of t)
