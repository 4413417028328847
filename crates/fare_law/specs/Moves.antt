-- The moves of a ticket.
use Rattle.std.specs.Prelude.{ℕ, zero, suc, ◌&&◌, cond, List, [], ◌∷◌, ◌++◌, map, count_by}
use Rattle.fare_law.specs.declared.moves.Move.{Move}
use Rattle.fare_law.specs.declared.moves.Role.{Role}
use Rattle.fare_law.specs.declared.moves.Role.TheVariants.{Alone, Opens, GoesOn, Closes}
use Rattle.fare_law.specs.declared.tickets.Component.{Component}
use Rattle.fare_law.specs.declared.tickets.Ticket.{Ticket}
use Rattle.fare_law.specs.Lawful.{comes_in}

-- the labels 1 to n
abbrev pub upto : ℕ → List ℕ
upto zero = []
upto (suc n) = upto n ++ suc n ∷ []

-- the labels smaller than this one
abbrev pub labels_below : ℕ → List ℕ
labels_below zero = []
labels_below (suc k) = upto k

-- how many units with a smaller label have a component before and one after
abbrev pub open_below : List ℕ → ℕ → List ℕ → ℕ
open_below before l after = count_by (λ u. comes_in u before && comes_in u after) (labels_below l)

abbrev pub slot_number : List ℕ → ℕ → List ℕ → ℕ
slot_number before l after = cond (comes_in l before) (open_below before l after) 0

-- the role and the slot of a component, with the labels before it and after it
abbrev pub role_of : List ℕ → ℕ → List ℕ → Role
role_of before l after = cond (comes_in l before) (cond (comes_in l after) GoesOn Closes) (cond (comes_in l after) Opens Alone)

abbrev pub move_of : List ℕ → Component → List ℕ → Move
move_of before c after = record { flights = c.flights; carrier = c.fare.carrier; basis = c.fare.basis; role = role_of before c.unit after; slot = slot_number before c.unit after }

-- the moves of these components, which stand after these labels
abbrev pub moves_after : List ℕ → List Component → List Move
moves_after before [] = []
moves_after before (c ∷ cs) = move_of before c (map (λ d. d.unit) cs) ∷ moves_after (before ++ c.unit ∷ []) cs

abbrev pub moves_of : Ticket → List Move
moves_of t = moves_after [] t.components
