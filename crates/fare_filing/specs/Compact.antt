-- Compact text, with members ascending by name, from its beginning on: a piece of it, and what follows.
use Rattle.std.specs.Prelude.{◌≡◌, ◌≢◌, ◌≤◌, ◌+◌, ℕ, List, [], ◌∷◌, ◌++◌, Some, Ok, codes, decimal}
use Rattle.json.specs.Tree.{HasNumbers, depth as json_depth}
use Rattle.serde_json.specs.Data.{Data, Items, no_items, item, array}
use Rattle.serde_json.specs.Read.{of_json}
use Rattle.serde_json.specs.Written.{compact_text, outline}
use Rattle.fare_law.specs.Lists.{Each, Matched}
use Rattle.fare_law.specs.declared.fares.Fare.{Fare}
use Rattle.fare_law.specs.declared.filings.Action.{Action}
use Rattle.fare_law.specs.declared.filings.SeatKey.{SeatKey}
use Rattle.name_text.specs.Seats.{seat_day_of, seats_of}
use Rattle.fare_filing.specs.Reading.{action_spelled}
use Rattle.fare_filing.specs.Text.{kind_text}

-- the byte stands for itself in a text of JSON
pub record IsPlain (byte : ℕ) : Type 0 where
  pub no_control : 32 ≤ byte
  pub no_quote : byte ≢ 34
  pub no_backslash : byte ≢ 92

-- a text up to its closing quote
pub record Cuts (text name rest : List ℕ) : Type 0 where
  pub plain : Each IsPlain name
  pub parts : text ≡ name ++ rest

-- the same behind a piece
pub record Follows (text piece name rest : List ℕ) : Type 0 where
  pub plain : Each IsPlain name
  pub parts : text ≡ piece ++ (name ++ rest)

-- the action that puts a fare
abbrev pub fare_action : Fare → List ℕ → List ℕ
fare_action fare rest =
    codes "{\"put_fare\":{\"amount\":" ++ (decimal fare.amount ++ (codes ",\"basis\":\"" ++ (fare.key.basis.0
    ++ (codes "\",\"carrier\":\"" ++ (fare.key.carrier.0 ++ (codes "\",\"class\":\"" ++ ((65 + fare.class) ∷ (codes "\",\"from\":\"" ++ (fare.key.from.0
    ++ (codes "\",\"kind\":\"" ++ (kind_text fare.kind ++ (codes "\",\"rule\":" ++ (decimal fare.rule ++ (codes ",\"to\":\"" ++ (fare.key.to.0
    ++ (codes "\"}}" ++ rest))))))))))))))))

-- the action that puts seats, by the texts of its day and its seats
abbrev pub seats_action : SeatKey → (date seats rest : List ℕ) → List ℕ
seats_action key date seats rest =
    codes "{\"put_seats\":{\"carrier\":\"" ++ (key.carrier.0 ++ (codes "\",\"date\":\"" ++ (date ++ (codes "\",\"from\":\"" ++ (key.from.0
    ++ (codes "\",\"number\":" ++ (decimal key.number ++ (codes ",\"seats\":\"" ++ (seats ++ (codes "\"}}" ++ rest))))))))))

-- such texts that spell the day and the seats
pub record SeatsAction (text : List ℕ) (key : SeatKey) (seats : List ℕ) (rest : List ℕ) : Type 0 where
  pub date : List ℕ
  pub seats_text : List ℕ
  pub text_is : text ≡ seats_action key date seats_text rest
  pub plain_date : Each IsPlain date
  pub plain_seats : Each IsPlain seats_text
  pub day : seat_day_of date ≡ Some key.day
  pub seats_are : seats_of seats_text ≡ Some seats

-- what is written for the value is read again as the value
pub record ReadsBack (d : Data) : Type 0 where
  pub numbers : HasNumbers (outline d)
  pub again : of_json (outline d) ≡ Some d
  pub nests : json_depth (outline d) ≤ 5

-- the value spells the action, whatever its number, and is read back
pub record Spells (d : Data) (action : Action) : Type 0 where
  pub back : ReadsBack d
  pub spelled : (n : ℕ) → action_spelled n d ≡ Ok action

-- the text of an action, and what follows
pub record Begins (text : List ℕ) (action : Action) (rest : List ℕ) : Type 0 where
  pub json : Data
  pub spells : Spells json action
  pub text_is : text ≡ compact_text json ++ rest

-- the values, each with a comma behind it
abbrev pub with_commas : List Data → List ℕ → List ℕ
with_commas [] rest = rest
with_commas (d ∷ ds) rest = compact_text d ++ 44 ∷ with_commas ds rest

-- the actions so far, each with a comma behind it
pub record Begun (text : List ℕ) (actions : List Action) (rest : List ℕ) : Type 0 where
  pub values : List Data
  pub each : Matched Spells values actions
  pub text_is : text ≡ with_commas values rest

abbrev pub items_of : List Data → Items
items_of [] = no_items
items_of (d ∷ ds) = item d (items_of ds)

-- all actions of a list, up to the end of the filing's object
pub record Ended (text : List ℕ) (actions : List Action) : Type 0 where
  pub values : List Data
  pub each : Matched Spells values actions
  pub text_is : 91 ∷ text ≡ compact_text (array (items_of values)) ++ 125 ∷ []
