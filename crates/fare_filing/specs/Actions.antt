-- The actions that are read whole or not at all: each but put_rule.
use Rattle.std.specs.Prelude.{ℕ, if◌then◌else◌, Option, Some, None, option_map, codes}
use Rattle.serde_json.specs.Data.{Data}
use Rattle.serde_json.specs.Find.{get}
use Rattle.fare_law.specs.declared.filings.Action.{Action}
use Rattle.fare_law.specs.declared.filings.Action.TheVariants.{PutFare, DropFare, DropRule, PutSeats, DropSeats}
use Rattle.fare_law.specs.declared.filings.SeatKey.{SeatKey}
use Rattle.json_form.specs.Fares.{◌>>=◌, fare_key, fare_spelled}
use Rattle.json_form.specs.Members.{has_members, between_at, carrier_at, place_at, text_at}
use Rattle.name_text.specs.Seats.{seat_day_of, seats_of}

-- the number of a rule that may be put and dropped
abbrev pub rule_number : Data → Option ℕ
rule_number = between_at (codes "rule") 1 9999

-- what names a seat row
abbrev pub seat_key : Data → Option SeatKey
seat_key d = do
  carrier ← carrier_at (codes "carrier") d
  number ← between_at (codes "number") 1 9999 d
  from ← place_at (codes "from") d
  date ← text_at (codes "date") d
  day ← seat_day_of date
  Some (record { carrier = carrier; number = number; from = from; day = day })

-- the actions by the values of their members, each an object of exactly the members named

abbrev pub put_fare : Data → Option Action
put_fare d = option_map PutFare (fare_spelled d)

abbrev pub drop_fare : Data → Option Action
drop_fare d = if has_members 4 d then option_map DropFare (fare_key d) else None

abbrev pub drop_rule : Data → Option Action
drop_rule d = if has_members 2 d then (do
  carrier ← carrier_at (codes "carrier") d
  number ← rule_number d
  Some (DropRule carrier number)) else None

abbrev pub put_seats : Data → Option Action
put_seats d = if has_members 5 d then (do
  key ← seat_key d
  text ← text_at (codes "seats") d
  seats ← seats_of text
  Some (PutSeats key seats)) else None

abbrev pub drop_seats : Data → Option Action
drop_seats d = if has_members 4 d then option_map DropSeats (seat_key d) else None

-- what a member spells where it is there, and else what the others do
abbrev pub if_there : {A : Type 0} → Option Data → (Data → A) → A → A
if_there (Some d) form others = form d
if_there None form others = others

-- the action that an object's member spells, if it is one of these five
abbrev pub plain_action : Data → Option Action
plain_action d =
    if_there (get (codes "put_fare") d) put_fare
    (if_there (get (codes "drop_fare") d) drop_fare
    (if_there (get (codes "drop_rule") d) drop_rule
    (if_there (get (codes "put_seats") d) put_seats
    (if_there (get (codes "drop_seats") d) drop_seats None))))
