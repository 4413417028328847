-- The text of a filing: compact, with members ascending by name.
use Rattle.std.specs.Prelude.{◌≡◌, ◌==◌, ◌+◌, ℕ, suc, List, [], ◌∷◌, if◌then◌else◌, Some, codes}
use Rattle.serde_json.specs.Data.{Data, Items, Members, number, unsigned, string, array, object, member, no_members, no_items, item, put}
use Rattle.serde_json.specs.Written.{compact_text}
use Rattle.fare_law.specs.declared.fares.Fare.{Fare}
use Rattle.fare_law.specs.declared.fares.FareKey.{FareKey}
use Rattle.fare_law.specs.declared.fares.FareKind.{FareKind}
use Rattle.fare_law.specs.declared.fares.FareKind.TheVariants.{O, R, S}
use Rattle.fare_law.specs.declared.filings.Action.{Action}
use Rattle.fare_law.specs.declared.filings.Action.TheVariants.{PutFare, DropFare, PutRule, DropRule, PutSeats, DropSeats}
use Rattle.fare_law.specs.declared.filings.Filing.{Filing}
use Rattle.fare_law.specs.declared.filings.SeatKey.{SeatKey}
use Rattle.fare_law.specs.declared.names.Carrier.{Carrier}
use Rattle.fare_law.specs.declared.rules.Rule.{Rule}
use Rattle.name_text.specs.Seats.{seat_day_of}
use Rattle.rule_text.specs.Written.{WritesRule as WritesMembers}

-- fares

abbrev pub kind_text : FareKind → List ℕ
kind_text O = codes "O"
kind_text R = codes "R"
kind_text S = codes "S"

abbrev pub key_data : FareKey → Data
key_data key =
    object (member (codes "basis") (string key.basis.0) (member (codes "carrier") (string key.carrier.0)
    (member (codes "from") (string key.from.0) (member (codes "to") (string key.to.0) no_members))))

abbrev pub fare_data : Fare → Data
fare_data fare =
    object (member (codes "amount") (number (unsigned fare.amount)) (member (codes "basis") (string fare.key.basis.0)
    (member (codes "carrier") (string fare.key.carrier.0) (member (codes "class") (string ((65 + fare.class) ∷ []))
    (member (codes "from") (string fare.key.from.0) (member (codes "kind") (string (kind_text fare.kind))
    (member (codes "rule") (number (unsigned fare.rule)) (member (codes "to") (string fare.key.to.0) no_members))))))))

-- rules

abbrev pub rule_name_data : Carrier → ℕ → Data
rule_name_data carrier rule =
    object (member (codes "carrier") (string carrier.0) (member (codes "rule") (number (unsigned rule)) no_members))

-- the members of the rule's categories, and with them its carrier and its number
pub record WritesRule (carrier : Carrier) (rule_number : ℕ) (rule : Rule) (d : Data) : Type 0 where
  pub members : Members
  pub rule_is : WritesMembers rule members
  pub written : d ≡ object (put (codes "carrier") (string carrier.0) (put (codes "rule") (number (unsigned rule_number)) members))

-- seats

-- pairs of a class letter and a digit for each class that has a seat, from this letter on
abbrev pub pairs_from : ℕ → List ℕ → List ℕ
pairs_from letter [] = []
pairs_from letter (n ∷ ns) = if n == 0 then pairs_from (suc letter) ns else letter ∷ (48 + n) ∷ pairs_from (suc letter) ns

-- A0 where there is no pair
abbrev pub or_none : List ℕ → List ℕ
or_none [] = codes "A0"
or_none (c ∷ cs) = c ∷ cs

abbrev pub seats_text : List ℕ → List ℕ
seats_text seats = or_none (pairs_from 65 seats)

abbrev pub seat_key_data : SeatKey → List ℕ → Data
seat_key_data key date =
    object (member (codes "carrier") (string key.carrier.0) (member (codes "date") (string date)
    (member (codes "from") (string key.from.0) (member (codes "number") (number (unsigned key.number)) no_members))))

abbrev pub seats_data : SeatKey → List ℕ → List ℕ → Data
seats_data key date seats =
    object (member (codes "carrier") (string key.carrier.0) (member (codes "date") (string date)
    (member (codes "from") (string key.from.0) (member (codes "number") (number (unsigned key.number))
    (member (codes "seats") (string seats) no_members)))))

-- what names a seat row, with the text of its day
pub record WritesSeatKey (key : SeatKey) (d : Data) : Type 0 where
  pub date : List ℕ
  pub day : seat_day_of date ≡ Some key.day
  pub written : d ≡ seat_key_data key date

-- the same with the seats
pub record WritesSeats (key : SeatKey) (seats : List ℕ) (d : Data) : Type 0 where
  pub date : List ℕ
  pub day : seat_day_of date ≡ Some key.day
  pub written : d ≡ seats_data key date (seats_text seats)

-- actions

-- an object of one member
abbrev pub sole : List ℕ → Data → Data
sole name d = object (member name d no_members)

-- an object of one member whose value is of this form
pub record Wraps (name : List ℕ) (form : Data → Type 0) (d : Data) : Type 0 where
  pub inner : Data
  pub formed : form inner
  pub written : d ≡ sole name inner

abbrev pub WritesAction : Action → Data → Type 0
WritesAction (PutFare fare) d = d ≡ sole (codes "put_fare") (fare_data fare)
WritesAction (DropFare key) d = d ≡ sole (codes "drop_fare") (key_data key)
WritesAction (PutRule carrier n rule) d = Wraps (codes "put_rule") (WritesRule carrier n rule) d
WritesAction (DropRule carrier n) d = d ≡ sole (codes "drop_rule") (rule_name_data carrier n)
WritesAction (PutSeats key seats) d = Wraps (codes "put_seats") (WritesSeats key seats) d
WritesAction (DropSeats key) d = Wraps (codes "drop_seats") (WritesSeatKey key) d

-- the actions as JSON, in their order
abbrev pub WritesActions : List Action → Items → Type 0
WritesActions [] no_items = Unit {0}
WritesActions [] (item d ds) = ⊥
WritesActions (a ∷ actions) no_items = ⊥
WritesActions (a ∷ actions) (item d ds) = WritesAction a d × WritesActions actions ds

-- the filing as JSON
pub record WritesFiling (filing : Filing) (d : Data) : Type 0 where
  pub items : Items
  pub actions : WritesActions filing.actions items
  pub written : d ≡ sole (codes "actions") (array items)

-- the compact text of such JSON
pub record Writes (filing : Filing) (text : List ℕ) : Type 0 where
  pub json : Data
  pub filing_is : WritesFiling filing json
  pub compact : text ≡ compact_text json
