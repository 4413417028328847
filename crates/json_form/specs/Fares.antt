-- The fare that a JSON value spells.
use Rattle.std.specs.Prelude.{ℕ, List, bytes_eq, if◌then◌else◌, Option, Some, None, option_and_then, codes}
use Rattle.serde_json.specs.Data.{Data}
use Rattle.fare_law.specs.declared.fares.Fare.{Fare}
use Rattle.fare_law.specs.declared.fares.FareKey.{FareKey}
use Rattle.fare_law.specs.declared.fares.FareKind.{FareKind}
use Rattle.fare_law.specs.declared.fares.FareKind.TheVariants.{O, R, S}
use Rattle.json_form.specs.Members.{has_members, text_at, between_at, place_at, carrier_at, basis_at, class_at}

-- one thing after another, as long as each is there
infixl 10 ◌>>=◌
abbrev pub ◌>>=◌ : {A B : Type 0} → Option A → (A → Option B) → Option B
o >>= f = option_and_then f o

-- what names a fare: the members carrier, from, to and basis
abbrev pub fare_key : Data → Option FareKey
fare_key d = do
  carrier ← carrier_at (codes "carrier") d
  from ← place_at (codes "from") d
  to ← place_at (codes "to") d
  basis ← basis_at (codes "basis") d
  Some (record { carrier = carrier; from = from; to = to; basis = basis })

abbrev pub kind_of : List ℕ → Option FareKind
kind_of text =
    if bytes_eq text (codes "O") then Some O
    else if bytes_eq text (codes "R") then Some R
    else if bytes_eq text (codes "S") then Some S
    else None

abbrev pub kind_at : Data → Option FareKind
kind_at d = option_and_then kind_of (text_at (codes "kind") d)

-- the fare of an object with exactly the members of a fare, each within its limits
unfoldable pub fare_spelled : Data → Option Fare
fare_spelled d = if has_members 8 d then (do
  key ← fare_key d
  class ← class_at (codes "class") d
  kind ← kind_at d
  amount ← between_at (codes "amount") 0 1000000000 d
  rule ← between_at (codes "rule") 0 9999 d
  Some (record { key = key; class = class; kind = kind; amount = amount; rule = rule })) else None
