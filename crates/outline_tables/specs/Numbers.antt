-- Tables by numbers of outlines.
use Rattle.std.specs.Prelude.{◌≡◌, ℕ, List, filter_map, slice_get, Option, Some, option_map}
use Rattle.fare_law.specs.Book.{Book, live_rule}
use Rattle.fare_law.specs.Lists.{Each}
use Rattle.outline_tables.specs.declared.outline_numbers.Priced.{Priced}
use Rattle.outline_tables.specs.declared.outline_numbers.RuledOutline.{RuledOutline}
use Rattle.outlines.specs.declared.outline.Entry.{Entry}
use Rattle.outlines.specs.declared.outline.Outline.{Outline}

-- an outline with its rule at a price
abbrev pub entry_at : ℕ → RuledOutline → Entry
entry_at price one = record { outline = one.outline; rule = one.rule; price = price }

-- the entry of an outline by its number and a price
abbrev pub entry_of : List RuledOutline → Priced → Option Entry
entry_of known p = option_map (entry_at p.price) (slice_get known p.outline)

-- the entries of a table by numbers
abbrev pub entries_of : List RuledOutline → List Priced → List Entry
entries_of known table = filter_map (entry_of known) table

-- The rule of each outline is the live one of its carrier and number.
abbrev pub AreRuled : Book → List RuledOutline → Type 0
AreRuled b known = Each (λ (one : RuledOutline). live_rule b one.outline.carrier one.outline.number ≡ Some one.rule) known

-- the outline has this number
pub record OutlineStands (known : List RuledOutline) (o : Outline) (number : ℕ) : Type 0 where
  pub one : RuledOutline
  pub stands : slice_get known number ≡ Some one
  pub is : one.outline ≡ o
