-- Keys of residuals that are read.
use Rattle.std.specs.Prelude.{◌≡◌, ◌++◌, ℕ, List, Option, Some, IfSome, slice_get}
use Rattle.flight_paths.specs.declared.positions.Position.{Position}
use Rattle.open_unit.specs.declared.units.OpenUnit.{OpenUnit}
use Rattle.open_unit.specs.Ranges.{UnitInRanges}
use Rattle.residual_keys.specs.declared.parts.TicketPart.{TicketPart}
use Rattle.residual_keys.specs.Kept.{InTurn, PartKept}
use Rattle.residual_keys.specs.ResidualReading.{part_in, position_in, unit_in, units_in}
use Rattle.residual_table.specs.declared.known.KnownPosition.{KnownPosition}
use Rattle.residual_table.specs.declared.known.KnownUnit.{KnownUnit}
use Rattle.residual_table.specs.Keys.{IsSlot, Tables}
use Rattle.word_text.specs.Words.{cut_last_at}

-- The text begins with the position of this number, and the rest follows it after a space.
pub record HasPosition (t : Tables) (text : List ℕ) (n : ℕ) (rest : List ℕ) : Type 0 where
  pub at : Position
  pub spelled : position_in text ≡ Some (at, rest)
  pub number : slice_get t.positions n ≡ Some at

-- The text is that of the open unit of this slot.
pub record HasUnit (t : Tables) (text : List ℕ) (slot : ℕ) : Type 0 where
  pub unit : OpenUnit
  pub spelled : unit_in text ≡ Some unit
  pub number : IsSlot t.units slot (Some unit)

-- The text is that of the open units of these slots, of which one or both may be of none.
pub record HasSlots (t : Tables) (text : List ℕ) (first second : ℕ) : Type 0 where
  pub one : Option OpenUnit
  pub other : Option OpenUnit
  pub spelled : units_in text ≡ Some (one, other)
  pub turn : InTurn one other
  pub one_slot : IsSlot t.units first one
  pub other_slot : IsSlot t.units second other

-- After the last space of the text stands that of the ticket part, and this before it.
pub record HasPart (text before : List ℕ) (part : TicketPart) : Type 0 where
  pub word : List ℕ
  pub cut : cut_last_at 32 text ≡ Some (before, word)
  pub spelled : part_in word ≡ Some part
  pub kept : PartKept part

-- After the last space of the text stands that of no ticket part within its ranges.
abbrev pub NoPart : List ℕ → Type 0
NoPart text = (words : List ℕ × List ℕ) (part : TicketPart) → cut_last_at 32 text ≡ Some words → part_in words.1 ≡ Some part → PartKept part → ⊥

-- The text is that of no open unit within its ranges.
abbrev pub NoUnit : List ℕ → Type 0
NoUnit text = (u : OpenUnit) → unit_in text ≡ Some u → UnitInRanges u → ⊥

-- The text is not that of none, of one or of two open units within their ranges.
abbrev pub NoUnits : List ℕ → Type 0
NoUnits text = (one other : Option OpenUnit) → units_in text ≡ Some (one, other) → IfSome one UnitInRanges → IfSome other UnitInRanges → ⊥

-- What is known of a position holds, whatever follows its text.
abbrev pub IsKnownPosition : Tables → KnownPosition → Type 0
IsKnownPosition t k = (rest : List ℕ) → HasPosition t (k.text.items ++ rest) k.number rest

-- What is known of an open unit holds.
abbrev pub IsKnownUnit : Tables → KnownUnit → Type 0
IsKnownUnit t k = HasUnit t k.text.items k.slot
