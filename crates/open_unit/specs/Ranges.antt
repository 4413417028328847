-- The ranges of the numbers of components and of open units.
use Rattle.std.specs.Prelude.{◌≡◌, ◌≢◌, pos, ◌≤◌}
use Rattle.fare_law.specs.declared.tickets.Piece.{Piece}
use Rattle.fare_rules.specs.Ranges.{IsDayWithin, IsStoredDay, StaysInRange}
use Rattle.open_unit.specs.declared.marks.CarrierMark.{CarrierMark}
use Rattle.open_unit.specs.declared.marks.CarrierMark.TheVariants.{NotYet, Mixed}
use Rattle.open_unit.specs.declared.marks.RuleMark.{RuleMark}
use Rattle.open_unit.specs.declared.marks.RuleMark.TheVariants.{Mixed as MixedRules}
use Rattle.open_unit.specs.declared.units.OpenUnit.{OpenUnit}

-- The days of a component and of its sale lie from 0 to 99,000, and its rule has its ranges.
pub record PieceInRanges (p : Piece) : Type 0 where
  pub first_day : IsDayWithin (pos 99000) p.first_day
  pub last_day : IsDayWithin (pos 99000) p.last_day
  pub sale : IsDayWithin (pos 99000) p.sale
  pub rule : StaysInRange p.rule

-- The fares of an open unit have a carrier, and their rule is mixed where the carriers are.
abbrev pub MarksAgree : CarrierMark → RuleMark → Type 0
MarksAgree carrier rule = (carrier ≢ NotYet) × (carrier ≡ Mixed → rule ≡ MixedRules)

-- The numbers and marks that the open unit of a search or of a text may have.
pub record UnitInRanges (u : OpenUnit) : Type 0 where
  pub first : IsDayWithin (pos 99000) u.first_day
  pub least : IsStoredDay u.least
  pub greatest : IsStoredDay u.greatest
  pub by : IsStoredDay u.by
  pub count : (1 ≤ u.count) × (u.count ≤ 3)
  pub kinds : u.kinds ≤ 15
  pub partner : u.partner ≤ 2
  pub marks : MarksAgree u.carrier u.rule
