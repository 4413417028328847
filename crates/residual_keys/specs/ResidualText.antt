-- The text of a residual: its position, its open units and its ticket part in words, `-` for what is absent.
use Rattle.std.specs.Prelude.{◌≡◌, ◌<◌, ◌^◌, ℕ, ℤ, List, [], ◌∷◌, ◌++◌, map, Option, Some, None, IfSome, codes, decimal}
use Rattle.std.specs.Fmt.{signed_decimal}
use Rattle.std.specs.List.{join_with_byte}
use Rattle.fare_law.specs.Limits.{IsPlace}
use Rattle.fare_law.specs.Lists.{Each}
use Rattle.fare_law.specs.Names.{IsCarrier}
use Rattle.fare_law.specs.declared.names.Place.{Place}
use Rattle.flight_paths.specs.declared.positions.Position.{Position}
use Rattle.open_unit.specs.declared.marks.CarrierMark.{CarrierMark}
use Rattle.open_unit.specs.declared.marks.CarrierMark.TheVariants.{NotYet, One, Mixed}
use Rattle.open_unit.specs.declared.marks.RuleMark.{RuleMark}
use Rattle.open_unit.specs.declared.marks.RuleMark.TheVariants.{One as OneRule, Mixed as MixedRules}
use Rattle.open_unit.specs.declared.units.OpenUnit.{OpenUnit}
use Rattle.residual_keys.specs.declared.parts.TicketPart.{TicketPart}
use Rattle.residual_keys.specs.Kept.{IsResidual}
use Rattle.residual_keys.specs.Residuals.{State}

abbrev pub via_word : Option Place → List ℕ
via_word None = codes "-"
via_word (Some p) = p.0

abbrev pub day_word : Option ℤ → List ℕ
day_word None = codes "-"
day_word (Some day) = signed_decimal day

abbrev pub carriers_word : CarrierMark → List ℕ
carriers_word NotYet = codes "-"
carriers_word (One c) = c.0
carriers_word Mixed = codes "*"

abbrev pub rules_word : RuleMark → List ℕ
rules_word (OneRule n) = decimal n
rules_word MixedRules = codes "*"

-- slice, leg, place, via, and the range of flights
abbrev pub position_words : Position → List (List ℕ)
position_words a = decimal a.slice ∷ decimal a.leg ∷ a.place.0 ∷ via_word a.via ∷ decimal a.lo ∷ decimal a.hi ∷ []

-- what follows the origin: end, count, days, kinds, partner, carrier and rule
abbrev pub unit_words : OpenUnit → List (List ℕ)
unit_words u =
    u.end.0 ∷ decimal u.count ∷ signed_decimal u.first_day ∷ day_word u.least ∷ day_word u.greatest ∷ day_word u.by
    ∷ decimal u.kinds ∷ decimal u.partner ∷ carriers_word u.carrier ∷ rules_word u.rule ∷ []

-- origin>end:count:first:least:greatest:by:kinds:partner:carrier:rule
abbrev pub unit_text : OpenUnit → List ℕ
unit_text u = u.origin.0 ++ 62 ∷ join_with_byte 58 (unit_words u)

-- two units are joined by a slash
abbrev pub units_text : List OpenUnit → List ℕ
units_text [] = codes "-"
units_text (u ∷ us) = join_with_byte 47 (unit_text u ∷ map unit_text us)

-- units:ends:carrier
abbrev pub part_text : TicketPart → List ℕ
part_text t = join_with_byte 58 (decimal t.units ∷ decimal t.ends ∷ carriers_word t.carrier ∷ [])

abbrev pub residual_words : State → List (List ℕ)
residual_words x = position_words x.at ++ units_text x.units ∷ part_text x.part ∷ []

-- The text of a residual: its words with one space between each two.
abbrev pub residual_text : State → List ℕ
residual_text x = join_with_byte 32 (residual_words x)

-- names of their forms, and numbers that fit their fields
pub record IsPosition (a : Position) : Type 0 where
  pub slice : a.slice < 2 ^ 8
  pub leg : a.leg < 2 ^ 8
  pub place : IsPlace a.place
  pub via : IfSome a.via IsPlace
  pub lo : a.lo < 2 ^ 32
  pub hi : a.hi < 2 ^ 32

abbrev pub AreCarriers : CarrierMark → Type 0
AreCarriers NotYet = Unit {0}
AreCarriers (One c) = IsCarrier c
AreCarriers Mixed = Unit {0}

abbrev pub AreRules : RuleMark → Type 0
AreRules (OneRule n) = n < 2 ^ 16
AreRules MixedRules = Unit {0}

pub record IsNamed (u : OpenUnit) : Type 0 where
  pub origin : IsPlace u.origin
  pub end : IsPlace u.end
  pub carrier : AreCarriers u.carrier
  pub rule : AreRules u.rule

-- A residual that has a text of its own.
pub record IsWritten (x : State) : Type 0 where
  pub kept : IsResidual x
  pub at : IsPosition x.at
  pub units : Each IsNamed x.units
  pub carrier : AreCarriers x.part.carrier

-- The text is that of the residual.
pub record Spells (text : List ℕ) (x : State) : Type 0 where
  pub is : IsWritten x
  pub written : text ≡ residual_text x
