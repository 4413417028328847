-- The order of residuals: field by field, absent before present, a prefix of a list before the list.
use Rattle.std.specs.Prelude.{◌≡◌, ◌⊎◌, ℕ, ℤ, ◌<◌, ◌<ℤ◌, List, [], ◌∷◌, Option, Some, None}
use Rattle.fare_law.specs.declared.names.Carrier.{Carrier}
use Rattle.fare_law.specs.declared.names.Place.{Place}
use Rattle.flight_paths.specs.declared.positions.Position.{Position}
use Rattle.open_unit.specs.declared.marks.CarrierMark.{CarrierMark}
use Rattle.open_unit.specs.declared.marks.CarrierMark.TheVariants.{NotYet, One, Mixed}
use Rattle.open_unit.specs.declared.marks.RuleMark.{RuleMark}
use Rattle.open_unit.specs.declared.marks.RuleMark.TheVariants.{One as OneRule, Mixed as MixedRules}
use Rattle.open_unit.specs.declared.units.OpenUnit.{OpenUnit}
use Rattle.residual_keys.specs.declared.parts.TicketPart.{TicketPart}
use Rattle.residual_keys.specs.Residuals.{State}

-- less in this field, or equal in it and less in those that follow
abbrev pub FieldBefore : {X : Type 0} → (X → X → Type 0) → X → X → Type 0 → Type 0
FieldBefore Below x y further = Below x y ⊎ ((x ≡ y) × further)

-- absent before present
abbrev pub OptionBefore : {X : Type 0} → (X → X → Type 0) → Option X → Option X → Type 0
OptionBefore Below None None = ⊥
OptionBefore Below None (Some y) = Unit {0}
OptionBefore Below (Some x) None = ⊥
OptionBefore Below (Some x) (Some y) = Below x y

-- from the left, a prefix of a list before the list
abbrev pub ListBefore : {X : Type 0} → (X → X → Type 0) → List X → List X → Type 0
ListBefore Below [] [] = ⊥
ListBefore Below [] (y ∷ ys) = Unit {0}
ListBefore Below (x ∷ xs) [] = ⊥
ListBefore Below (x ∷ xs) (y ∷ ys) = FieldBefore Below x y (ListBefore Below xs ys)

abbrev pub NumberBefore : ℕ → ℕ → Type 0
NumberBefore m n = m < n

abbrev pub DayBefore : ℤ → ℤ → Type 0
DayBefore d e = d <ℤ e

-- by their letters
abbrev pub PlaceBefore : Place → Place → Type 0
PlaceBefore p r = ListBefore NumberBefore p.0 r.0

abbrev pub CarrierBefore : Carrier → Carrier → Type 0
CarrierBefore c d = ListBefore NumberBefore c.0 d.0

-- none yet before one, one before mixed
abbrev pub CarriersBefore : CarrierMark → CarrierMark → Type 0
CarriersBefore NotYet NotYet = ⊥
CarriersBefore NotYet (One d) = Unit {0}
CarriersBefore NotYet Mixed = Unit {0}
CarriersBefore (One c) NotYet = ⊥
CarriersBefore (One c) (One d) = CarrierBefore c d
CarriersBefore (One c) Mixed = Unit {0}
CarriersBefore Mixed NotYet = ⊥
CarriersBefore Mixed (One d) = ⊥
CarriersBefore Mixed Mixed = ⊥

-- one before mixed
abbrev pub RulesBefore : RuleMark → RuleMark → Type 0
RulesBefore (OneRule m) (OneRule n) = m < n
RulesBefore (OneRule m) MixedRules = Unit {0}
RulesBefore MixedRules (OneRule n) = ⊥
RulesBefore MixedRules MixedRules = ⊥

abbrev pub PositionBefore : Position → Position → Type 0
PositionBefore a c =
    FieldBefore NumberBefore a.slice c.slice
    (FieldBefore NumberBefore a.leg c.leg
    (FieldBefore PlaceBefore a.place c.place
    (FieldBefore (OptionBefore PlaceBefore) a.via c.via
    (FieldBefore NumberBefore a.lo c.lo
    (NumberBefore a.hi c.hi)))))

abbrev pub UnitBefore : OpenUnit → OpenUnit → Type 0
UnitBefore u v =
    FieldBefore PlaceBefore u.origin v.origin
    (FieldBefore PlaceBefore u.end v.end
    (FieldBefore NumberBefore u.count v.count
    (FieldBefore DayBefore u.first_day v.first_day
    (FieldBefore (OptionBefore DayBefore) u.least v.least
    (FieldBefore (OptionBefore DayBefore) u.greatest v.greatest
    (FieldBefore (OptionBefore DayBefore) u.by v.by
    (FieldBefore NumberBefore u.kinds v.kinds
    (FieldBefore NumberBefore u.partner v.partner
    (FieldBefore CarriersBefore u.carrier v.carrier
    (RulesBefore u.rule v.rule))))))))))

abbrev pub PartBefore : TicketPart → TicketPart → Type 0
PartBefore s t =
    FieldBefore NumberBefore s.units t.units
    (FieldBefore NumberBefore s.ends t.ends
    (CarriersBefore s.carrier t.carrier))

-- The order in which the rows of a certificate stand.
abbrev pub StateBefore : State → State → Type 0
StateBefore x y =
    FieldBefore PositionBefore x.at y.at
    (FieldBefore (ListBefore UnitBefore) x.units y.units
    (PartBefore x.part y.part))

-- A strict and total order: nothing is before itself, and of two different things one is before the other.
pub record IsStrictOrder {X : Type 0} (Below : X → X → Type 0) : Type 0 where
  pub never : (x : X) → Below x x → ⊥
  pub trans : (x y z : X) → Below x y → Below y z → Below x z
  pub total : (x y : X) → Below x y ⊎ ((x ≡ y) ⊎ Below y x)
