-- The two places of open units from their list, and comparisons one after another.
use Rattle.std.proofs.Common.{◌≡◌, Option, Some, None, slice_get, Ordering, Less, Equal, Greater, refl}
use Rattle.std.specs.Ordering.{ordering_then, partial_ordering_then}
use Rattle.open_unit.specs.declared.units.OpenUnit.{OpenUnit}
use Rattle.residual_keys.specs.Kept.{InTurn, open_units}

pub slots : (first second : Option OpenUnit) → InTurn first second → (first ≡ slice_get (open_units first second) 0) × (second ≡ slice_get (open_units first second) 1)
slots None second turn = (refl, turn refl)
slots (Some u) None turn = (refl, refl)
slots (Some u) (Some v) turn = (refl, refl)

-- comparisons one after another, from the left and from the right
pub from_left : (a b c d : Ordering) → ordering_then (ordering_then (ordering_then a b) c) d ≡ ordering_then a (ordering_then b (ordering_then c d))
from_left Less b c d = refl
from_left Greater b c d = refl
from_left Equal b c d = two b
  where
    two : (b : Ordering) → ordering_then (ordering_then b c) d ≡ ordering_then b (ordering_then c d)
    two Less = refl
    two Equal = refl
    two Greater = refl

pub partial_from_left : (a b c d : Option Ordering) → partial_ordering_then (partial_ordering_then (partial_ordering_then a b) c) d ≡ partial_ordering_then a (partial_ordering_then b (partial_ordering_then c d))
partial_from_left None b c d = refl
partial_from_left (Some Less) b c d = refl
partial_from_left (Some Greater) b c d = refl
partial_from_left (Some Equal) b c d = two b
  where
    two : (b : Option Ordering) → partial_ordering_then (partial_ordering_then b c) d ≡ partial_ordering_then b (partial_ordering_then c d)
    two None = refl
    two (Some Less) = refl
    two (Some Equal) = refl
    two (Some Greater) = refl
