-- Names that are written are read again.
use Rattle.std.specs.Prelude.{◌≡◌, ◌+◌, ℕ, [], ◌∷◌, Some}
use Rattle.fare_law.specs.Limits.{IsClass, IsPlace}
use Rattle.fare_law.specs.Names.{IsBasis, IsCarrier}
use Rattle.fare_law.specs.declared.names.Basis.{Basis}
use Rattle.fare_law.specs.declared.names.Carrier.{Carrier}
use Rattle.fare_law.specs.declared.names.Place.{Place}
use Rattle.name_text.specs.Names.{place_of, carrier_of, basis_of, class_of}

-- a name of its form is read again from its characters, and a class from its letter
pub record NamesReadAgain : Type 0 where
  pub places : (p : Place) → IsPlace p → place_of p.0 ≡ Some p
  pub carriers : (c : Carrier) → IsCarrier c → carrier_of c.0 ≡ Some c
  pub bases : (b : Basis) → IsBasis b → basis_of b.0 ≡ Some b
  pub classes : (class : ℕ) → IsClass class → class_of ((65 + class) ∷ []) ≡ Some class
