-- Tests of places and carriers tell whether they are equal. Given on to the crates above.
use Rattle.std.proofs.Common.{◌≡◌, Decides, ap}
use Rattle.std.specs.Cmp.Lexicographic.{bytes_decides}
use Rattle.std.proofs.lemmas.Bool.Decides.{Decides-like}
use Rattle.fare_law.specs.contracts.names.CarrierPartialEq.TheImpl as carrier
use Rattle.fare_law.specs.contracts.names.PlacePartialEq.TheImpl as place
use Rattle.fare_law.specs.declared.names.Carrier.{Carrier}
use Rattle.fare_law.specs.declared.names.Place.{Place}

pub carriers_tell : (a b : Carrier) → Decides (carrier.ghosts.eq a b) (a ≡ b)
carriers_tell a b = Decides-like _ (λ (e : a.0 ≡ b.0). whole e) (λ e. ap (λ x. x.0) e) (bytes_decides a.0 b.0)
  where
    whole : a.0 ≡ b.0 → a ≡ b
    whole e = λ i. record { 0 = e i }

pub places_tell : (a b : Place) → Decides (place.ghosts.eq a b) (a ≡ b)
places_tell a b = Decides-like _ (λ (e : a.0 ≡ b.0). whole e) (λ e. ap (λ x. x.0) e) (bytes_decides a.0 b.0)
  where
    whole : a.0 ≡ b.0 → a ≡ b
    whole e = λ i. record { 0 = e i }
