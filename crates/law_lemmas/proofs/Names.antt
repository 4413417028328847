-- Places, carriers and other names of the trade. Given on to the crates above.
use Rattle.fare_law.specs.contracts.requests.SlicePartialEq.TheImpl as slice
use Rattle.std.proofs.Common.{Decides, None, Option, Some, ap, refl, ℤ, ◌≡◌}
use Rattle.fare_law.proofs.SameNames.{places_tell}
use Rattle.fare_law.specs.Book.{same_day, same_place, same_seat_key}
use Rattle.fare_law.specs.Limits.{IsPlace}
use Rattle.fare_law.specs.Names.{IsCarrier}
use Rattle.fare_law.specs.declared.filings.SeatKey.{SeatKey}
use Rattle.fare_law.specs.declared.names.Carrier.{Carrier}
use Rattle.fare_law.specs.declared.names.Place.{Place}
use Rattle.fare_law.specs.declared.requests.Slice.{Slice}
use Rattle.law_lemmas.proofs.Words.{capitals_are_ascii, characters_are_ascii}
use Rattle.std.proofs.lemmas.Bool.Decides.{Decides-and, Decides-eqb, Decides-int_eq, Decides-like}
use Rattle.std.proofs.lemmas.Slice.Eq.{bytes_eq-Decides}
use Rattle.std.specs.Str.{IsAscii}

pub carrier_is_ascii : (c : Carrier) → IsCarrier c → IsAscii c.0
carrier_is_ascii c h = characters_are_ascii c.0 h.1

pub carrier_whole : (a b : Carrier) → a.0 ≡ b.0 → a ≡ b
carrier_whole a b e = λ i. record { 0 = e i }

pub place_is_ascii : (p : Place) → IsPlace p → IsAscii p.0
place_is_ascii p h = capitals_are_ascii p.0 h.1

pub place_whole : (a b : Place) → a.0 ≡ b.0 → a ≡ b
place_whole a b e = λ i. record { 0 = e i }

pub places_told : (a b : Place) → Decides (same_place a b) (a ≡ b)
places_told a b = Decides-like _ (place_whole a b) (λ e. ap (λ x. x.0) e) (bytes_eq-Decides a.0 b.0)

pub same_days_tell : (a b : Option ℤ) → Decides (same_day a b) (a ≡ b)
same_days_tell None None = (λ _. refl, λ _. refl)
same_days_tell None (Some y) = (λ h. absurd (cc), λ h. absurd (cc))
same_days_tell (Some x) None = (λ h. absurd (cc), λ h. absurd (cc))
same_days_tell (Some x) (Some y) = Decides-like _ (λ e. ap Some e) one (Decides-int_eq x y)
  where
    one : Some x ≡ Some y → x ≡ y
    one e = cc

pub seat_key_whole : (a b : SeatKey) → a.carrier ≡ b.carrier → a.number ≡ b.number → a.from ≡ b.from → a.day ≡ b.day → a ≡ b
seat_key_whole a b c n f d = λ i. record { carrier = c i; number = n i; from = f i; day = d i }

pub same_seats_tell : (a b : SeatKey) → Decides (same_seat_key a b) (a ≡ b)
same_seats_tell a b =
    Decides-like _ (λ e. seat_key_whole a b (carrier_whole _ _ e.0.0.0) e.0.0.1 (place_whole _ _ e.0.1) e.1)
    (λ e. (((ap (λ x. x.carrier.0) e, ap (λ x. x.number) e), ap (λ x. x.from.0) e), ap (λ x. x.day) e))
    (Decides-and _ _ (Decides-and _ _ (Decides-and _ _ (bytes_eq-Decides a.carrier.0 b.carrier.0) (Decides-eqb a.number b.number)) (bytes_eq-Decides a.from.0 b.from.0)) (same_days_tell a.day b.day))

pub slices_tell : (a b : Slice) → Decides (slice.ghosts.eq a b) (a ≡ b)
slices_tell a b =
    Decides-like _ (λ e. whole e.0 e.1.0 e.1.1.0 e.1.1.1) (λ e. (ap (λ x. x.from) e, (ap (λ x. x.to) e, (ap (λ x. x.first) e, ap (λ x. x.days) e))))
    (Decides-and _ _ (places_tell a.from b.from) (Decides-and _ _ (places_tell a.to b.to) (Decides-and _ _ (Decides-int_eq a.first b.first) (Decides-eqb a.days b.days))))
  where
    whole : a.from ≡ b.from → a.to ≡ b.to → a.first ≡ b.first → a.days ≡ b.days → a ≡ b
    whole f t d n = λ i. record { from = f i; to = t i; first = d i; days = n i }
