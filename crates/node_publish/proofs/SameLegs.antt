-- Tests of legs tell whether they are equal.
use Rattle.std.proofs.Common.{◌≡◌, Decides, ap}
use Rattle.std.proofs.lemmas.Bool.Decides.{Decides-like, Decides-and, Decides-eqb, Decides-int_eq}
use Rattle.fare_law.specs.contracts.flights.FlightPartialEq.TheImpl as flight
use Rattle.fare_law.specs.contracts.sheets.LegPartialEq.TheImpl as leg
use Rattle.fare_law.specs.declared.flights.Flight.{Flight}
use Rattle.fare_law.specs.declared.sheets.Leg.{Leg}
use Rattle.fare_law.proofs.SameNames.{carriers_tell, places_tell}

flights_tell : (a b : Flight) → Decides (flight.ghosts.eq a b) (a ≡ b)
flights_tell a b =
    Decides-like _ (λ e. whole e.0 e.1.0 e.1.1.0 e.1.1.1.0 e.1.1.1.1.0 e.1.1.1.1.1.0 e.1.1.1.1.1.1.0 e.1.1.1.1.1.1.1)
    (λ e. (ap (λ x. x.dep) e, (ap (λ x. x.arr) e, (ap (λ x. x.day) e, (ap (λ x. x.minute) e, (ap (λ x. x.number) e, (ap (λ x. x.carrier) e, (ap (λ x. x.from) e, ap (λ x. x.to) e))))))))
    (Decides-and _ _ (Decides-int_eq a.dep b.dep) (Decides-and _ _ (Decides-int_eq a.arr b.arr) (Decides-and _ _ (Decides-int_eq a.day b.day) (Decides-and _ _ (Decides-eqb a.minute b.minute)
    (Decides-and _ _ (Decides-eqb a.number b.number) (Decides-and _ _ (carriers_tell a.carrier b.carrier) (Decides-and _ _ (places_tell a.from b.from) (places_tell a.to b.to))))))))
  where
    whole : a.dep ≡ b.dep → a.arr ≡ b.arr → a.day ≡ b.day → a.minute ≡ b.minute → a.number ≡ b.number → a.carrier ≡ b.carrier → a.from ≡ b.from → a.to ≡ b.to → a ≡ b
    whole x y d m n c f t = λ i. record { carrier = c i; number = n i; from = f i; to = t i; day = d i; minute = m i; dep = x i; arr = y i }

pub legs_tell : (a b : Leg) → Decides (leg.ghosts.eq a b) (a ≡ b)
legs_tell a b =
    Decides-like _ (λ e. whole e.0 e.1) (λ e. (ap (λ x. x.flight) e, ap (λ x. x.classes) e)) (Decides-and _ _ (flights_tell a.flight b.flight) (Decides-eqb a.classes b.classes))
  where
    whole : a.flight ≡ b.flight → a.classes ≡ b.classes → a ≡ b
    whole f c = λ i. record { flight = f i; classes = c i }
