-- Names of rows in their order: letters tie where their numbers do.
use Rattle.std.proofs.Common.{◌≡◌, ◌<◌, ◌+◌, ◌*◌, ℕ, List, length, get_or, zero, suc, refl, ap, sym, ◌∙◌, arith}
use Rattle.std.proofs.lemmas.Cmp.{nat_cmp_total, nat_list_cmp_total, tied_itself}
use Rattle.std.proofs.lemmas.Map.Lookups.{exact_unsigned}
use Rattle.std.proofs.lemmas.Grind.{same_number_lists}
use Rattle.std.specs.Cmp.Lexicographic.{slice_cmp}
use Rattle.std.specs.Option.{option_cmp}
use Rattle.std.specs.Ordering.{int_cmp, nat_cmp, ordering_then}
use Rattle.std.specs.declared.cmp.Ordering.{Ordering}
use Rattle.std.specs.declared.cmp.Ordering.TheVariants.{Less as Lower, Equal, Greater}
use Rattle.fare_law.specs.declared.filings.SeatKey.{SeatKey}
use Rattle.seat_classes.specs.Names.{AreBytes, compare_letters, compare_names, flight_code, place_code}

two_same : (v w : List ℕ) → AreBytes 2 v → AreBytes 2 w → get_or v 0 0 ≡ get_or w 0 0 → get_or v 1 0 ≡ get_or w 1 0 → v ≡ w
two_same v w p q first second = same_number_lists v w (omega (arith, p.0, q.0)) at
  where
    at : (k : ℕ) → k < length v → get_or v k 0 ≡ get_or w k 0
    at zero l = first
    at (suc zero) l = second
    at (suc (suc k)) l = absurd (omega (arith, l, p.0))

three_same : (v w : List ℕ) → AreBytes 3 v → AreBytes 3 w → get_or v 0 0 ≡ get_or w 0 0 → get_or v 1 0 ≡ get_or w 1 0 → get_or v 2 0 ≡ get_or w 2 0 → v ≡ w
three_same v w p q first second third = same_number_lists v w (omega (arith, p.0, q.0)) at
  where
    at : (k : ℕ) → k < length v → get_or v k 0 ≡ get_or w k 0
    at zero l = first
    at (suc zero) l = second
    at (suc (suc zero)) l = third
    at (suc (suc (suc k))) l = absurd (omega (arith, l, p.0))

-- ---- two bytes and a number that make one number
module _ (a b c d m n : ℕ) (la : a < 256) (lb : b < 256) (lc : c < 256) (ld : d < 256) (e : a + 256 * b + 65536 * m ≡ c + 256 * d + 65536 * n) where
  highest : m ≡ n
  highest = omega (arith, la, lb, lc, ld, e)

  middle : b ≡ d
  middle = omega (arith, la, lb, lc, ld, e)

  lowest : a ≡ c
  lowest = omega (arith, la, lb, lc, ld, e)

then_equal : (o p : Ordering) → o ≡ Equal → ordering_then o p ≡ p
then_equal o p e = ap (λ x. ordering_then x p) e

before_equal : (o p : Ordering) → p ≡ Equal → ordering_then o p ≡ o
before_equal Lower p e = refl
before_equal Equal p e = e
before_equal Greater p e = refl

-- of names with the same numbers, the days are compared and nothing else
module _ (a b : SeatKey) (ac : AreBytes 2 a.carrier.0) (bc : AreBytes 2 b.carrier.0) (af : AreBytes 3 a.from.0) (bf : AreBytes 3 b.from.0)
    (flights : nat_cmp (flight_code a) (flight_code b) ≡ Equal) (places : nat_cmp (place_code a) (place_code b) ≡ Equal) where
  flight : flight_code a ≡ flight_code b
  flight = exact_unsigned (flight_code a) (flight_code b) flights

  place : place_code a ≡ place_code b
  place = exact_unsigned (place_code a) (place_code b) places

  carriers : a.carrier.0 ≡ b.carrier.0
  carriers = two_same a.carrier.0 b.carrier.0 ac bc (lowest _ _ _ _ _ _ (ac.1 0) (ac.1 1) (bc.1 0) (bc.1 1) flight) (middle _ _ _ _ _ _ (ac.1 0) (ac.1 1) (bc.1 0) (bc.1 1) flight)

  numbers : a.number ≡ b.number
  numbers = highest _ _ _ _ _ _ (ac.1 0) (ac.1 1) (bc.1 0) (bc.1 1) flight

  origins : a.from.0 ≡ b.from.0
  origins =
      three_same a.from.0 b.from.0 af bf (lowest _ _ _ _ _ _ (af.1 0) (af.1 1) (bf.1 0) (bf.1 1) place) (middle _ _ _ _ _ _ (af.1 0) (af.1 1) (bf.1 0) (bf.1 1) place)
      (highest _ _ _ _ _ _ (af.1 0) (af.1 1) (bf.1 0) (bf.1 1) place)

  letters_tie : compare_letters a b ≡ Equal
  letters_tie =
      then_equal _ _ (ap (slice_cmp nat_cmp a.carrier.0) (sym carriers) ∙ tied_itself nat_list_cmp_total a.carrier.0)
      ∙ then_equal _ _ (ap (nat_cmp a.number) (sym numbers) ∙ tied_itself nat_cmp_total a.number)
      ∙ (ap (slice_cmp nat_cmp a.from.0) (sym origins) ∙ tied_itself nat_list_cmp_total a.from.0)

  pub days_left : compare_names a b ≡ option_cmp int_cmp a.day b.day
  days_left = then_equal _ _ flights ∙ then_equal _ _ places ∙ before_equal _ _ letters_tie
