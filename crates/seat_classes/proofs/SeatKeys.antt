-- Seat keys, compared and tested: each tells whether two keys are equal. What comparisons tell is given on to the crates above.
use Rattle.std.proofs.Common.{◌≡◌, ◌&&◌, ℕ, ℤ, true, List, Option, Some, None, Decides, refl, ap, sym, ◌∙◌}
use Rattle.std.specs.Cmp.{IsEquivalence}
use Rattle.std.specs.Cmp.Lexicographic.{slice_cmp}
use Rattle.std.specs.Option.{option_cmp}
use Rattle.std.specs.Ordering.{MatchOrdering, int_cmp, is_eq, nat_cmp, ordering_then}
use Rattle.std.specs.declared.cmp.Ordering.{Ordering}
use Rattle.std.specs.declared.cmp.Ordering.TheVariants.{Less as Lower, Equal, Greater}
use Rattle.std.proofs.lemmas.Bool.Decides.{Decides-like, same_from_decides}
use Rattle.std.proofs.lemmas.Cmp.{int_cmp_total, int_ranked, nat_cmp_total, nat_list_cmp_total, ranked, tied_itself}
use Rattle.seat_classes.specs.Names.{compare_letters, flight_code, names_total, place_code}
use Rattle.seat_classes.specs.contracts.row_name.RowNameOrd.TheImpl as name
use Rattle.fare_law.specs.declared.filings.SeatKey.{SeatKey}
use Rattle.fare_law.specs.Book.{same_seat_key}
use Rattle.law_lemmas.proofs.Names.{carrier_whole, place_whole, same_seats_tell, seat_key_whole}
use Rattle.law_lemmas.proofs.Words.{words_told}

-- ---- what an answer of equal tells
told_equal : (A B C : Type 0) (o : Ordering) → MatchOrdering o A B C → is_eq o ≡ true → B
told_equal A B C Lower k t = absurd (cc)
told_equal A B C Equal k t = k
told_equal A B C Greater k t = absurd (cc)

pub words_tell : (v w : List ℕ) → Decides (is_eq (slice_cmp nat_cmp v w)) (v ≡ w)
words_tell v w = (told_equal _ _ _ (slice_cmp nat_cmp v w) (words_told v w), λ e. ap is_eq (ap (slice_cmp nat_cmp v) (sym e) ∙ tied_itself nat_list_cmp_total v))

pub numbers_tell : (m n : ℕ) → Decides (is_eq (nat_cmp m n)) (m ≡ n)
numbers_tell m n = (told_equal _ _ _ (nat_cmp m n) (ranked m n (nat_cmp m n) refl), λ e. ap is_eq (ap (nat_cmp m) (sym e) ∙ tied_itself nat_cmp_total m))

ints_tell : (m n : ℤ) → Decides (is_eq (int_cmp m n)) (m ≡ n)
ints_tell m n = (told_equal _ _ _ (int_cmp m n) (int_ranked m n (int_cmp m n) refl), λ e. ap is_eq (ap (int_cmp m) (sym e) ∙ tied_itself int_cmp_total m))

days_tell : (a b : Option ℤ) → Decides (is_eq (option_cmp int_cmp a b)) (a ≡ b)
days_tell None None = (λ _. refl, λ _. refl)
days_tell None (Some y) = (λ h. absurd (cc), λ h. absurd (cc))
days_tell (Some x) None = (λ h. absurd (cc), λ h. absurd (cc))
days_tell (Some x) (Some y) = Decides-like _ (λ e. ap Some e) one (ints_tell x y)
  where
    one : Some x ≡ Some y → x ≡ y
    one e = cc

pub then_eq : (o r : Ordering) → is_eq (ordering_then o r) ≡ (is_eq o && is_eq r)
then_eq Lower r = refl
then_eq Equal r = refl
then_eq Greater r = refl

both_tied : (o r : Ordering) → is_eq (ordering_then o r) ≡ true → (is_eq o ≡ true) × (is_eq r ≡ true)
both_tied Lower r t = absurd (cc)
both_tied Equal r t = (refl, t)
both_tied Greater r t = absurd (cc)

-- ---- keys
keys_tell : (a b : SeatKey) → Decides (is_eq (name.ghosts.cmp a b)) (a ≡ b)
keys_tell a b = (whole, λ e. ap is_eq (ap (name.ghosts.cmp a) (sym e) ∙ tied_itself names_total a))
  where
    by_letters : is_eq (option_cmp int_cmp a.day b.day) ≡ true → is_eq (compare_letters a b) ≡ true → a ≡ b
    by_letters day tied =
        let letters = both_tied (slice_cmp nat_cmp a.carrier.0 b.carrier.0) (ordering_then (nat_cmp a.number b.number) (slice_cmp nat_cmp a.from.0 b.from.0)) tied in
        let rest = both_tied (nat_cmp a.number b.number) (slice_cmp nat_cmp a.from.0 b.from.0) letters.1 in
        seat_key_whole a b (carrier_whole _ _ ((words_tell a.carrier.0 b.carrier.0).0 letters.0)) ((numbers_tell a.number b.number).0 rest.0) (place_whole _ _ ((words_tell a.from.0 b.from.0).0 rest.1)) ((days_tell a.day b.day).0 day)

    whole : is_eq (name.ghosts.cmp a b) ≡ true → a ≡ b
    whole tied =
        let days = ordering_then (option_cmp int_cmp a.day b.day) (compare_letters a b) in
        let places = both_tied (nat_cmp (flight_code a) (flight_code b)) (ordering_then (nat_cmp (place_code a) (place_code b)) days) tied in
        let rest = both_tied (option_cmp int_cmp a.day b.day) (compare_letters a b) (both_tied (nat_cmp (place_code a) (place_code b)) days places.1).1 in
        by_letters rest.0 rest.1

-- comparing as equal is the law's test
pub keys_compared : (λ (a b : SeatKey). is_eq (name.ghosts.cmp a b)) ≡ same_seat_key
keys_compared = λ i a b. same_from_decides (is_eq (name.ghosts.cmp a b)) (same_seat_key a b) (keys_tell a b) (same_seats_tell a b) i

-- a key that compares as lower than another is not the other
pub lower_differs : (a b : SeatKey) → name.ghosts.cmp a b ≡ Lower → a ≡ b → ⊥
lower_differs a b l e = clash (sym (ap is_eq l) ∙ (keys_tell a b).1 e)
  where
    clash : is_eq Lower ≡ true → ⊥
    clash h = cc

pub same_flips : (a b : SeatKey) → same_seat_key a b ≡ same_seat_key b a
same_flips a b = same_from_decides (same_seat_key a b) (same_seat_key b a) (same_seats_tell a b) (Decides-like _ (λ e. sym e) (λ e. sym e) (same_seats_tell b a))

pub same_equivalence : IsEquivalence same_seat_key
same_equivalence = record {
  refl = λ x. (same_seats_tell x x).1 refl;
  symm = same_flips;
  congr = λ x y z e. ap (λ w. same_seat_key w z) ((same_seats_tell x y).0 e);
}
