-- Pairs of a class letter and a digit, taken from the last one on.
use Rattle.std.proofs.Common.{◌≡◌, ◌⊎◌, ◌<◌, ◌≤◌, ◌+◌, ◌-◌, ◌*◌, ◌/◌, ◌%◌, ℕ, zero, suc, Bool, true, false, ◌&&◌, ◌||◌, not, cond, List, [], ◌∷◌, length, drop, get_or, set, replicate, Option, Some, None, option_map, refl, ap, ap₂, sym, ◌∙◌, arith, subst, eqb, eq-eqb, ne_eqb, inl, inr}
use Rattle.std.proofs.lemmas.Bool.{cases_eq}
use Rattle.std.proofs.lemmas.Bool.Decides.{nat_tests}
use Rattle.std.proofs.lemmas.List.{get_or-set_same, get_or-set_other, length-set}
use Rattle.std.specs.Char.{is_ascii_digit, is_ascii_uppercase}
use Rattle.fare_law.specs.Limits.{AreSeats}
use Rattle.name_text.specs.Seats.{names_class, seats_in}
use Rattle.name_text.proofs.SeatLemmas.{no_seats, one_more_class}

-- what is known of the pairs from a place on: their seats, and the classes that they name
pub record From (text : List ℕ) (i : ℕ) (named : List Bool) (seats : List ℕ) : Type 0 where
  pub read : seats_in (drop (2 * i) text) ≡ Some seats
  pub limits : AreSeats seats
  pub many : length named ≡ 32
  pub names : (c : ℕ) → is_ascii_uppercase c ≡ true → get_or named (c - 65) false ≡ names_class c (drop (2 * i) text)

-- whether a pair may come before these
abbrev may_come : ℕ → ℕ → List ℕ → Bool
may_come c d rest = is_ascii_uppercase c && is_ascii_digit d && not (names_class c rest)

abbrev with_pair : ℕ → ℕ → Bool → Option (List ℕ) → Option (List ℕ)
with_pair c d may seats = cond may (option_map (λ seats. set seats (c - 65) (d - 48)) seats) None

none_more : (c d : ℕ) (may : Bool) → with_pair c d may None ≡ None
none_more c d true = refl
none_more c d false = refl

twice : (i : ℕ) → suc (suc (2 * i)) ≡ 2 * suc i
twice i = omega arith

-- where some of the last pairs are none, all are none
none_before : (text : List ℕ) (i : ℕ) → seats_in (drop (2 * i) text) ≡ None → seats_in text ≡ None
none_before text zero h = h
none_before [] (suc i) h = subst (λ k. seats_in (drop k []) ≡ None) (sym (twice i)) h
none_before (c ∷ []) (suc i) h = refl
none_before (c ∷ d ∷ rest) (suc i) h =
    ap (with_pair c d (may_come c d rest)) (none_before rest i (subst (λ k. seats_in (drop k (c ∷ d ∷ rest)) ≡ None) (sym (twice i)) h)) ∙ none_more c d (may_come c d rest)

two_at : (k : ℕ) (text : List ℕ) → suc k < length text → drop k text ≡ get_or text k 0 ∷ get_or text (suc k) 0 ∷ drop (suc (suc k)) text
two_at k [] l = absurd (omega (arith, l))
two_at zero (c ∷ []) l = absurd (omega (arith, l))
two_at zero (c ∷ d ∷ rest) l = refl
two_at (suc k) (c ∷ text) l = two_at k text (omega (arith, l))

pair_at : (text : List ℕ) (i : ℕ) → 0 < i → i ≤ length text / 2 → drop (2 * (i - 1)) text ≡ get_or text (2 * (i - 1)) 0 ∷ get_or text (2 * (i - 1) + 1) 0 ∷ drop (2 * i) text
pair_at text i p l = two_at (2 * (i - 1)) text (omega (arith, p, l)) ∙ ap₂ (λ n m. get_or text (2 * (i - 1)) 0 ∷ get_or text n 0 ∷ drop m text) (next i) (after i p)
  where
    next : (i : ℕ) → suc (2 * (i - 1)) ≡ 2 * (i - 1) + 1
    next i = omega arith

    after : (i : ℕ) → 0 < i → suc (suc (2 * (i - 1))) ≡ 2 * i
    after i p = omega (arith, p)

-- a text of an odd length has no seats
pub odd : (text : List ℕ) → length text % 2 ≡ 1 → None ≡ seats_in text
odd [] l = absurd (omega (arith, l))
odd (c ∷ []) l = refl
odd (c ∷ d ∷ rest) l = sym (ap (with_pair c d (may_come c d rest)) (sym (odd rest (omega (arith, l)))) ∙ none_more c d (may_come c d rest))

module _ (text : List ℕ) (i : ℕ) (p : 0 < i) (l : i ≤ length text / 2) where
  abbrev letter : ℕ
  letter = get_or text (2 * (i - 1)) 0

  abbrev digit : ℕ
  digit = get_or text (2 * (i - 1) + 1) 0

  abbrev rest : List ℕ
  rest = drop (2 * i) text

  refused : may_come letter digit rest ≡ false → None ≡ seats_in text
  refused h = sym (none_before text (i - 1) (ap seats_in (pair_at text i p l) ∙ ap (λ may. with_pair letter digit may (seats_in rest)) h))

  pub bad_letter : is_ascii_uppercase letter ≡ false → None ≡ seats_in text
  bad_letter h = refused (ap (λ b. b && is_ascii_digit digit && not (names_class letter rest)) h)

  pub bad_digit : is_ascii_digit digit ≡ false → None ≡ seats_in text
  bad_digit h = refused (ap (λ b. is_ascii_uppercase letter && b && not (names_class letter rest)) h ∙ by (is_ascii_uppercase letter))
    where
      by : (b : Bool) → (b && false && not (names_class letter rest)) ≡ false
      by true = refl
      by false = refl

  module _ (named : List Bool) (seats : List ℕ) (from : From text i named seats) (upper : is_ascii_uppercase letter ≡ true) (decimal : is_ascii_digit digit ≡ true) where
    pub named_twice : get_or named (letter - 65) false ≡ true → None ≡ seats_in text
    named_twice h = refused (ap₂ (λ a b. a && b && not (names_class letter rest)) upper decimal ∙ ap not (sym (from.names letter upper) ∙ h))

    pub one_more : get_or named (letter - 65) false ≡ false → From text (i - 1) (set named (letter - 65) true) (set seats (letter - 65) (digit - 48))
    one_more h = record {
      read =
          ap seats_in (pair_at text i p l)
          ∙ ap₂ (with_pair letter digit) (ap₂ (λ a b. a && b && not (names_class letter rest)) upper decimal ∙ ap not (sym (from.names letter upper) ∙ h)) from.read;
      limits = one_more_class seats letter digit from.limits upper decimal;
      many = length-set named (letter - 65) true ∙ from.many;
      names = λ c u. names_one c u (cases_eq letter c) ∙ sym (ap (names_class c) (pair_at text i p l));
    }
      where
        in_range : (c : ℕ) → is_ascii_uppercase c ≡ true → (65 ≤ c) × (c ≤ 90)
        in_range c e = (grind (arith, nat_tests), grind (arith, nat_tests))

        names_one : (c : ℕ) → is_ascii_uppercase c ≡ true → (letter ≡ c) ⊎ (letter ≡ c → ⊥) → get_or (set named (letter - 65) true) (c - 65) false ≡ (eqb letter c || names_class c rest)
        names_one c u (inl e) =
            ap (λ k. get_or (set named (letter - 65) true) (k - 65) false) (sym e) ∙ get_or-set_same named (letter - 65) true false (let r = in_range letter upper in omega (arith, r.1, from.many)) ∙ sym (ap (λ b. b || names_class c rest) (eq-eqb letter c e))
        names_one c u (inr ne) =
            get_or-set_other named (letter - 65) (c - 65) true false (λ e. ne (apart (in_range letter upper) (in_range c u) e)) ∙ from.names c u ∙ sym (ap (λ b. b || names_class c rest) (ne_eqb letter c ne))
          where
            apart : (65 ≤ letter) × (letter ≤ 90) → (65 ≤ c) × (c ≤ 90) → c - 65 ≡ letter - 65 → letter ≡ c
            apart a b e = omega (arith, a.0, b.0, e)

-- before any pair is taken of a text of even length
pub none_taken : (text : List ℕ) → (length text % 2 ≡ 1 → ⊥) → From text (length text / 2) (replicate 32 false) (replicate 32 0)
none_taken text even = record {
  read = ap seats_in (all_dropped text (2 * (length text / 2)) (omega (arith, even)));
  limits = no_seats;
  many = refl;
  names = λ c u. none_named c (c - 65) ∙ sym (ap (names_class c) (all_dropped text (2 * (length text / 2)) (omega (arith, even))));
}
  where
    all_dropped : (text : List ℕ) (n : ℕ) → n ≡ length text → drop n text ≡ []
    all_dropped [] zero e = refl
    all_dropped [] (suc n) e = refl
    all_dropped (c ∷ text) zero e = absurd (omega (arith, e))
    all_dropped (c ∷ text) (suc n) e = all_dropped text n (omega (arith, e))

    none_named : (c k : ℕ) → get_or (replicate 32 false) k false ≡ names_class c []
    none_named c k = at 32 k
      where
        at : (n k : ℕ) → get_or (replicate n false) k false ≡ false
        at zero k = refl
        at (suc n) zero = refl
        at (suc n) (suc k) = at n k

-- once all pairs are taken
pub all_taken : (text : List ℕ) (i : ℕ) (named : List Bool) (seats : List ℕ) → i ≤ 0 → From text i named seats → Some seats ≡ seats_in text
all_taken text i named seats l from = sym (subst (λ k. seats_in (drop k text) ≡ Some seats) (none_left i l) from.read)
  where
    none_left : (i : ℕ) → i ≤ 0 → 2 * i ≡ 0
    none_left i l = omega (arith, l)
