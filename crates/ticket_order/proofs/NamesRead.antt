-- The carrier and the basis of a number: its digits to the base of 37 are the values of their characters.
use Rattle.std.proofs.Common.{◌≡◌, ◌≢◌, ◌↔◌, ℕ, zero, suc, ◌+◌, ◌-◌, ◌*◌, ◌/◌, ◌%◌, ◌^◌, ◌≤◌, ◌<◌, List, [], ◌∷◌, ◌++◌, length, Option, Some, None, refl, sym, ap, ap₂, ◌∙◌, subst, arith, append_assoc, append-nil, length-append}
use Rattle.std.proofs.lemmas.Nat.{div-add-mod'}
use Rattle.std.proofs.Math.Nat.{mod-lt, pow-le-pow_right}
use Rattle.fare_law.specs.declared.names.Basis.{Basis}
use Rattle.fare_law.specs.declared.names.Carrier.{Carrier}
use Rattle.fare_law.specs.Lists.{Each}
use Rattle.fare_law.specs.Names.{IsBasis, IsCarrier, IsCharacter}
use Rattle.fare_law.specs.Codes.{basis_number, carrier_number, character_value, in_places}
use Rattle.ticket_order.proofs.Codes.{basis_one, carrier_one, digits, places_below, positive, some_places, value_one}
use Rattle.law_lemmas.proofs.Options.{some_same}

-- this is the character of a value, if there is one
abbrev pub IsFound : ℕ → Option ℕ → Type 0
IsFound value found = (c : ℕ) → (found ≡ Some c) ↔ (IsCharacter c × (character_value c ≡ value))

none_found : (value : ℕ) (c : ℕ) → IsFound value None → IsCharacter c → character_value c ≡ value → ⊥
none_found value c h is e = let f : None ≡ Some c = (h c).1 (is, e) in absurd (cc)

-- ---- carriers

abbrev of_two : ℕ → ℕ → Carrier
of_two a b = record { 0 = a ∷ b ∷ [] }

pub carrier_found : (n a b : ℕ) → IsFound (n / 37) (Some a) → IsFound (n % 37) (Some b) → (c : Carrier) → (Some (record { 0 = a ∷ b ∷ [] }) ≡ Some c) ↔ (IsCarrier c × (carrier_number c ≡ n))
carrier_found n a b h k c = (
  λ e. subst (λ z. IsCarrier z × (carrier_number z ≡ n)) (some_same (of_two a b) c e) (is, number),
  λ p. ap Some (carrier_one (of_two a b) c is p.0 (number ∙ sym p.1)),
)
  where
    first : IsCharacter a × (character_value a ≡ n / 37)
    first = (h a).0 refl

    second : IsCharacter b × (character_value b ≡ n % 37)
    second = (k b).0 refl

    is : IsCarrier (of_two a b)
    is = (refl, (first.0, (second.0, tt)))

    number : carrier_number (of_two a b) ≡ n
    number = omega (arith, first.1, second.1, div-add-mod' n 37)

-- ---- bases

places_none : (n : ℕ) → in_places n [] ≡ 0
places_none zero = refl
places_none (suc n) = refl

split_each : (xs ys : List ℕ) → Each IsCharacter (xs ++ ys) → Each IsCharacter ys
split_each [] ys h = h
split_each (x ∷ xs) ys h = split_each xs ys h.1

push_each : (xs : List ℕ) (y : ℕ) → Each IsCharacter xs → IsCharacter y → Each IsCharacter (xs ++ y ∷ [])
push_each [] y h k = (k, tt)
push_each (x ∷ xs) y h k = (h.0, push_each xs y h.1 k)

-- After these characters this rest is still to be read.
pub record Digits (number place : ℕ) (characters : List ℕ) (rest : ℕ) : Type 0 where
  pub long : length characters ≡ place
  pub each : Each IsCharacter characters
  pub sound : (more : List ℕ) → in_places (8 - place) more ≡ rest → in_places 8 (characters ++ more) ≡ number
  pub whole : (cs : List ℕ) → length cs ≤ 8 → Each IsCharacter cs → in_places 8 cs ≡ number → (more : List ℕ) × (cs ≡ characters ++ more) × (in_places (8 - place) more ≡ rest)

pub digits_none : (number : ℕ) → Digits number 0 [] number
digits_none number = record { long = refl; each = tt; sound = λ more e. e; whole = λ cs l h e. (cs, refl, e) }

module _ (number place rest : ℕ) (characters : List ℕ) (d : Digits number place characters rest) (lt : place < 8) where
  left : 8 - place ≡ suc (7 - place)
  left = omega arith

  here : (c : ℕ) (more : List ℕ) → in_places (8 - place) (c ∷ more) ≡ character_value c * 37 ^ (7 - place) + in_places (7 - place) more
  here c more = ap (λ n. in_places n (c ∷ more)) left

  next_place : 8 - (place + 1) ≡ 7 - place
  next_place = omega arith

  -- the next character of such a basis
  next_digit : (cs : List ℕ) → rest ≢ 0 → length cs ≤ 8 → Each IsCharacter cs → in_places 8 cs ≡ number
      → (c : ℕ) × (more : List ℕ) × (cs ≡ characters ++ c ∷ more) × IsCharacter c × (character_value c ≡ rest / 37 ^ (7 - place)) × (in_places (7 - place) more ≡ rest % 37 ^ (7 - place))
  next_digit cs some l h e = let w = d.whole cs l h e in split w.0 w.1 w.2
    where
      split : (more : List ℕ) → cs ≡ characters ++ more → in_places (8 - place) more ≡ rest
          → (c : ℕ) × (more : List ℕ) × (cs ≡ characters ++ c ∷ more) × IsCharacter c × (character_value c ≡ rest / 37 ^ (7 - place)) × (in_places (7 - place) more ≡ rest % 37 ^ (7 - place))
      split [] q r = absurd (some (sym r ∙ places_none (8 - place)))
      split (c ∷ more) q r =
          let k = split_each characters (c ∷ more) (subst (Each IsCharacter) q h) in
          let u = 37 ^ (7 - place) in
          let s = digits (character_value c) (rest / u) u (in_places (7 - place) more) (rest % u) (places_below (7 - place) more k.1) (mod-lt rest (positive (7 - place)))
          (sym (here c more) ∙ r ∙ sym (div-add-mod' rest u)) in
          (c, more, q, k.0, s.0, s.1)

  pub digit_lost : rest ≢ 0 → IsFound (rest / 37 ^ (7 - place)) None → (cs : List ℕ) → length cs ≤ 8 → Each IsCharacter cs → in_places 8 cs ≡ number → ⊥
  digit_lost some none cs l h e = let n = next_digit cs some l h e in none_found (rest / 37 ^ (7 - place)) n.0 none n.3 n.4

  pub digit_read : (c : ℕ) → rest ≢ 0 → IsFound (rest / 37 ^ (7 - place)) (Some c) → Digits number (place + 1) (characters ++ c ∷ []) (rest % 37 ^ (7 - place))
  digit_read c some found = record {
    long = omega (arith, length-append characters (c ∷ []), d.long);
    each = push_each characters c d.each is.0;
    sound = λ more e. ap (in_places 8) (append_assoc characters (c ∷ []) more) ∙ d.sound (c ∷ more) (here c more ∙ ap₂ (λ x y. x * 37 ^ (7 - place) + y) is.1 (ap (λ n. in_places n more) (sym next_place) ∙ e) ∙ div-add-mod' rest (37 ^ (7 - place)));
    whole = λ cs l h e.
        let n = next_digit cs some l h e in
        let same : n.0 ≡ c = value_one n.0 c n.3 is.0 (n.4 ∙ sym is.1) in
        (n.1, n.2 ∙ ap (λ z. characters ++ z ∷ n.1) same ∙ sym (append_assoc characters (c ∷ []) n.1), ap (λ m. in_places m n.1) next_place ∙ n.5);
  }
    where
      is : IsCharacter c × (character_value c ≡ rest / 37 ^ (7 - place))
      is = (found c).0 refl

pub unit_fits : (place : ℕ) → 37 ^ (7 - place) < 2 ^ 64
unit_fits place = let m : 37 ^ (7 - place) ≤ 37 ^ 7 = pow-le-pow_right {n = 37} (omega arith) {i = 7 - place} {j = 7} (omega arith) in omega arith

pub unit_some : (place : ℕ) → 37 ^ (7 - place) ≢ 0
unit_some place e = let p = positive (7 - place) in omega (arith, e, p)

-- nothing is read of 0, and a rest past the last place is of no basis
pub basis_none : (number : ℕ) → number ≡ 0 → (b : Basis) → IsBasis b → basis_number b ≡ number → ⊥
basis_none number z b is e = go b.0 is.0 is.2 e
  where
    go : (cs : List ℕ) → 1 ≤ length cs → Each IsCharacter cs → in_places 8 cs ≡ number → ⊥
    go [] l h e = omega arith
    go (c ∷ cs) l h e = omega (arith, some_places 7 c cs h.0)

pub basis_past : (number rest : ℕ) (characters : List ℕ) → Digits number 8 characters rest → rest ≢ 0 → (b : Basis) → IsBasis b → basis_number b ≡ number → ⊥
basis_past number rest characters d some b is e = let w = d.whole b.0 is.1 is.2 e in some (sym w.2)

abbrev of_characters : List ℕ → Basis
of_characters cs = record { 0 = cs }

pub basis_found : (number place : ℕ) (characters : List ℕ) → Digits number place characters 0 → place ≤ 8 → number ≢ 0 → (b : Basis) → (Some (record { 0 = characters }) ≡ Some b) ↔ (IsBasis b × (basis_number b ≡ number))
basis_found number place characters d few some b = (
  λ e. subst (λ z. IsBasis z × (basis_number z ≡ number)) (some_same (of_characters characters) b e) (is, read),
  λ p. ap Some (basis_one (of_characters characters) b is p.0 (read ∙ sym p.1)),
)
  where
    read : basis_number (of_characters characters) ≡ number
    read = ap (in_places 8) (sym (append-nil characters)) ∙ d.sound [] (places_none (8 - place))

    least : (cs : List ℕ) → in_places 8 cs ≡ number → 1 ≤ length cs
    least [] e = absurd (some (sym e))
    least (c ∷ cs) e = omega arith

    is : IsBasis (of_characters characters)
    is = (least characters read, omega (arith, d.long), d.each)
