-- Names as text: they are ASCII, and each is read again as itself. Given on to the crates above.
use Rattle.std.proofs.Common.{◌≡◌, ◌+◌, ◌-◌, ℕ, zero, suc, eq-eqb, true, List, [], ◌∷◌, length, Some, refl, arith, ap}
use Rattle.std.specs.List.{list_all}
use Rattle.std.specs.Str.{IsAscii, IsUtf8}
use Rattle.std.proofs.lemmas.Bool.Decides.{nat_tests}
use Rattle.std.proofs.lemmas.Str.{IsUtf8-from_ascii}
use Rattle.fare_law.specs.Lists.{Each}
use Rattle.fare_law.specs.Limits.{IsClass, IsPlace}
use Rattle.fare_law.specs.Names.{IsBasis, IsCarrier, IsCharacter}
use Rattle.fare_law.specs.declared.names.Basis.{Basis}
use Rattle.fare_law.specs.declared.names.Carrier.{Carrier}
use Rattle.fare_law.specs.declared.names.Place.{Place}
use Rattle.name_text.specs.Names.{place_of, carrier_of, basis_of, class_of, is_character}
use Rattle.law_lemmas.proofs.Names.{carrier_is_ascii, place_is_ascii}
use Rattle.law_lemmas.proofs.Tests.{le_true}
use Rattle.law_lemmas.proofs.Words.{capital_again, capitals_again, characters_are_ascii}

pub ascii_is_utf8 : (bs : List ℕ) → IsAscii bs → IsUtf8 bs
ascii_is_utf8 = IsUtf8-from_ascii

-- names are ASCII

pub basis_is_ascii : (b : Basis) → IsBasis b → IsAscii b.0
basis_is_ascii b h = characters_are_ascii b.0 h.2

pub letter_is_ascii : (class : ℕ) → IsClass class → IsAscii ((65 + class) ∷ [])
letter_is_ascii class h zero = omega arith
letter_is_ascii class h (suc i) = omega arith

-- names are read again

pub character_again : (c : ℕ) → IsCharacter c → is_character c ≡ true
character_again c h = grind (arith, nat_tests)

pub characters_again : (cs : List ℕ) → Each IsCharacter cs → list_all is_character cs ≡ true
characters_again [] h = refl
characters_again (c ∷ cs) h = rw (character_again c h.0) (characters_again cs h.1)

pub place_again : (p : Place) → IsPlace p → place_of p.0 ≡ Some p
unfolding place_of
place_again p h = rw (eq-eqb (length p.0) 3 h.0, capitals_again p.0 h.1) refl

pub carrier_again : (c : Carrier) → IsCarrier c → carrier_of c.0 ≡ Some c
unfolding carrier_of
carrier_again c h = rw (eq-eqb (length c.0) 2 h.0, characters_again c.0 h.1) refl

pub basis_again : (b : Basis) → IsBasis b → basis_of b.0 ≡ Some b
unfolding basis_of
basis_again b h = rw (le_true 1 (length b.0) h.0, le_true (length b.0) 8 h.1, characters_again b.0 h.2) refl

back : (class : ℕ) → (65 + class) - 65 ≡ class
back class = omega arith

pub class_again : (class : ℕ) → IsClass class → class_of ((65 + class) ∷ []) ≡ Some class
unfolding class_of
class_again class h = rw (capital_again (65 + class) (omega arith, omega arith)) (ap Some (back class))

pub ruleset text_rules = (place_is_ascii, carrier_is_ascii, basis_is_ascii, letter_is_ascii)
