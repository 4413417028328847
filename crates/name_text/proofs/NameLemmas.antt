-- The characters of names whose letters were tested. Given on to the crates above.
use Rattle.std.proofs.Common.{◌≡◌, ◌≤◌, ℕ, Bool, true, false, ◌||◌, ◌⊎◌, inl, inr, refl, List, [], ◌∷◌, arith}
use Rattle.std.specs.Char.{is_ascii_digit, is_ascii_uppercase}
use Rattle.std.specs.List.{list_all}
use Rattle.std.proofs.lemmas.Bool.Decides.{nat_tests}
use Rattle.fare_law.specs.Lists.{Each}
use Rattle.fare_law.specs.Names.{IsCharacter}
use Rattle.name_text.specs.Names.{is_character}
use Rattle.fare_law.specs.Limits.{IsCapital}
use Rattle.law_lemmas.proofs.Tests.{both_true}

either : (a b : Bool) → (a || b) ≡ true → (a ≡ true) ⊎ (b ≡ true)
either true b e = inl refl
either false b e = inr e

capital : (c : ℕ) → is_ascii_uppercase c ≡ true → IsCapital c
capital c e = grind (arith, nat_tests)

digit : (c : ℕ) → is_ascii_digit c ≡ true → (48 ≤ c) × (c ≤ 57)
digit c e = grind (arith, nat_tests)

character : (c : ℕ) → is_character c ≡ true → IsCharacter c
character c e =
    elim (either (is_ascii_uppercase c) (is_ascii_digit c) e) [ inl h ↦ inr (capital c h) | inr h ↦ inl (digit c h) ]

each_tested : (test : ℕ → Bool) (P : ℕ → Type 0) → ((c : ℕ) → test c ≡ true → P c) → (cs : List ℕ) → list_all test cs ≡ true → Each P cs
each_tested test P tells [] e = tt
each_tested test P tells (c ∷ cs) e = let h = both_true (test c) (list_all test cs) e in (tells c h.0, each_tested test P tells cs h.1)

pub capitals : (cs : List ℕ) → list_all is_ascii_uppercase cs ≡ true → Each IsCapital cs
capitals cs e = each_tested is_ascii_uppercase IsCapital capital cs e

pub characters : (cs : List ℕ) → list_all is_character cs ≡ true → Each IsCharacter cs
characters cs e = each_tested is_character IsCharacter character cs e

pub ruleset name_rules = (capitals, characters)
