-- The bytes of the line of a made case's filing are ASCII, and none of them ends a line.
use Rattle.std.proofs.Common.{◌≡◌, ◌≤◌, ◌<◌, ◌+◌, ◌^◌, ◌&&◌, ℕ, true, List, [], ◌∷◌, ◌++◌, codes, decimal, sym, subst, arith, nat_lt, inl, inr, refl}
use Rattle.std.proofs.lemmas.Bool.Decides.{nat_tests}
use Rattle.std.specs.Int.{IsInRange}
use Rattle.std.specs.List.{list_all}
use Rattle.fare_filing.specs.Compact.{fare_action}
use Rattle.fare_filing.specs.Text.{kind_text}
use Rattle.fare_law.specs.declared.fares.Fare.{Fare}
use Rattle.fare_law.specs.declared.fares.FareKind.{FareKind}
use Rattle.fare_law.specs.declared.fares.FareKind.TheVariants.{O, R, S}
use Rattle.fare_law.specs.Limits.{IsCapital}
use Rattle.fare_law.specs.Lists.{Each}
use Rattle.fare_law.specs.Names.{IsCharacter}
use Rattle.law_lemmas.proofs.EachOne.{each_append}
use Rattle.law_lemmas.proofs.Tests.{both_true}
use Rattle.word_text.proofs.NumberLemmas.{digits_are}
use Rattle.case_maker.specs.Filings.{IsFilingLine, IsMadeFare, fares_text, rules_text}

abbrev pub IsLineByte : ℕ → Type 0
IsLineByte b = (14 ≤ b) × (b < 128)

pub known_bytes : (line : List ℕ) → list_all (λ b. nat_lt 13 b && nat_lt b 128) line ≡ true → Each IsLineByte line
known_bytes [] e = tt
known_bytes (b ∷ line) e = let h = both_true (nat_lt 13 b && nat_lt b 128) (list_all (λ c. nat_lt 13 c && nat_lt c 128) line) e in (byte b h.0, known_bytes line h.1)
  where
    byte : (b : ℕ) → (nat_lt 13 b && nat_lt b 128) ≡ true → IsLineByte b
    byte b e = (grind (arith, nat_tests), grind (arith, nat_tests))

known_then : (piece rest : List ℕ) → list_all (λ b. nat_lt 13 b && nat_lt b 128) piece ≡ true → Each IsLineByte rest → Each IsLineByte (piece ++ rest)
known_then piece rest e h = each_append IsLineByte piece rest (known_bytes piece e) h

digit_bytes : (ds : List ℕ) → Each (IsInRange 48 57) ds → Each IsLineByte ds
digit_bytes [] h = tt
digit_bytes (d ∷ ds) h = ((omega (arith, h.0.0), omega (arith, h.0.1)), digit_bytes ds h.1)

capital_bytes : (cs : List ℕ) → Each IsCapital cs → Each IsLineByte cs
capital_bytes [] h = tt
capital_bytes (c ∷ cs) h = ((omega (arith, h.0.0), omega (arith, h.0.1)), capital_bytes cs h.1)

character_byte : (c : ℕ) → IsCharacter c → IsLineByte c
character_byte c (inl h) = (omega (arith, h.0), omega (arith, h.1))
character_byte c (inr h) = (omega (arith, h.0), omega (arith, h.1))

character_bytes : (cs : List ℕ) → Each IsCharacter cs → Each IsLineByte cs
character_bytes [] h = tt
character_bytes (c ∷ cs) h = (character_byte c h.0, character_bytes cs h.1)

kind_bytes : (kind : FareKind) → Each IsLineByte (kind_text kind)
kind_bytes O = ((omega arith, omega arith), tt)
kind_bytes R = ((omega arith, omega arith), tt)
kind_bytes S = ((omega arith, omega arith), tt)

number_then : (n : ℕ) (rest : List ℕ) → n < 2 ^ 64 → Each IsLineByte rest → Each IsLineByte (decimal n ++ rest)
number_then n rest small h = each_append IsLineByte (decimal n) rest (digit_bytes (decimal n) (digits_are n small)) h

-- the parts of the action, each with those after it
abbrev pub to_part : Fare → List ℕ
to_part fare = codes ",\"to\":\"" ++ (fare.key.to.0 ++ codes "\"}}")

abbrev pub rule_part : Fare → List ℕ
rule_part fare = codes "\",\"rule\":" ++ (decimal fare.rule ++ to_part fare)

abbrev pub kind_part : Fare → List ℕ
kind_part fare = codes "\",\"kind\":\"" ++ (kind_text fare.kind ++ rule_part fare)

abbrev pub from_part : Fare → List ℕ
from_part fare = codes "\",\"from\":\"" ++ (fare.key.from.0 ++ kind_part fare)

abbrev pub class_part : Fare → List ℕ
class_part fare = codes "\",\"class\":\"" ++ ((65 + fare.class) ∷ from_part fare)

abbrev pub carrier_part : Fare → List ℕ
carrier_part fare = codes "\",\"carrier\":\"" ++ (fare.key.carrier.0 ++ class_part fare)

abbrev pub basis_part : Fare → List ℕ
basis_part fare = codes ",\"basis\":\"" ++ (fare.key.basis.0 ++ carrier_part fare)

fare_bytes : (fare : Fare) → IsMadeFare fare → Each IsLineByte (fare_action fare [])
fare_bytes fare h =
    let key = h.within.key in
    let low = h.within.amount in
    let small = h.within.rule in
    let letter = h.within.class in
    let to : Each IsLineByte (to_part fare) = known_then (codes ",\"to\":\"") (fare.key.to.0 ++ codes "\"}}") refl (each_append IsLineByte fare.key.to.0 (codes "\"}}") (capital_bytes fare.key.to.0 key.to.1) (known_bytes (codes "\"}}") refl)) in
    let rule : Each IsLineByte (rule_part fare) = known_then (codes "\",\"rule\":") (decimal fare.rule ++ to_part fare) refl (number_then fare.rule (to_part fare) (omega (arith, small)) to) in
    let kind : Each IsLineByte (kind_part fare) = known_then (codes "\",\"kind\":\"") (kind_text fare.kind ++ rule_part fare) refl (each_append IsLineByte (kind_text fare.kind) (rule_part fare) (kind_bytes fare.kind) rule) in
    let from : Each IsLineByte (from_part fare) = known_then (codes "\",\"from\":\"") (fare.key.from.0 ++ kind_part fare) refl (each_append IsLineByte fare.key.from.0 (kind_part fare) (capital_bytes fare.key.from.0 key.from.1) kind) in
    let lettered : Each IsLineByte ((65 + fare.class) ∷ from_part fare) = ((omega arith, omega (arith, letter)), from) in
    let class : Each IsLineByte (class_part fare) = known_then (codes "\",\"class\":\"") ((65 + fare.class) ∷ from_part fare) refl lettered in
    let carrier : Each IsLineByte (carrier_part fare) = known_then (codes "\",\"carrier\":\"") (fare.key.carrier.0 ++ class_part fare) refl (each_append IsLineByte fare.key.carrier.0 (class_part fare) (character_bytes fare.key.carrier.0 key.carrier.1) class) in
    let basis : Each IsLineByte (basis_part fare) = known_then (codes ",\"basis\":\"") (fare.key.basis.0 ++ carrier_part fare) refl (each_append IsLineByte fare.key.basis.0 (carrier_part fare) (character_bytes fare.key.basis.0 key.basis.2) carrier) in
    known_then (codes "{\"put_fare\":{\"amount\":") (decimal fare.amount ++ basis_part fare) refl (number_then fare.amount (basis_part fare) (omega (arith, low)) basis)

fares_bytes : (fares : List Fare) → Each IsMadeFare fares → Each IsLineByte (fares_text fares)
fares_bytes [] h = tt
fares_bytes (fare ∷ fares) h = each_append IsLineByte (44 ∷ fare_action fare []) (fares_text fares) ((omega arith, omega arith), fare_bytes fare h.0) (fares_bytes fares h.1)

pub line_bytes : (size : ℕ) (line : List ℕ) → IsFilingLine size line → Each IsLineByte line
line_bytes size line h =
    subst (Each IsLineByte) (sym h.line_is)
    (known_then (codes "{\"actions\":[") (rules_text ++ (h.text ++ codes "]}")) refl (known_then rules_text (h.text ++ codes "]}") refl
    (each_append IsLineByte h.text (codes "]}") (subst (Each IsLineByte) (sym h.has.text_is) (fares_bytes h.has.fares h.has.each)) (known_bytes (codes "]}") refl))))
