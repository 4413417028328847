-- The line of a made case's filing is read as the filing of its rules and its fares.
use Rattle.std.proofs.Common.{◌≡◌, ◌≤◌, ◌+◌, ◌∙◌, ℕ, zero, suc, List, [], ◌∷◌, ◌++◌, length-append, map, codes, decimal, append_assoc, Ok, refl, ap, subst, arith}
use Rattle.std.specs.Str.{IsAscii, IsUtf8}
use Rattle.fare_filing.specs.Compact.{Begins, Begun, Ended, fare_action}
use Rattle.fare_filing.specs.Reading.{filing_of}
use Rattle.fare_filing.specs.Text.{kind_text}
use Rattle.fare_filing.proofs.CompactLemmas.{fare_begins}
use Rattle.fare_filing.proofs.ListLemmas.{begun_more, begun_none, ended, filing_told}
use Rattle.fare_law.specs.declared.fares.Fare.{Fare}
use Rattle.fare_law.specs.declared.filings.Action.{Action}
use Rattle.fare_law.specs.declared.filings.Action.TheVariants.{PutFare, PutRule}
use Rattle.fare_law.specs.Lists.{Each}
use Rattle.law_lemmas.proofs.Words.{ascii_is_utf8}
use Rattle.name_text.specs.Again.{NamesReadAgain}
use Rattle.case_maker.proofs.FilingBytes.{IsLineByte, basis_part, carrier_part, class_part, from_part, kind_part, line_bytes, rule_part, to_part}
use Rattle.case_maker.specs.Filings.{IsFilingLine, IsMadeFare, fares_text, rules_text}
use Rattle.case_maker.specs.Filing.{march_rule, return_rule, season_rule, weekend_rule}
use Rattle.std.proofs.lemmas.List.{length-map}
use Rattle.case_maker.proofs.RulesRead.{march, march_begins, return, return_begins, season, season_begins, weekend, weekend_begins}
use Rattle.case_maker.specs.Sections.{mx}

-- ---- one fare, and what follows

onto : (p x y rest : List ℕ) → x ++ rest ≡ y → (p ++ x) ++ rest ≡ p ++ y
onto p x y rest e = append_assoc p x rest ∙ ap (λ z. p ++ z) e

-- the parts of the action, each with those after it and what follows
abbrev to_after : Fare → List ℕ → List ℕ
to_after fare rest = codes ",\"to\":\"" ++ (fare.key.to.0 ++ (codes "\"}}" ++ rest))

abbrev rule_after : Fare → List ℕ → List ℕ
rule_after fare rest = codes "\",\"rule\":" ++ (decimal fare.rule ++ to_after fare rest)

abbrev kind_after : Fare → List ℕ → List ℕ
kind_after fare rest = codes "\",\"kind\":\"" ++ (kind_text fare.kind ++ rule_after fare rest)

abbrev from_after : Fare → List ℕ → List ℕ
from_after fare rest = codes "\",\"from\":\"" ++ (fare.key.from.0 ++ kind_after fare rest)

abbrev class_after : Fare → List ℕ → List ℕ
class_after fare rest = codes "\",\"class\":\"" ++ ((65 + fare.class) ∷ from_after fare rest)

abbrev carrier_after : Fare → List ℕ → List ℕ
carrier_after fare rest = codes "\",\"carrier\":\"" ++ (fare.key.carrier.0 ++ class_after fare rest)

abbrev basis_after : Fare → List ℕ → List ℕ
basis_after fare rest = codes ",\"basis\":\"" ++ (fare.key.basis.0 ++ carrier_after fare rest)

fare_onto : (fare : Fare) (rest : List ℕ) → fare_action fare [] ++ rest ≡ fare_action fare rest
fare_onto fare rest =
    let to : to_part fare ++ rest ≡ to_after fare rest = ap (λ z. codes ",\"to\":\"" ++ z) (onto fare.key.to.0 (codes "\"}}") (codes "\"}}" ++ rest) rest refl) in
    let rule : rule_part fare ++ rest ≡ rule_after fare rest = ap (λ z. codes "\",\"rule\":" ++ z) (onto (decimal fare.rule) (to_part fare) (to_after fare rest) rest to) in
    let kind : kind_part fare ++ rest ≡ kind_after fare rest = ap (λ z. codes "\",\"kind\":\"" ++ z) (onto (kind_text fare.kind) (rule_part fare) (rule_after fare rest) rest rule) in
    let from : from_part fare ++ rest ≡ from_after fare rest = ap (λ z. codes "\",\"from\":\"" ++ z) (onto fare.key.from.0 (kind_part fare) (kind_after fare rest) rest kind) in
    let class : class_part fare ++ rest ≡ class_after fare rest = ap (λ z. codes "\",\"class\":\"" ++ ((65 + fare.class) ∷ z)) from in
    let carrier : carrier_part fare ++ rest ≡ carrier_after fare rest = ap (λ z. codes "\",\"carrier\":\"" ++ z) (onto fare.key.carrier.0 (class_part fare) (class_after fare rest) rest class) in
    let basis : basis_part fare ++ rest ≡ basis_after fare rest = ap (λ z. codes ",\"basis\":\"" ++ z) (onto fare.key.basis.0 (carrier_part fare) (carrier_after fare rest) rest carrier) in
    ap (λ z. codes "{\"put_fare\":{\"amount\":" ++ z) (onto (decimal fare.amount) (basis_part fare) (basis_after fare rest) rest basis)

-- ---- fares one after another

-- after an action that begins the rest, what puts these fares ends the list
fares_end : NamesReadAgain → (text rest more : List ℕ) (actions : List Action) (a : Action) (fares : List Fare) → Each IsMadeFare fares → Begun text actions rest → Begins rest a more
    → more ≡ fares_text fares ++ codes "]}" → Ended text (actions ++ a ∷ map PutFare fares)
fares_end names text rest more actions a [] h begun begins e = ended text rest more actions (actions ++ a ∷ []) a begun begins e refl
fares_end names text rest more actions a (fare ∷ fares) h begun begins e =
    let next = fare_action fare [] ++ (fares_text fares ++ codes "]}") in
    let on : more ≡ 44 ∷ next = e ∙ ap (λ xs. 44 ∷ xs) (append_assoc (fare_action fare []) (fares_text fares) (codes "]}")) in
    let further = begun_more text rest more next actions (actions ++ a ∷ []) a begun begins on refl in
    let puts = fare_begins names fare next (fares_text fares ++ codes "]}") h.0.within (fare_onto fare (fares_text fares ++ codes "]}")) in
    subst (λ xs. Ended text xs) (append_assoc actions (a ∷ []) (PutFare fare ∷ map PutFare fares))
    (fares_end names text next (fares_text fares ++ codes "]}") (actions ++ a ∷ []) (PutFare fare) fares h.1 further puts refl)

pub is_ascii : (bs : List ℕ) → Each IsLineByte bs → IsAscii bs
is_ascii [] h i = omega arith
is_ascii (b ∷ bs) h zero = h.0.1
is_ascii (b ∷ bs) h (suc i) = is_ascii bs h.1 i

pub line_is_utf8 : (size : ℕ) (line : List ℕ) → IsFilingLine size line → IsUtf8 line
line_is_utf8 size line h = ascii_is_utf8 line (is_ascii line (line_bytes size line h))

-- ---- the whole line

abbrev pub rule_actions : List Action
rule_actions = PutRule mx 1 weekend ∷ PutRule mx 2 season ∷ PutRule mx 3 return ∷ PutRule mx 4 march ∷ []

-- the actions of rules and fares
abbrev pub all_actions : List Fare → List Action
all_actions fares = rule_actions ++ map PutFare fares

rules_end : NamesReadAgain → (fares : List Fare) → Each IsMadeFare fares → Ended (rules_text ++ (fares_text fares ++ codes "]}")) (all_actions fares)
rules_end names fares h =
    let last = fares_text fares ++ codes "]}" in
    let fourth = march_rule ++ last in
    let third = return_rule ++ 44 ∷ fourth in
    let second = season_rule ++ 44 ∷ third in
    let first = weekend_rule ++ 44 ∷ second in
    let text = rules_text ++ last in
    let one : Begun text (PutRule mx 1 weekend ∷ []) second = begun_more text first (44 ∷ second) second [] (PutRule mx 1 weekend ∷ []) (PutRule mx 1 weekend) (subst (λ t. Begun text [] t) parts (begun_none text)) (weekend_begins (44 ∷ second)) refl refl in
    let two : Begun text (PutRule mx 1 weekend ∷ PutRule mx 2 season ∷ []) third = begun_more text second (44 ∷ third) third (PutRule mx 1 weekend ∷ []) _ (PutRule mx 2 season) one (season_begins (44 ∷ third)) refl refl in
    let three : Begun text (PutRule mx 1 weekend ∷ PutRule mx 2 season ∷ PutRule mx 3 return ∷ []) fourth = begun_more text third (44 ∷ fourth) fourth (PutRule mx 1 weekend ∷ PutRule mx 2 season ∷ []) _ (PutRule mx 3 return) two (return_begins (44 ∷ fourth)) refl refl in
    fares_end names text fourth last (PutRule mx 1 weekend ∷ PutRule mx 2 season ∷ PutRule mx 3 return ∷ []) (PutRule mx 4 march) fares h three (march_begins last) refl
  where
    parts : rules_text ++ (fares_text fares ++ codes "]}") ≡ weekend_rule ++ 44 ∷ (season_rule ++ 44 ∷ (return_rule ++ 44 ∷ (march_rule ++ (fares_text fares ++ codes "]}"))))
    parts = refl

pub filing_read : NamesReadAgain → (size : ℕ) (line : List ℕ) → size ≤ 100 → (h : IsFilingLine size line) → filing_of line ≡ Ok (record { actions = all_actions h.has.fares })
filing_read names size line small h =
    filing_told line (rules_text ++ (fares_text h.has.fares ++ codes "]}")) (all_actions h.has.fares) (rules_end names h.has.fares h.has.each)
    (omega (arith, small, h.has.few, length-append rule_actions (map PutFare h.has.fares), length-map h.has.fares PutFare)) (line_is_utf8 size line h)
    (h.line_is ∙ ap (λ t. codes "{\"actions\":[" ++ (rules_text ++ (t ++ codes "]}"))) h.has.text_is)
