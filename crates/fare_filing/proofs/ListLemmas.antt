-- Actions of compact text one after another, and the filing that they are.
use Rattle.std.proofs.Common.{◌≡◌, ◌≤◌, ◌+◌, ℕ, suc, true, List, [], ◌∷◌, ◌++◌, length, Some, Ok, codes, refl, sym, ap, subst, ◌∙◌, arith, append_assoc, append-nil, length-append}
use Rattle.std.specs.Str.{IsUtf8}
use Rattle.json.specs.Lex.{tokens}
use Rattle.json.specs.Json as json
use Rattle.json.specs.Print.{escape_byte}
use Rattle.json.specs.Tree.{HasNumbers, ItemsHaveNumbers, depth as json_depth, items_depth as json_items_depth, json_tokens}
use Rattle.json.proofs.Printed.Tokens.{tokens-print}
use Rattle.json.proofs.Printed.Trees.{ArePrintable-json_tokens, value-json_tokens}
use Rattle.serde_json.specs.Data.{Data, array}
use Rattle.serde_json.specs.Read.{max_depth, of_items, of_json, read}
use Rattle.serde_json.specs.Written.{compact_text, items_outline, items_text, outline}
use Rattle.serde_json.proofs.Texts.{print-outline}
use Rattle.fare_law.specs.FilingLimits.{IsAction}
use Rattle.fare_law.specs.Lists.{Each, Matched}
use Rattle.fare_law.specs.declared.filings.Action.{Action}
use Rattle.rule_text.specs.Members.{item_count}
use Rattle.fare_filing.specs.Compact.{Begins, Begun, Ended, Spells, items_of, with_commas}
use Rattle.fare_filing.specs.Reading.{actions_from, filing_of, filing_spelled}
use Rattle.fare_filing.specs.Text.{sole}
use Rattle.fare_law.specs.declared.limits.TheConstants.{MOST_ACTIONS}
use Rattle.fare_filing.proofs.AgainLemmas.{spelled_again}
use Rattle.law_lemmas.proofs.EachOne.{each_more}
use Rattle.law_lemmas.proofs.Tests.{le_true}

-- one action more

matched_more : (ds : List Data) (actions : List Action) (d : Data) (a : Action) → Matched Spells ds actions → Spells d a → Matched Spells (ds ++ d ∷ []) (actions ++ a ∷ [])
matched_more [] [] d a h s = (s, tt)
matched_more [] (b ∷ actions) d a h s = absurd h
matched_more (e ∷ ds) [] d a h s = absurd h
matched_more (e ∷ ds) (b ∷ actions) d a h s = (h.0, matched_more ds actions d a h.1 s)

commas_more : (ds : List Data) (d : Data) (rest : List ℕ) → with_commas ds (compact_text d ++ 44 ∷ rest) ≡ with_commas (ds ++ d ∷ []) rest
commas_more [] d rest = refl
commas_more (e ∷ ds) d rest = ap (λ xs. compact_text e ++ 44 ∷ xs) (commas_more ds d rest)

pub begun_none : (text : List ℕ) → Begun text [] text
begun_none text = record { values = []; each = tt; text_is = refl }

pub begun_more : (text rest more next : List ℕ) (actions after : List Action) (a : Action) → Begun text actions rest → Begins rest a more → more ≡ 44 ∷ next → after ≡ actions ++ a ∷ [] → Begun text after next
begun_more text rest more next actions after a b s e is = subst (λ xs. Begun text xs next) (sym is) (record {
  values = b.values ++ s.json ∷ [];
  each = matched_more b.values actions s.json a b.each s.spells;
  text_is = b.text_is ∙ ap (with_commas b.values) (s.text_is ∙ ap (λ xs. compact_text s.json ++ xs) e) ∙ commas_more b.values s.json next;
})

-- the end of the list

items_end : (later : List ℕ) (ds : List Data) (d : Data) → items_text true (items_of (ds ++ d ∷ [])) ++ later ≡ 44 ∷ with_commas ds (compact_text d ++ 93 ∷ later)
items_end later [] d = ap (λ xs. 44 ∷ xs) (append_assoc (compact_text d) (93 ∷ []) later)
items_end later (e ∷ ds) d = ap (λ xs. 44 ∷ xs) (append_assoc (compact_text e) (items_text true (items_of (ds ++ d ∷ []))) later ∙ ap (λ xs. compact_text e ++ xs) (items_end later ds d))

array_end : (later : List ℕ) (ds : List Data) (d : Data) → compact_text (array (items_of (ds ++ d ∷ []))) ++ later ≡ 91 ∷ with_commas ds (compact_text d ++ 93 ∷ later)
array_end later [] d = ap (λ xs. 91 ∷ xs) (append_assoc (compact_text d) (93 ∷ []) later)
array_end later (e ∷ ds) d = ap (λ xs. 91 ∷ xs) (append_assoc (compact_text e) (items_text true (items_of (ds ++ d ∷ []))) later ∙ ap (λ xs. compact_text e ++ xs) (items_end later ds d))

pub ended : (text rest more : List ℕ) (actions after : List Action) (a : Action) → Begun text actions rest → Begins rest a more → more ≡ codes "]}" → after ≡ actions ++ a ∷ [] → Ended text after
ended text rest more actions after a b s e is = subst (λ xs. Ended text xs) (sym is) (record {
  values = b.values ++ s.json ∷ [];
  each = matched_more b.values actions s.json a b.each s.spells;
  text_is = ap (λ xs. 91 ∷ xs) (b.text_is ∙ ap (with_commas b.values) (s.text_is ∙ ap (λ xs. compact_text s.json ++ xs) e)) ∙ sym (array_end (125 ∷ []) b.values s.json);
})

pub limits_more : (actions after : List Action) (a : Action) → Each IsAction actions → IsAction a → after ≡ actions ++ a ∷ [] → Each IsAction after
limits_more actions after a h k is = subst (Each IsAction) (sym is) (each_more IsAction actions a h k)

pub count_more : (actions after : List Action) (a : Action) (n : ℕ) → length actions ≡ n → after ≡ actions ++ a ∷ [] → length after ≡ n + 1
count_more actions after a n e is = ap length is ∙ length-append actions (a ∷ []) ∙ ap (λ k. k + 1) e

pub ruleset list_steps = (begun_none, begun_more, ended, limits_more)

-- the whole text

items_number : (ds : List Data) (actions : List Action) → Matched Spells ds actions → ItemsHaveNumbers (items_outline (items_of ds))
items_number [] [] h = tt
items_number [] (a ∷ actions) h = absurd h
items_number (d ∷ ds) [] h = absurd h
items_number (d ∷ ds) (a ∷ actions) h = ((h.0).back.numbers, items_number ds actions h.1)

items_back : (ds : List Data) (actions : List Action) → Matched Spells ds actions → of_items (items_outline (items_of ds)) ≡ Some (items_of ds)
items_back [] [] h = refl
items_back [] (a ∷ actions) h = absurd h
items_back (d ∷ ds) [] h = absurd h
items_back (d ∷ ds) (a ∷ actions) h = rw ((h.0).back.again, items_back ds actions h.1) refl

items_nest : (ds : List Data) (actions : List Action) → Matched Spells ds actions → json_items_depth (items_outline (items_of ds)) ≤ 5
items_nest [] [] h = omega arith
items_nest [] (a ∷ actions) h = absurd h
items_nest (d ∷ ds) [] h = absurd h
items_nest (d ∷ ds) (a ∷ actions) h = let n = (h.0).back.nests in let k = items_nest ds actions h.1 in omega arith

items_spell : (n : ℕ) (ds : List Data) (actions : List Action) → Matched Spells ds actions → actions_from n (items_of ds) ≡ Ok actions
items_spell n [] [] h = refl
items_spell n [] (a ∷ actions) h = absurd h
items_spell n (d ∷ ds) [] h = absurd h
items_spell n (d ∷ ds) (a ∷ actions) h = rw ((h.0).spelled n, items_spell (suc n) ds actions h.1) refl

items_many : (ds : List Data) (actions : List Action) → Matched Spells ds actions → item_count (items_of ds) ≡ length actions
items_many [] [] h = refl
items_many [] (a ∷ actions) h = absurd h
items_many (d ∷ ds) [] h = absurd h
items_many (d ∷ ds) (a ∷ actions) h = ap suc (items_many ds actions h.1)

-- compact text that is read back is read as its value
read_compact : (d : Data) (text : List ℕ) → HasNumbers (outline d) → of_json (outline d) ≡ Some d → json_depth (outline d) ≤ max_depth → text ≡ compact_text d → read text ≡ Some d
read_compact d text numbers again nests e =
    let told : tokens text ≡ json_tokens (outline d) = ap tokens (e ∙ sym (print-outline d)) ∙ tokens-print (json_tokens (outline d)) (ArePrintable-json_tokens (outline d) numbers) in
    let whole : json.value max_depth (tokens text) ≡ Some (outline d, []) = ap (json.value max_depth) (told ∙ sym (append-nil (json_tokens (outline d)))) ∙ value-json_tokens (outline d) max_depth [] nests in
    rw whole again

module _ (bytes rest : List ℕ) (actions : List Action) (h : Ended rest actions) where
  abbrev whole_json : Data
  whole_json = sole (codes "actions") (array (items_of h.values))

  whole_text : bytes ≡ codes "{\"actions\":[" ++ rest → bytes ≡ compact_text whole_json
  unfolding escape_byte
  whole_text e = e ∙ ap (λ xs. codes "{\"actions\":" ++ xs) h.text_is

  whole_read : bytes ≡ codes "{\"actions\":[" ++ rest → read bytes ≡ Some whole_json
  whole_read e =
      read_compact whole_json bytes (items_number h.values actions h.each, tt) (rw (items_back h.values actions h.each) refl) (let n = items_nest h.values actions h.each in omega arith) (whole_text e)

  whole_spelled : length actions ≤ MOST_ACTIONS → filing_spelled whole_json ≡ Ok (record { actions = actions })
  unfolding filing_spelled
  whole_spelled few = rw (items_many h.values actions h.each, le_true (length actions) MOST_ACTIONS few, items_spell 1 h.values actions h.each) refl

pub filing_told : (bytes rest : List ℕ) (actions : List Action) → Ended rest actions → length actions ≤ MOST_ACTIONS → IsUtf8 bytes → bytes ≡ codes "{\"actions\":[" ++ rest → filing_of bytes ≡ Ok (record { actions = actions })
filing_told bytes rest actions h few utf8 e = rw (spelled_again bytes (whole_json bytes rest actions h) utf8 (whole_read bytes rest actions h e)) (whole_spelled bytes rest actions h few)
