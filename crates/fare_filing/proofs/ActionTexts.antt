-- The text that is written for an action is read again as the action where it stands in a filing.
use Rattle.std.proofs.Common.{◌≡◌, ◌≤◌, ℕ, false, List, [], ◌++◌, Some, option_and_then, sym, ap, ◌∙◌, arith, append-nil}
use Rattle.json.specs.Lex.{tokens}
use Rattle.json.specs.Json as json
use Rattle.json.specs.Tree.{depth as json_depth, items_depth as json_items_depth, members_depth as json_members_depth, json_tokens}
use Rattle.json.proofs.Numbered.{ArePrintableOrBad-tokens, value-HasNumbers}
use Rattle.json.proofs.Printed.Trees.{value-json_tokens}
use Rattle.serde_json.specs.Data.{Data, null, boolean, number, string, array, object, Items, no_items, item, Members, no_members, member, depth, items_depth, members_depth}
use Rattle.serde_json.specs.Read.{max_depth, of_json, read}
use Rattle.serde_json.specs.Written.{IsInOrder, compact_text, has_float, outline, items_outline, members_outline}
use Rattle.serde_json.proofs.Texts.{tokens_from_order}
use Rattle.fare_law.specs.FilingLimits.{IsAction}
use Rattle.fare_law.specs.declared.filings.Action.{Action}
use Rattle.name_text.specs.Again.{NamesReadAgain}
use Rattle.fare_filing.specs.Compact.{Begins, ReadsBack}
use Rattle.fare_filing.specs.Text.{WritesAction}
use Rattle.fare_filing.proofs.AgainLemmas.{StandAside, action_again}
use Rattle.fare_filing.proofs.PlainLemmas.{action_plain}

-- as JSON a value nests no deeper

mutual
  outline_nests : (d : Data) → json_depth (outline d) ≤ depth d
  outline_nests null = omega arith
  outline_nests (boolean b) = omega arith
  outline_nests (number n) = omega arith
  outline_nests (string s) = omega arith
  outline_nests (array ds) = let n = items_nest ds in omega arith
  outline_nests (object ms) = let n = members_nest ms in omega arith

  items_nest : (ds : Items) → json_items_depth (items_outline ds) ≤ items_depth ds
  items_nest no_items = omega arith
  items_nest (item d ds) = let n = outline_nests d in let k = items_nest ds in omega arith

  members_nest : (ms : Members) → json_members_depth (members_outline ms) ≤ members_depth ms
  members_nest no_members = omega arith
  members_nest (member k d ms) = let n = outline_nests d in let l = members_nest ms in omega arith

-- what was written for a shallow value without floats is read again as the value
written_back : (d : Data) (text : List ℕ) → IsInOrder text d → has_float d ≡ false → depth d ≤ 5 → read text ≡ Some d → ReadsBack d
written_back d text order plain shallow reads =
    let nests : json_depth (outline d) ≤ 5 = (let n = outline_nests d in omega arith) in
    let whole : json.value max_depth (tokens text) ≡ Some (outline d, []) =
    ap (json.value max_depth) (tokens_from_order text d order plain ∙ sym (append-nil (json_tokens (outline d)))) ∙ value-json_tokens (outline d) max_depth [] (omega arith) in
    record {
      numbers = value-HasNumbers max_depth (tokens text) [] (outline d) (ArePrintableOrBad-tokens text) whole;
      again = sym (ap (λ o. option_and_then of_json (option_and_then (λ p. json.if_last p.0 p.1) o)) whole) ∙ reads;
      nests = nests;
    }

pub action_begins : NamesReadAgain → StandAside → (a : Action) (d : Data) (text rest : List ℕ) → IsAction a → WritesAction a d → (has_float d ≡ false → text ≡ compact_text d) → IsInOrder text d → (depth d ≤ max_depth → read text ≡ Some d) → Begins (text ++ rest) a rest
action_begins names aside a d text rest h w compact order reads =
    let plain = action_plain a d h w in
    record {
      json = d;
      spells = record {
        back = written_back d text order plain.no_float plain.nests (reads (let n = plain.nests in omega arith));
        spelled = λ n. action_again names aside a n d h w;
      };
      text_is = ap (λ xs. xs ++ rest) (compact plain.no_float);
    }
