use borrow.Author.Tests.{tests}
use Rattle.std.proofs.Common.{◌∙◌, ℕ, List, Bor, is_some, rules}
use Rattle.std.proofs.lemmas.Iterator.{YieldsList-from_slice}
use Rattle.std.proofs.lemmas.Iterator.Search.{all_from_yields_List}
use Rattle.serde_json.specs.Find.{get}
use Rattle.serde_json.specs.View.{view}
use Rattle.rule_text.proofs.NameLemmas.{all_told}
use Rattle.rule_text.proofs.members.all_there.Goals as goal

pub returns : goal.returns
returns c =
    all_from_yields_List (λ (n : Bor (List ℕ)). is_some (get n.now (view c.args.value.now))) _ _ c.all.result c.all.ensures.ran (YieldsList-from_slice c.args.names.now cc) (λ x b q k. search (rules, tests))
    ∙ all_told c.args.names.now (view c.args.value.now)
