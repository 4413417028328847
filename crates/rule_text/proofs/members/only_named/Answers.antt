use borrow.Author.Tests.{tests}
use Rattle.std.proofs.Common.{◌∙◌, ◌||◌, String, Global, string_bytes, rules}
use Rattle.std.proofs.lemmas.Iterator.Consumers.{YieldsList-from_rest}
use Rattle.std.proofs.lemmas.Iterator.Search.{all_from_yields_List}
use Rattle.std.specs.Map.{keys_of}
use Rattle.rule_text.specs.Members.{is_one_of}
use Rattle.rule_text.proofs.NameLemmas.{names_told, told}
use Rattle.rule_text.proofs.members.only_named.Goals as goal

pub returns : goal.returns
returns c =
    let these = told c.args.these.now in
    let those = told c.args.those.now in
    all_from_yields_List (λ (key : String Global). is_one_of these (string_bytes key) || is_one_of those (string_bytes key)) _ _ c.all.result c.all.ensures.ran (YieldsList-from_rest (keys_of c.args.members.now.entries) (cc)) (λ x b q k. search (rules, tests))
    ∙ names_told these those c.args.members.now.entries
