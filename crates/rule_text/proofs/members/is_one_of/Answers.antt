use borrow.Author.Tests.{tests}
use Rattle.std.proofs.Common.{◌∙◌, ℕ, List, Bor, bytes_eq, rules}
use Rattle.std.proofs.lemmas.Iterator.{YieldsList-from_slice}
use Rattle.std.proofs.lemmas.Iterator.Search.{any_from_yields_List}
use Rattle.rule_text.proofs.NameLemmas.{any_told}
use Rattle.rule_text.proofs.members.is_one_of.Goals as goal

pub returns : goal.returns
returns c =
    any_from_yields_List (λ (n : Bor (List ℕ)). bytes_eq n.now c.args.name.now) _ _ c.any.result c.any.ensures.ran (YieldsList-from_slice c.args.names.now cc) (λ x b q k. search (rules, tests))
    ∙ any_told c.args.names.now c.args.name.now
