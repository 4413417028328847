use Rattle.std.proofs.Common.{List, Some, ap, subst, sym, ◌∙◌, ◌≡◌, slice_get}
use Rattle.fare_ends.specs.declared.rule_numbers.KnownRule.{KnownRule}
use Rattle.fare_law.specs.Lists.{IsIn}
use Rattle.joint_paths.specs.declared.ruled_heads.Ruled.{Ruled}
use Rattle.joint_paths.specs.Ruled.{IsOwnRule, IsRuled, IsSaidByName, rule_name}
use Rattle.law_lemmas.proofs.EachOne.{each_in}
use Rattle.law_lemmas.proofs.Options.{if_ok, some_same}
use Rattle.joint_paths.proofs.ruled_heads.RuledHeads.find.Goals as goal

pub returns-in-Some-clause-ruled : goal.returns-in-Some-clause-ruled
returns-in-Some-clause-ruled c = λ one e.
    let k = c.args.bucket.now in
    let self = c.args.self.now in
    let rules = c.args.rules.now.of.items in
    let same : one ≡ c.get-rule.result.now = some_same one c.get-rule.result.now (sym e ∙ c.get-rule.ensures) in
    let own = subst (IsOwnRule k) (some_same c.requires.rule.0 one (sym c.requires.rule.1 ∙ e)) c.requires.rule.2 in
    each_in (IsSaidByName k rules self.charges.items) self.of.items c.in-Some.ruled c.requires.known (subst (λ (xs : List Ruled). IsIn c.in-Some.ruled xs) c.as_slice.ensures.value c.in-Some.ensures.0)
    c.args.number one e own (c.in-Some.ensures.1 ∙ c.name_of-name.ensures ∙ ap (λ r. rule_name r c.args.number) (sym same))

pub add-requires-clause-rule : goal.add-requires-clause-rule
add-requires-clause-rule c = subst (IsOwnRule c.args.bucket.now) (some_same c.requires.rule.0 c.get-rule.result.now (sym c.requires.rule.1 ∙ c.get-rule.ensures)) c.requires.rule.2

pub returns-in-None-clause-known : goal.returns-in-None-clause-known
returns-in-None-clause-known c = c.add.ensures.known c.args.rules.now.of.items c.args.number c.get-rule.ensures c.name_of-name.ensures c.requires.known

pub returns-in-None-clause-ruled : goal.returns-in-None-clause-ruled
returns-in-None-clause-ruled c =
    let k = c.args.bucket.now in
    let charges = c.add.new.self.charges.items in
    if_ok c.add.result (IsRuled k charges c.get-rule.result.now) (λ r. (one : KnownRule) → slice_get c.args.rules.now.of.items c.args.number ≡ Some one → IsRuled k charges one r)
    (λ r is one e. subst (λ z. IsRuled k charges z r) (some_same c.get-rule.result.now one (sym c.get-rule.ensures ∙ e)) is) c.add.ensures.ruled
