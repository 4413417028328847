use Rattle.std.proofs.Common.{◌≡◌, None, Some, sym, ap, ◌∙◌}
use Rattle.std.specs.Map.{lookup}
use Rattle.fare_law.specs.Book.{live_rule}
use Rattle.fare_book.specs.Keys.{same_rule}
use Rattle.fare_book.specs.Tables.{rule_of}
use Rattle.fare_book.proofs.Finding.{rule_found}
use Rattle.fare_book.proofs.Following.{rule_free}
use Rattle.fare_book.proofs.Stops.{none_live}
use Rattle.fare_book.proofs.sheets.rule_for.Goals as goal

pub returns-then-fare-eq0 : goal.returns-then-fare-eq0
returns-then-fare-eq0 c = λ b rules s. ap (live_rule b c.args.fare.now.key.carrier) c.if-fare-eq0.true ∙ rule_free b c.args.fare.now.key.carrier ∙ ap Some (sym c.requires)

pub returns-in-Some : goal.returns-in-Some
returns-in-Some c = λ b rules s.
    let entries = c.args.rules.now.entries in
    let found : lookup (same_rule (rule_of c.args.fare.now)) entries ≡ Some c.in-Some.rule.now = sym (c.in-Some.ensures.value ∙ rule_found entries c.rule_of.result ∙ ap (λ k. lookup (same_rule k) entries) c.rule_of.ensures) in
    sym (rules (rule_of c.args.fare.now) c.if-fare-eq0.false) ∙ found

pub returns-in-None : goal.returns-in-None
returns-in-None c = λ b rules s.
    let entries = c.args.rules.now.entries in
    let found : lookup (same_rule (rule_of c.args.fare.now)) entries ≡ None = sym (c.in-None.ensures.value ∙ rule_found entries c.rule_of.result ∙ ap (λ k. lookup (same_rule k) entries) c.rule_of.ensures) in
    none_live (live_rule b c.args.fare.now.key.carrier c.args.fare.now.rule) (sym (rules (rule_of c.args.fare.now) c.if-fare-eq0.false) ∙ found) s
