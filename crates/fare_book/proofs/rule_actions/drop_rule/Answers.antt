use Rattle.std.proofs.Common.{◌≡◌, ◌-◌, None, refl, sym, subst, ◌∙◌, arith}
use Rattle.fare_law.specs.declared.filings.Action.TheVariants.{DropRule}
use Rattle.fare_law.specs.Book.{live_fare, live_rule}
use Rattle.fare_book.specs.Drafts.{RulesKept}
use Rattle.fare_book.specs.Tables.{NamesRule}
use Rattle.fare_book.specs.declared.keys.RuleKey.{RuleKey}
use Rattle.fare_book.proofs.Assembled.{rules_alone}
use Rattle.fare_book.proofs.Counting.{none_counted, some_counted}
use Rattle.fare_book.proofs.Following.{fares_stay, rule_dropped_after, seats_stay}
use Rattle.fare_book.proofs.RuleKeeping.{fares_stay_kept, proper_number, rules_gone, stand_drop}
use Rattle.fare_book.proofs.Stops.{faultless_rule, rule_in_use}
use Rattle.law_lemmas.proofs.Options.{some_of}
use Rattle.fare_book.proofs.rule_actions.drop_rule.Goals as goal

pub returns-then-uses_of-ne0 : goal.returns-then-uses_of-ne0
returns-then-uses_of-ne0 c = λ b d.
    let k = c.args.carrier in
    let m = c.args.number in
    let key : RuleKey = record { carrier = k; number = m } in
    let has = (c.has_rule.ensures b d.rules_kept.rules_are).0 c.if-not-has_rule.false in
    let named = some_counted (NamesRule (live_fare b) key) _ (d.fares_kept.uses_are key) (λ z. c.if-uses_of-ne0.true (c.uses_of.ensures.value ∙ z)) in
    rule_in_use b k m has (named.0, named.1.0, named.1.1, named.1.2, named.1.3)

pub returns : goal.returns
returns c = λ b next d f.
    let old = c.args.draft.now in
    let k = c.args.carrier in
    let m = c.args.number in
    let key : RuleKey = record { carrier = k; number = m } in
    let proper = proper_number m c.requires.1 in
    let step = rule_dropped_after b next k m f in
    let has = (c.has_rule.ensures b d.rules_kept.rules_are).0 c.if-not-has_rule.false in
    let was = some_of (live_rule b k m) has in
    let none = none_counted (NamesRule (live_fare b) key) _ (d.fares_kept.uses_are key) (sym c.uses_of.ensures.value ∙ c.if-uses_of-ne0.false) in
    let count : c.saturating_sub-draft.result ≡ old.rule_count - 1 = grind (arith, c.saturating_sub-draft.ensures) in (
      rules_alone b next _ (fares_stay b next (DropRule k m) (λ q. refl) f) (seats_stay b next (DropRule k m) (λ q. refl) f)
          (record {
            fares_kept = fares_stay_kept (live_rule b) (live_rule next) k m None proper step (live_fare b) old.changed.keys c.unset_rule.new.changed.keys c.in_ok-unset_rule.ensures.changed old.sheets.entries old.tables.entries old.fare_count old.uses.entries d.fares_kept;
            rules_kept = subst (RulesKept (live_rule next) c.unset_rule.new.rules.entries) (sym count) (rules_gone (live_rule b) (live_rule next) k m None proper step old.rules.entries c.unset_rule.new.rules.entries c.in_ok-unset_rule.ensures.rules old.rule_count d.rules_kept was.0 refl was.1);
            seats_kept = d.seats_kept;
            stand = stand_drop (live_rule b) (live_rule next) k m None proper step (live_fare b) none d.fares_kept.keyed d.stand;
          }),
      faultless_rule b k m has (λ u. none u.0 (u.1, u.2, u.3, u.4)),
    )
